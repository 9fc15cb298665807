-- The rows of the generated world, and what its functions give of them.
use Rattle.std.specs.Prelude.{ℕ, pos, Bool, ◌==◌, ◌&&◌, ◌%◌, List, [], ◌∷◌, ◌++◌, map, codes}
use Rattle.std.specs.Fmt.{decimal}
use Rattle.std.specs.List.{range_with_len}
use Rattle.sp_value.specs.declared.cell.Cell.{Cell}
use Rattle.sp_value.specs.declared.cell.Cell as c

-- the row of a number, among so many
abbrev pub item : ℕ → ℕ → Cell
item size id = c.Object ((codes "id", c.Int (pos id)) ∷ (codes "size", c.Int (pos size)) ∷ [])

-- so many rows, numbered from 0
abbrev pub items : ℕ → List Cell
items size = map (item size) (range_with_len 0 size)

-- the first attempt at the owner of each row whose number ends in 3
abbrev pub is_throttled : ℕ → ℕ → Bool
is_throttled id attempt = (attempt == 1) && ((id % 10) == 3)

-- there are seven owners
abbrev pub owner : ℕ → Cell
owner id = c.Object ((codes "owner", c.Text (codes "o" ++ decimal (id % 7))) ∷ [])

abbrev pub score : ℕ → Cell
score id = c.Object ((codes "score", c.Int (pos (id % 1000))) ∷ [])
