-- One row more.
use Rattle.std.proofs.Common.{◌≡◌, ℕ, zero, suc, ◌+◌, ◌<◌, ◌++◌, ℤ, pos, ◌+ℤ◌, List, [], ◌∷◌, length, map, take, get_or, fold, refl, add-one, arith}
use Rattle.std.specs.List.{range_with_len}
use Rattle.std.proofs.lemmas.List.FromFn.{map-range_with_len_more}
use Rattle.sp_value.specs.declared.cell.Cell.{Cell}
use Rattle.load_gen.specs.Rows.{item}
use Rattle.load_gen.specs.Summary.{third}

pub items_more : (size id : ℕ) → map (item size) (range_with_len 0 (id + 1)) ≡ map (item size) (range_with_len 0 id) ++ item size id ∷ []
items_more size id = map-range_with_len_more (item size) 0 id id (omega arith)

sum_from : (z : ℤ) (rows : List (List Cell)) (at : ℕ) (d : List Cell) → at < length rows
    → fold ◌+ℤ◌ z (map third (take (suc at) rows)) ≡ (fold ◌+ℤ◌ z (map third (take at rows))) +ℤ third (get_or rows at d)
sum_from z [] at d h = absurd (omega (arith, h))
sum_from z (row ∷ rows) zero d h = refl
sum_from z (row ∷ rows) (suc at) d h = sum_from (z +ℤ third row) rows at d (omega (arith, h))

pub sum_more : (rows : List (List Cell)) (at : ℕ) (d : List Cell) → at < length rows
    → fold ◌+ℤ◌ (pos 0) (map third (take (at + 1) rows)) ≡ (fold ◌+ℤ◌ (pos 0) (map third (take at rows))) +ℤ third (get_or rows at d)
sum_more rows at d h = rw add-one (sum_from (pos 0) rows at d h)
