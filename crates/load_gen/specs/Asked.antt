-- What a call asks of the generated world.
use Rattle.std.specs.Prelude.{ℕ, pos, negsuc, Bool, true, false, ◌&&◌, List, [], ◌∷◌, codes, bytes_eq, nat_le, Option, Some, None, if◌then◌else◌}
use Rattle.sp_value.specs.declared.cell.Cell.{Cell}
use Rattle.sp_value.specs.declared.cell.Cell.TheOpen.{Cell-F}
use Rattle.sp_value.specs.declared.cell.Cell.TheViews.{out-Cell}
use Rattle.sp_value.specs.declared.truth.Op.{Op}
use Rattle.sp_value.specs.declared.truth.Op.TheVariants.{Eq}
use Rattle.sp_model.specs.Fields.{field}
use Rattle.sp_model.specs.declared.call.Condition.{Condition}

abbrev pub natural_at : Cell-F Cell → Option ℕ
natural_at (Cell-F.Int (pos n)) = Some n
natural_at _ = None

-- an integer that isn't negative
abbrev pub natural : Cell → Option ℕ
natural x = natural_at (out-Cell x)

-- the number of a row, its field `id`
abbrev pub id_of : Cell → Option ℕ
id_of item = natural (field (codes "id") item)

abbrev pub is_equality : Op → Bool
is_equality Eq = true
is_equality _ = false

-- from 1 to 100,000
abbrev pub within : Option ℕ → Option ℕ
within None = None
within (Some n) = if nat_le 1 n && nat_le n 100000 then Some n else None

-- the size of a condition `size = N`
abbrev pub size_in : Condition → Option ℕ
size_in condition = if bytes_eq condition.column (codes "size") && is_equality condition.operator then within (natural condition.value) else None

-- the size that a list is asked for by its one condition
abbrev pub size_of : List Condition → Option ℕ
size_of (condition ∷ []) = size_in condition
size_of _ = None
