-- Fields of items, and kinds of values.
use Rattle.std.specs.Prelude.{ℕ, Bool, true, false, List, Option, Some, None}
use Rattle.sp_value.specs.Names.{value_under}
use Rattle.sp_value.specs.declared.kind.Kind.{Kind}
use Rattle.sp_value.specs.declared.kind.Kind.TheVariants as kind
use Rattle.sp_value.specs.declared.cell.Cell.{Cell}
use Rattle.sp_value.specs.declared.cell.Cell as c
use Rattle.sp_value.specs.declared.cell.Cell.TheOpen.{Cell-F}
use Rattle.sp_value.specs.declared.cell.Cell.TheViews.{out-Cell}

abbrev pub or_null : Option Cell → Cell
or_null (Some x) = x
or_null None = c.Null

abbrev pub field_at : List ℕ → Cell-F Cell → Cell
field_at name (Cell-F.Object ms) = or_null (value_under name ms)
field_at name _ = c.Null

-- the value under a name in an object, null where there is none
abbrev pub field : List ℕ → Cell → Cell
field name x = field_at name (out-Cell x)

abbrev pub is_kind_at : Kind → Cell-F Cell → Bool
is_kind_at kind.Json x = true
is_kind_at k Cell-F.Null = true
is_kind_at kind.Bool (Cell-F.Bool b) = true
is_kind_at kind.Int (Cell-F.Int z) = true
is_kind_at kind.Text (Cell-F.Text t) = true
is_kind_at _ _ = false

-- null is of every kind, and every value is of the kind json
abbrev pub is_of_kind : Kind → Cell → Bool
is_of_kind k x = is_kind_at k (out-Cell x)
