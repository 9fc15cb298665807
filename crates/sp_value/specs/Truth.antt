-- Three-valued comparison of two values.
use Rattle.std.specs.Prelude.{Bool, true, false, Option, Some, None, if◌then◌else◌}
use Rattle.std.specs.Ordering.{nat_cmp, int_cmp, bool_cmp}
use Rattle.std.specs.Cmp.Lexicographic.{slice_cmp}
use Rattle.std.specs.declared.cmp.Ordering.{Ordering}
use Rattle.std.specs.declared.cmp.Ordering.TheVariants.{Less, Equal, Greater}
use Rattle.sp_value.specs.declared.cell.Cell.{Cell}
use Rattle.sp_value.specs.declared.cell.Cell.TheOpen.{Cell-F}
use Rattle.sp_value.specs.declared.cell.Cell.TheViews.{out-Cell}
use Rattle.sp_value.specs.declared.truth.Op.{Op}
use Rattle.sp_value.specs.declared.truth.Op.TheVariants as op
use Rattle.sp_value.specs.declared.truth.Truth.{Truth}
use Rattle.sp_value.specs.declared.truth.Truth.TheVariants.{Yes, No, Unknown}

-- the order of two booleans, two integers or two texts
abbrev pub order_at : Cell-F Cell → Cell-F Cell → Option Ordering
order_at (Cell-F.Bool a) (Cell-F.Bool b) = Some (bool_cmp a b)
order_at (Cell-F.Int a) (Cell-F.Int b) = Some (int_cmp a b)
order_at (Cell-F.Text a) (Cell-F.Text b) = Some (slice_cmp nat_cmp a b)
order_at _ _ = None

abbrev pub order_of : Cell → Cell → Option Ordering
order_of x y = order_at (out-Cell x) (out-Cell y)

-- which orders each comparison is met by
abbrev pub holds : Op → Ordering → Bool
holds op.Eq Equal = true
holds op.Eq _ = false
holds op.Ne Equal = false
holds op.Ne _ = true
holds op.Lt Less = true
holds op.Lt _ = false
holds op.Le Greater = false
holds op.Le _ = true
holds op.Gt Greater = true
holds op.Gt _ = false
holds op.Ge Less = false
holds op.Ge _ = true

abbrev pub truth_at : Op → Option Ordering → Truth
truth_at o (Some found) = if holds o found then Yes else No
truth_at o None = Unknown

-- what a comparison says: yes or no where the two values have an order
abbrev pub truth : Op → Cell → Cell → Truth
truth o x y = truth_at o (order_of x y)
