-- Conditions in canonical order.
use Rattle.std.specs.Prelude.{ℕ, Bool, true, false, ◌&&◌, List, [], ◌∷◌}
use Rattle.std.specs.declared.cmp.Ordering.{Ordering}
use Rattle.std.specs.declared.cmp.Ordering.TheVariants.{Less, Greater}
use Rattle.std.specs.Ordering.{nat_cmp, int_cmp, bool_cmp, match_ordering}
use Rattle.std.specs.Cmp.Lexicographic.{slice_cmp}
use Rattle.sp_value.specs.declared.cell.Cell.{Cell}
use Rattle.sp_value.specs.declared.cell.Cell.TheOpen.{Cell-F}
use Rattle.sp_value.specs.declared.cell.Cell.TheViews.{out-Cell}
use Rattle.sp_value.specs.declared.truth.Op.{Op}
use Rattle.sp_value.specs.declared.truth.Op.TheVariants.{Eq, Ne, Lt, Le, Gt, Ge}
use Rattle.sp_model.specs.declared.call.Condition.{Condition}

abbrev pub is_scalar_at : Cell-F Cell → Bool
is_scalar_at (Cell-F.Bool b) = true
is_scalar_at (Cell-F.Int z) = true
is_scalar_at (Cell-F.Text t) = true
is_scalar_at _ = false

-- a boolean, an integer or a text
abbrev pub is_scalar : Cell → Bool
is_scalar c = is_scalar_at (out-Cell c)

-- booleans, integers and texts, and then all other values
abbrev pub value_rank : Cell-F Cell → ℕ
value_rank (Cell-F.Bool b) = 0
value_rank (Cell-F.Int z) = 1
value_rank (Cell-F.Text t) = 2
value_rank _ = 3

abbrev pub scalar_cmp_at : Cell-F Cell → Cell-F Cell → Ordering
scalar_cmp_at (Cell-F.Bool a) (Cell-F.Bool b) = bool_cmp a b
scalar_cmp_at (Cell-F.Int a) (Cell-F.Int b) = int_cmp a b
scalar_cmp_at (Cell-F.Text a) (Cell-F.Text b) = slice_cmp nat_cmp a b
scalar_cmp_at x y = nat_cmp (value_rank x) (value_rank y)

-- booleans before integers before texts before all other values, which it doesn't tell apart; texts by their bytes
abbrev pub scalar_cmp : Cell → Cell → Ordering
scalar_cmp x y = scalar_cmp_at (out-Cell x) (out-Cell y)

abbrev pub operator_rank : Op → ℕ
operator_rank Eq = 0
operator_rank Ne = 1
operator_rank Lt = 2
operator_rank Le = 3
operator_rank Gt = 4
operator_rank Ge = 5

-- by the bytes of the column, then the operator, then the value
abbrev pub condition_cmp : Condition → Condition → Ordering
condition_cmp a b =
    match_ordering (slice_cmp nat_cmp a.column b.column) Less
    (match_ordering (nat_cmp (operator_rank a.operator) (operator_rank b.operator)) Less (scalar_cmp a.value b.value) Greater)
    Greater

abbrev pub is_before : Condition → Condition → Bool
is_before a b = match_ordering (condition_cmp a b) true false false

-- each value is a scalar, and each condition is before the next
abbrev pub is_canonical : List Condition → Bool
is_canonical [] = true
is_canonical (c ∷ []) = is_scalar c.value
is_canonical (c ∷ d ∷ more) = is_scalar c.value && is_before c d && is_canonical (d ∷ more)
