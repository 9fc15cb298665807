-- Values told apart by their parts are those that the order of values tells apart.
use Rattle.std.proofs.Common.{◌≡◌, pos, Bool, true, false, ◌&&◌, [], refl, ◌∙◌, bytes_eq, nat_eq, Ordering, Less, Equal, Greater}
use Rattle.std.specs.Cmp.Lexicographic.{slice_cmp, texts_ties}
use Rattle.std.specs.Ordering.{nat_cmp, int_cmp, int_eq, is_eq, match_ordering}
use Rattle.sp_value.specs.declared.cell.Cell.{Cell}
use Rattle.sp_value.specs.declared.cell.Cell.TheOpen.{Cell-F}
use Rattle.sp_value.specs.declared.cell.Cell.TheViews.{out-Cell}
use Rattle.sp_model.specs.Conditions.{value_rank, scalar_cmp_at}
use Rattle.sp_model.specs.Units.{same_scalar}
use Rattle.source_scans.specs.Telling.{number_at, text_at, same_value}

abbrev same_at : Cell-F Cell → Cell-F Cell → Bool
same_at x y = nat_eq (value_rank x) (value_rank y) && (int_eq (number_at x) (number_at y) && bytes_eq (text_at x) (text_at y))

abbrev level : Ordering → Bool
level o = match_ordering o false true false

level_is : (o : Ordering) → is_eq o ≡ level o
level_is Less = refl
level_is Equal = refl
level_is Greater = refl

and_true : (b : Bool) → (b && true) ≡ b
and_true true = refl
and_true false = refl

others : (y : Cell-F Cell) → (nat_eq 3 (value_rank y) && (int_eq (pos 0) (number_at y) && bytes_eq [] (text_at y))) ≡ level (nat_cmp 3 (value_rank y))
others (Cell-F.Bool b) = refl
others (Cell-F.Int n) = refl
others (Cell-F.Text t) = refl
others (Cell-F.List xs) = refl
others (Cell-F.Object ms) = refl
others Cell-F.Null = refl

bools : (a b : Bool) → same_at (Cell-F.Bool a) (Cell-F.Bool b) ≡ level (scalar_cmp_at (Cell-F.Bool a) (Cell-F.Bool b))
bools true true = refl
bools true false = refl
bools false true = refl
bools false false = refl

by_layers : (x y : Cell-F Cell) → same_at x y ≡ level (scalar_cmp_at x y)
by_layers (Cell-F.Bool a) (Cell-F.Bool b) = bools a b
by_layers (Cell-F.Int a) (Cell-F.Int b) = and_true (int_eq a b) ∙ level_is (int_cmp a b)
by_layers (Cell-F.Text a) (Cell-F.Text b) = texts_ties a b ∙ level_is (slice_cmp nat_cmp a b)
by_layers (Cell-F.Bool a) _ = refl
by_layers (Cell-F.Int a) _ = refl
by_layers (Cell-F.Text a) _ = refl
by_layers (Cell-F.List xs) y = others y
by_layers (Cell-F.Object ms) y = others y
by_layers Cell-F.Null y = others y

pub same_values : (x y : Cell) → same_value x y ≡ same_scalar x y
same_values x y = by_layers (out-Cell x) (out-Cell y)
