-- The order of rows is an order.
use Rattle.std.proofs.Common.{◌≡◌, ℕ, ℤ, pos, Bool, true, false, List, [], ◌∷◌, refl, sym, subst, Ordering, Less, Equal, Greater}
use Rattle.std.specs.Cmp.{IsTotalOrder, IsStrictWeakOrder}
use Rattle.std.specs.Cmp.Lexicographic.{slice_cmp}
use Rattle.std.specs.Ordering.{nat_cmp, int_cmp, bool_cmp, ordering_then, on, then_cmp}
use Rattle.std.proofs.lemmas.Cmp.{nat_cmp_total, int_cmp_total, nat_list_cmp_total, on_total, then_total, back_total}
use Rattle.std.proofs.lemmas.List.Sorted.{ranks_by}
use Rattle.sp_value.specs.declared.cell.Cell.{Cell}
use Rattle.sp_value.specs.declared.cell.Cell.TheOpen.{Cell-F}
use Rattle.sp_value.specs.declared.cell.Cell.TheViews.{out-Cell}
use Rattle.sp_value.specs.Truth.{order_at}
use Rattle.row_algebra.specs.declared.ordering.OrderKey.{OrderKey}
use Rattle.row_algebra.specs.RowTruth.{cell_at}
use Rattle.row_algebra.specs.RowOrder.{rank_at, order_or, cell_order, directed, row_order, comes_before}

-- a value as a rank, a number and a text
abbrev Parts : Type 0
Parts = ℕ × (ℤ × List ℕ)

abbrev number_of : Bool → ℤ
number_of false = pos 0
number_of true = pos 1

abbrev parts_at : Cell-F Cell → Parts
parts_at (Cell-F.Bool b) = (0, (number_of b, []))
parts_at (Cell-F.Int n) = (1, (n, []))
parts_at (Cell-F.Text t) = (2, (pos 0, t))
parts_at (Cell-F.List xs) = (3, (pos 0, []))
parts_at (Cell-F.Object ms) = (3, (pos 0, []))
parts_at Cell-F.Null = (4, (pos 0, []))

abbrev parts_cmp : Parts → Parts → Ordering
parts_cmp = then_cmp (on (λ p. p.0) nat_cmp) (then_cmp (on (λ p. p.1.0) int_cmp) (on (λ p. p.1.1) (slice_cmp nat_cmp)))

parts_total : IsTotalOrder parts_cmp
parts_total = then_total (on_total (λ p. p.0) nat_cmp_total) (then_total (on_total (λ p. p.1.0) int_cmp_total) (on_total (λ p. p.1.1) nat_list_cmp_total))

bools : (a b : Bool) → bool_cmp a b ≡ ordering_then (int_cmp (number_of a) (number_of b)) Equal
bools false false = refl
bools false true = refl
bools true false = refl
bools true true = refl

then_equal : (r : Ordering) → r ≡ ordering_then r Equal
then_equal Less = refl
then_equal Equal = refl
then_equal Greater = refl

by_parts : (x y : Cell-F Cell) → order_or (order_at x y) (nat_cmp (rank_at x) (rank_at y)) ≡ parts_cmp (parts_at x) (parts_at y)
by_parts (Cell-F.Bool a) (Cell-F.Bool b) = bools a b
by_parts (Cell-F.Int a) (Cell-F.Int b) = then_equal (int_cmp a b)
by_parts (Cell-F.Text a) (Cell-F.Text b) = refl
by_parts (Cell-F.List xs) Cell-F.Null = refl
by_parts (Cell-F.Object ms) Cell-F.Null = refl
by_parts Cell-F.Null Cell-F.Null = refl
by_parts (Cell-F.Bool a) _ = refl
by_parts (Cell-F.Int a) _ = refl
by_parts (Cell-F.Text a) _ = refl
by_parts (Cell-F.List xs) _ = refl
by_parts (Cell-F.Object ms) _ = refl
by_parts Cell-F.Null _ = refl

cell_total : IsTotalOrder cell_order
cell_total = subst IsTotalOrder (λ i x y. sym (by_parts (out-Cell x) (out-Cell y)) i) (on_total (λ x. parts_at (out-Cell x)) parts_total)

directed_total : (down : Bool) → IsTotalOrder (directed down)
directed_total true = back_total cell_total
directed_total false = cell_total

row_total : (keys : List OrderKey) → IsTotalOrder (row_order keys)
row_total [] = record { antisymm = λ x y. refl; trans = λ x y z p q. p; congr = λ x y z p. refl }
row_total (key ∷ keys) = then_total (on_total (λ row. cell_at row key.column) (directed_total key.down)) (row_total keys)

pub is_order : (keys : List OrderKey) → IsStrictWeakOrder (comes_before keys)
is_order keys = ranks_by (row_total keys) (λ row. row)
