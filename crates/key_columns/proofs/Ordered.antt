-- Conditions that are sorted and rid of equals are in canonical order.
use Rattle.std.proofs.Common.{◌≡◌, ℕ, ℤ, pos, Bool, true, false, List, [], ◌∷◌, reverse, refl, sym, ap, ◌∙◌, subst, Ordering, Less, Equal, Greater}
use Rattle.std.proofs.lemmas.Cmp.{nat_cmp_total, int_cmp_total, nat_list_cmp_total, on_total, then_total}
use Rattle.std.proofs.lemmas.List.Sorted.{ranks_by}
use Rattle.std.specs.Cmp.{IsTotalOrder, IsStrictWeakOrder}
use Rattle.std.specs.Cmp.Lexicographic.{slice_cmp}
use Rattle.std.specs.List.{dedup}
use Rattle.std.specs.List.Sorted.{IsSortedBy, IsStableBy}
use Rattle.std.specs.Ordering.{nat_cmp, int_cmp, bool_cmp, is_lt, match_ordering, ordering_then, on, then_cmp}
use Rattle.sp_value.specs.declared.cell.Cell.{Cell}
use Rattle.sp_value.specs.declared.cell.Cell.TheOpen.{Cell-F}
use Rattle.sp_value.specs.declared.cell.Cell.TheViews.{out-Cell}
use Rattle.sp_model.specs.Conditions.{value_rank, scalar_cmp_at, operator_rank, condition_cmp}
use Rattle.sp_model.specs.Covers.{same_condition}
use Rattle.sp_model.specs.Keys.{put_condition, canonical}
use Rattle.sp_model.specs.declared.call.Condition.{Condition}
use Rattle.key_columns.proofs.Placing.{put, placed, placed_is}

-- a value as a rank, a number and a text
abbrev Parts : Type 0
Parts = ℕ × (ℤ × List ℕ)

abbrev number_of : Bool → ℤ
number_of false = pos 0
number_of true = pos 1

abbrev parts_at : Cell-F Cell → Parts
parts_at (Cell-F.Bool b) = (0, (number_of b, []))
parts_at (Cell-F.Int n) = (1, (n, []))
parts_at (Cell-F.Text t) = (2, (pos 0, t))
parts_at _ = (3, (pos 0, []))

abbrev parts_cmp : Parts → Parts → Ordering
parts_cmp = then_cmp (on (λ p. p.0) nat_cmp) (then_cmp (on (λ p. p.1.0) int_cmp) (on (λ p. p.1.1) (slice_cmp nat_cmp)))

parts_total : IsTotalOrder parts_cmp
parts_total = then_total (on_total (λ p. p.0) nat_cmp_total) (then_total (on_total (λ p. p.1.0) int_cmp_total) (on_total (λ p. p.1.1) nat_list_cmp_total))

bools : (a b : Bool) → bool_cmp a b ≡ ordering_then (int_cmp (number_of a) (number_of b)) Equal
bools false false = refl
bools false true = refl
bools true false = refl
bools true true = refl

then_equal : (r : Ordering) → r ≡ ordering_then r Equal
then_equal Less = refl
then_equal Equal = refl
then_equal Greater = refl

others : (y : Cell-F Cell) → nat_cmp 3 (value_rank y) ≡ parts_cmp (3, (pos 0, [])) (parts_at y)
others (Cell-F.Bool b) = refl
others (Cell-F.Int n) = refl
others (Cell-F.Text t) = refl
others (Cell-F.List xs) = refl
others (Cell-F.Object ms) = refl
others Cell-F.Null = refl

by_parts : (x y : Cell-F Cell) → scalar_cmp_at x y ≡ parts_cmp (parts_at x) (parts_at y)
by_parts (Cell-F.Bool a) (Cell-F.Bool b) = bools a b
by_parts (Cell-F.Int a) (Cell-F.Int b) = then_equal (int_cmp a b)
by_parts (Cell-F.Text a) (Cell-F.Text b) = refl
by_parts (Cell-F.Bool a) _ = refl
by_parts (Cell-F.Int a) _ = refl
by_parts (Cell-F.Text a) _ = refl
by_parts (Cell-F.List xs) y = others y
by_parts (Cell-F.Object ms) y = others y
by_parts Cell-F.Null y = others y

abbrev column_of : Condition → List ℕ
column_of c = c.column

abbrev rank_of : Condition → ℕ
rank_of c = operator_rank c.operator

abbrev value_of : Condition → Parts
value_of c = parts_at (out-Cell c.value)

abbrev order : Condition → Condition → Ordering
order = then_cmp (on column_of (slice_cmp nat_cmp)) (then_cmp (on rank_of nat_cmp) (on value_of parts_cmp))

order_total : IsTotalOrder order
order_total = then_total (on_total column_of nat_list_cmp_total) (then_total (on_total rank_of nat_cmp_total) (on_total value_of parts_total))

match_then : (o p : Ordering) → match_ordering o Less p Greater ≡ ordering_then o p
match_then Less p = refl
match_then Equal p = refl
match_then Greater p = refl

by_order : (a b : Condition) → condition_cmp a b ≡ order a b
by_order a b =
    ap (λ o. match_ordering (slice_cmp nat_cmp a.column b.column) Less (match_ordering (nat_cmp (operator_rank a.operator) (operator_rank b.operator)) Less o Greater) Greater)
    (by_parts (out-Cell a.value) (out-Cell b.value))
    ∙ ap (λ o. match_ordering (slice_cmp nat_cmp a.column b.column) Less o Greater)
    (match_then (nat_cmp (operator_rank a.operator) (operator_rank b.operator)) (parts_cmp (parts_at (out-Cell a.value)) (parts_at (out-Cell b.value))))
    ∙ match_then (slice_cmp nat_cmp a.column b.column)
    (ordering_then (nat_cmp (operator_rank a.operator) (operator_rank b.operator)) (parts_cmp (parts_at (out-Cell a.value)) (parts_at (out-Cell b.value))))

total : IsTotalOrder condition_cmp
total = subst IsTotalOrder (λ i a b. sym (by_order a b) i) order_total

abbrev pub before : Condition → Condition → Bool
before a b = is_lt (condition_cmp a b)

pub is_order : IsStrictWeakOrder before
is_order = ranks_by total (λ c. c)

put_is : (c : Condition) (ds : List Condition) → put condition_cmp c ds ≡ put_condition c ds
put_is c [] = refl
put_is c (d ∷ ds) = ap (λ l. match_ordering (condition_cmp c d) (c ∷ d ∷ ds) (d ∷ ds) (d ∷ l)) (put_is c ds)

canonical_by : (cs : List Condition) → placed condition_cmp cs ≡ canonical cs
canonical_by [] = refl
canonical_by (c ∷ cs) = ap (put condition_cmp c) (canonical_by cs) ∙ put_is c (canonical cs)

pub canonical_is : (cs ds : List Condition) → IsSortedBy before ds → IsStableBy before (reverse cs) ds → dedup same_condition ds ≡ canonical cs
canonical_is cs ds sorted stable = placed_is condition_cmp total cs ds sorted stable ∙ canonical_by cs
