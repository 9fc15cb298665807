-- Conditions in their order.
use Rattle.std.proofs.Common.{◌≡◌, ℕ, zero, suc, ℤ, pos, Bool, true, false, List, [], refl, sym, ap, ◌∙◌, arith, rules}
use Rattle.std.proofs.lemmas.Cmp.{nat_cmp_total, int_cmp_total, nat_list_cmp_total, on_total, then_total, tied_itself, ranked, int_ranked}
use Rattle.std.proofs.lemmas.Map.Lookups.{exact_bytes}
use Rattle.std.specs.Cmp.{IsTotalOrder}
use Rattle.std.specs.Cmp.Lexicographic.{slice_cmp}
use Rattle.std.specs.Ordering.{nat_cmp, int_cmp, bool_cmp, on, then_cmp, ordering_then, ordering_reverse, match_ordering}
use Rattle.std.specs.declared.cmp.Ordering.{Ordering}
use Rattle.std.specs.declared.cmp.Ordering.TheVariants.{Less, Equal, Greater}
use Rattle.sp_value.specs.declared.cell.Cell.{Cell, the_lemmas}
use Rattle.sp_value.specs.declared.cell.Cell.TheOpen.{Cell-F}
use Rattle.sp_value.specs.declared.cell.Cell.TheViews.{out-Cell, roll-Cell}
use Rattle.sp_value.specs.declared.truth.Op.{Op}
use Rattle.sp_value.specs.declared.truth.Op.TheVariants.{Eq, Ne, Lt, Le, Gt, Ge}
use Rattle.sp_model.specs.Conditions.{is_scalar_at, is_scalar, value_rank, scalar_cmp_at, operator_rank, condition_cmp, is_before}
use Rattle.sp_model.specs.Covers.{same_condition}
use Rattle.sp_model.specs.declared.call.Condition.{Condition}

-- ---- a total order that is that of the definitions on scalars

abbrev bit : Bool → ℕ
bit true = 1
bit false = 0

abbrev bit_at : Cell-F Cell → ℕ
bit_at (Cell-F.Bool b) = bit b
bit_at _ = 0

abbrev int_at : Cell-F Cell → ℤ
int_at (Cell-F.Int z) = z
int_at _ = pos 0

abbrev text_at : Cell-F Cell → List ℕ
text_at (Cell-F.Text t) = t
text_at _ = []

abbrev layer_cmp : Cell-F Cell → Cell-F Cell → Ordering
layer_cmp = then_cmp (on value_rank nat_cmp) (then_cmp (on bit_at nat_cmp) (then_cmp (on int_at int_cmp) (on text_at (slice_cmp nat_cmp))))

layer_total : IsTotalOrder layer_cmp
layer_total = then_total (on_total value_rank nat_cmp_total) (then_total (on_total bit_at nat_cmp_total) (then_total (on_total int_at int_cmp_total) (on_total text_at nat_list_cmp_total)))

then_equal : (o : Ordering) → ordering_then o Equal ≡ o
then_equal Less = refl
then_equal Equal = refl
then_equal Greater = refl

bits : (a b : Bool) → bool_cmp a b ≡ ordering_then (nat_cmp (bit a) (bit b)) Equal
bits true true = refl
bits true false = refl
bits false true = refl
bits false false = refl

layers_same : (x y : Cell-F Cell) → is_scalar_at x ≡ true → is_scalar_at y ≡ true → scalar_cmp_at x y ≡ layer_cmp x y
layers_same (Cell-F.Bool a) (Cell-F.Bool b) h k = bits a b
layers_same (Cell-F.Bool a) (Cell-F.Int b) h k = refl
layers_same (Cell-F.Bool a) (Cell-F.Text b) h k = refl
layers_same (Cell-F.Int a) (Cell-F.Bool b) h k = refl
layers_same (Cell-F.Int a) (Cell-F.Int b) h k = sym (then_equal (int_cmp a b))
layers_same (Cell-F.Int a) (Cell-F.Text b) h k = refl
layers_same (Cell-F.Text a) (Cell-F.Bool b) h k = refl
layers_same (Cell-F.Text a) (Cell-F.Int b) h k = refl
layers_same (Cell-F.Text a) (Cell-F.Text b) h k = refl
layers_same Cell-F.Null y h k = cc
layers_same (Cell-F.List xs) y h k = cc
layers_same (Cell-F.Object ms) y h k = cc
layers_same x Cell-F.Null h k = cc
layers_same x (Cell-F.List xs) h k = cc
layers_same x (Cell-F.Object ms) h k = cc

abbrev layer_of : Condition → Cell-F Cell
layer_of c = out-Cell c.value

abbrev column_of : Condition → List ℕ
column_of c = c.column

abbrev rank_of : Condition → ℕ
rank_of c = operator_rank c.operator

abbrev order : Condition → Condition → Ordering
order = then_cmp (on column_of (slice_cmp nat_cmp)) (then_cmp (on rank_of nat_cmp) (on layer_of layer_cmp))

order_total : IsTotalOrder order
order_total = then_total (on_total column_of nat_list_cmp_total) (then_total (on_total rank_of nat_cmp_total) (on_total layer_of layer_total))

match_then : (o p : Ordering) → match_ordering o Less p Greater ≡ ordering_then o p
match_then Less p = refl
match_then Equal p = refl
match_then Greater p = refl

abbrev pub Scalar : Condition → Type 0
Scalar c = is_scalar c.value ≡ true

cmp_is : (a b : Condition) → Scalar a → Scalar b → condition_cmp a b ≡ order a b
cmp_is a b h k =
    ap (λ o. match_ordering (slice_cmp nat_cmp a.column b.column) Less (match_ordering (nat_cmp (operator_rank a.operator) (operator_rank b.operator)) Less o Greater) Greater)
    (layers_same (out-Cell a.value) (out-Cell b.value) h k)
    ∙ ap (λ o. match_ordering (slice_cmp nat_cmp a.column b.column) Less o Greater) (match_then (nat_cmp (operator_rank a.operator) (operator_rank b.operator)) (layer_cmp (out-Cell a.value) (out-Cell b.value)))
    ∙ match_then (slice_cmp nat_cmp a.column b.column) (ordering_then (nat_cmp (operator_rank a.operator) (operator_rank b.operator)) (layer_cmp (out-Cell a.value) (out-Cell b.value)))

-- ---- before

less_from : (o : Ordering) → match_ordering o true false false ≡ true → o ≡ Less
less_from Less h = refl
less_from Equal h = cc
less_from Greater h = cc

pub before_less : (a b : Condition) → is_before a b ≡ true → condition_cmp a b ≡ Less
before_less a b h = less_from (condition_cmp a b) h

equal_from : (o : Ordering) → match_ordering o false true false ≡ true → o ≡ Equal
equal_from Less h = cc
equal_from Equal h = refl
equal_from Greater h = cc

pub before_trans : (a b c : Condition) → Scalar a → Scalar b → Scalar c → is_before a b ≡ true → is_before b c ≡ true → is_before a c ≡ true
before_trans a b c sa sb sc h k =
    let first : order a b ≡ Less = sym (cmp_is a b sa sb) ∙ less_from (condition_cmp a b) h in
    let second : order b c ≡ Less = sym (cmp_is b c sb sc) ∙ less_from (condition_cmp b c) k in
    ap (λ o. match_ordering o true false false) (cmp_is a c sa sc ∙ order_total.trans a b c first second)

-- what stands after a condition is greater by its order
pub after_greater : (a b : Condition) → Scalar a → Scalar b → is_before a b ≡ true → condition_cmp b a ≡ Greater
after_greater a b sa sb h = cmp_is b a sb sa ∙ order_total.antisymm b a ∙ ap ordering_reverse (sym (cmp_is a b sa sb) ∙ less_from (condition_cmp a b) h)

pub greater_after : (a b : Condition) → Scalar a → Scalar b → condition_cmp b a ≡ Greater → is_before a b ≡ true
greater_after a b sa sb h =
    ap (λ o. match_ordering o true false false) (cmp_is a b sa sb ∙ order_total.antisymm a b ∙ ap ordering_reverse (sym (cmp_is b a sb sa) ∙ h))

pub before_differs : (a b : Condition) → is_before a b ≡ true → same_condition a b ≡ false
before_differs a b h = ap (λ o. match_ordering o false true false) (less_from (condition_cmp a b) h)

pub after_differs : (a b : Condition) → Scalar a → Scalar b → is_before a b ≡ true → same_condition b a ≡ false
after_differs a b sa sb h = ap (λ o. match_ordering o false true false) (after_greater a b sa sb h)

pub same_itself : (a : Condition) → Scalar a → same_condition a a ≡ true
same_itself a sa = ap (λ o. match_ordering o false true false) (cmp_is a a sa sa ∙ tied_itself order_total a)

-- ---- exact

then_first : (o p : Ordering) → ordering_then o p ≡ Equal → o ≡ Equal
then_first Less p h = cc
then_first Equal p h = refl
then_first Greater p h = cc

then_second : (o p : Ordering) → ordering_then o p ≡ Equal → p ≡ Equal
then_second Less p h = cc
then_second Equal p h = h
then_second Greater p h = cc

bytes_exact : (x y : List ℕ) → slice_cmp nat_cmp x y ≡ Equal → x ≡ y
bytes_exact x y h = exact_bytes x y h

nat_exact : (m n : ℕ) → nat_cmp m n ≡ Equal → m ≡ n
nat_exact m n h = ranked m n Equal (sym h)

int_exact : (m n : ℤ) → int_cmp m n ≡ Equal → m ≡ n
int_exact m n h = int_ranked m n Equal (sym h)

bit_exact : (a b : Bool) → bit a ≡ bit b → a ≡ b
bit_exact true true h = refl
bit_exact true false h = absurd (omega arith)
bit_exact false true h = absurd (omega arith)
bit_exact false false h = refl

layers_exact : (x y : Cell-F Cell) → is_scalar_at x ≡ true → is_scalar_at y ≡ true → layer_cmp x y ≡ Equal → x ≡ y
layers_exact (Cell-F.Bool a) (Cell-F.Bool b) h k e = ap Cell-F.Bool (bit_exact a b (nat_exact (bit a) (bit b) (then_first (nat_cmp (bit a) (bit b)) Equal e)))
layers_exact (Cell-F.Bool a) (Cell-F.Int b) h k e = cc
layers_exact (Cell-F.Bool a) (Cell-F.Text b) h k e = cc
layers_exact (Cell-F.Int a) (Cell-F.Bool b) h k e = cc
layers_exact (Cell-F.Int a) (Cell-F.Int b) h k e = ap Cell-F.Int (int_exact a b (then_first (int_cmp a b) Equal e))
layers_exact (Cell-F.Int a) (Cell-F.Text b) h k e = cc
layers_exact (Cell-F.Text a) (Cell-F.Bool b) h k e = cc
layers_exact (Cell-F.Text a) (Cell-F.Int b) h k e = cc
layers_exact (Cell-F.Text a) (Cell-F.Text b) h k e = ap Cell-F.Text (bytes_exact a b e)
layers_exact Cell-F.Null y h k e = cc
layers_exact (Cell-F.List xs) y h k e = cc
layers_exact (Cell-F.Object ms) y h k e = cc
layers_exact x Cell-F.Null h k e = cc
layers_exact x (Cell-F.List xs) h k e = cc
layers_exact x (Cell-F.Object ms) h k e = cc

cell_back : (x : Cell) → roll-Cell (out-Cell x) ≡ x
cell_back x = search (rules, the_lemmas)

cells_exact : (x y : Cell) → out-Cell x ≡ out-Cell y → x ≡ y
cells_exact x y e = sym (cell_back x) ∙ ap roll-Cell e ∙ cell_back y

abbrev op_of : ℕ → Op
op_of zero = Eq
op_of (suc zero) = Ne
op_of (suc (suc zero)) = Lt
op_of (suc (suc (suc zero))) = Le
op_of (suc (suc (suc (suc zero)))) = Gt
op_of (suc (suc (suc (suc (suc n))))) = Ge

op_back : (o : Op) → op_of (operator_rank o) ≡ o
op_back Eq = refl
op_back Ne = refl
op_back Lt = refl
op_back Le = refl
op_back Gt = refl
op_back Ge = refl

condition_from : (a b : Condition) → a.column ≡ b.column → a.operator ≡ b.operator → a.value ≡ b.value → a ≡ b
condition_from a b p q r =
    let f : List ℕ → Condition = λ x. record { column = x; operator = a.operator; value = a.value } in
    let g : Op → Condition = λ x. record { column = b.column; operator = x; value = a.value } in
    let h : Cell → Condition = λ x. record { column = b.column; operator = b.operator; value = x } in
    ap f p ∙ ap g q ∙ ap h r

pub same_exact : (a b : Condition) → Scalar a → Scalar b → same_condition a b ≡ true → a ≡ b
same_exact a b sa sb h =
    let e : order a b ≡ Equal = sym (cmp_is a b sa sb) ∙ equal_from (condition_cmp a b) h in
    let rest : ordering_then (nat_cmp (rank_of a) (rank_of b)) (layer_cmp (layer_of a) (layer_of b)) ≡ Equal = then_second (slice_cmp nat_cmp a.column b.column) _ e in
    let ranks : rank_of a ≡ rank_of b = nat_exact (rank_of a) (rank_of b) (then_first (nat_cmp (rank_of a) (rank_of b)) _ rest) in
    let layers : layer_cmp (layer_of a) (layer_of b) ≡ Equal = then_second (nat_cmp (rank_of a) (rank_of b)) _ rest in
    condition_from a b (bytes_exact a.column b.column (then_first (slice_cmp nat_cmp a.column b.column) _ e))
    (sym (op_back a.operator) ∙ ap op_of ranks ∙ op_back b.operator)
    (cells_exact a.value b.value (layers_exact (layer_of a) (layer_of b) sa sb layers))
