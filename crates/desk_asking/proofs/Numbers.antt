-- Plain connections by number.
use Rattle.std.proofs.Common.{◌≡◌, ℕ, zero, suc, ◌+◌, ◌<◌, ◌≤◌, List, [], ◌∷◌, Some, Bool, true, false, ◌||◌, get_or, drop, length, slice_get, refl, sym, ap, ◌∙◌, arith, add-one}
use Rattle.std.specs.Prelude.{bytes_eq, Contains}
use Rattle.std.proofs.lemmas.Slice.Eq.{bytes_eq-Decides}
use Rattle.sp_model.specs.Names.{has_name}
use Rattle.sp_model.specs.declared.settings.Connection.{Connection}
use Rattle.statement_words.specs.Runs.{plain_names}

drop_suc : {X : Type 0} (xs : List X) (i : ℕ) (x : X) → i < length xs → x ≡ get_or xs i x → drop i xs ≡ x ∷ drop (suc i) xs
drop_suc [] i x lt e = absurd (omega arith)
drop_suc {X} (y ∷ ys) zero x lt e = ap (λ (z : X). z ∷ ys) (sym e)
drop_suc (y ∷ ys) (suc i) x lt e = drop_suc ys i x (omega arith) e

drop_at : {X : Type 0} (xs : List X) (i : ℕ) (x : X) → i < length xs → x ≡ get_or xs i x → drop i xs ≡ x ∷ drop (i + 1) xs
drop_at {X} xs i x lt e = rw add-one (drop_suc xs i x lt e)

names_skip : (c : Connection) (cs : List Connection) → c.aggregator ≡ true → plain_names (c ∷ cs) ≡ plain_names cs
unfolding plain_names
names_skip c cs e = rw e refl

names_next : (c : Connection) (cs : List Connection) → c.aggregator ≡ false → plain_names (c ∷ cs) ≡ c.name ∷ plain_names cs
unfolding plain_names
names_next c cs e = rw e refl

-- an aggregator has no number
pub place_skip : (cs : List Connection) (i : ℕ) (c : Connection) (n : ℕ) → i < length cs → c ≡ get_or cs i c → c.aggregator ≡ true → slice_get (plain_names (drop i cs)) n ≡ slice_get (plain_names (drop (i + 1) cs)) n
place_skip cs i c n lt e on = ap (λ (xs : List Connection). slice_get (plain_names xs) n) (drop_at cs i c lt e) ∙ ap (λ (ns : List (List ℕ)). slice_get ns n) (names_skip c (drop (i + 1) cs) on)

-- a plain connection is passed
pub place_next : (cs : List Connection) (i : ℕ) (c : Connection) (n m : ℕ) → i < length cs → c ≡ get_or cs i c → c.aggregator ≡ false → n ≡ suc m → slice_get (plain_names (drop i cs)) n ≡ slice_get (plain_names (drop (i + 1) cs)) m
place_next cs i c n m lt e on is =
    ap (λ (k : ℕ). slice_get (plain_names (drop i cs)) k) is
    ∙ ap (λ (xs : List Connection). slice_get (plain_names xs) (suc m)) (drop_at cs i c lt e) ∙ ap (λ (ns : List (List ℕ)). slice_get ns (suc m)) (names_next c (drop (i + 1) cs) on)

-- it is the first of the rest
pub place_here : (cs : List Connection) (i : ℕ) (c : Connection) (n : ℕ) → i < length cs → c ≡ get_or cs i c → c.aggregator ≡ false → n ≡ 0 → slice_get (plain_names (drop i cs)) n ≡ Some c.name
place_here cs i c n lt e on is =
    ap (λ (k : ℕ). slice_get (plain_names (drop i cs)) k) is
    ∙ ap (λ (xs : List Connection). slice_get (plain_names xs) 0) (drop_at cs i c lt e) ∙ ap (λ (ns : List (List ℕ)). slice_get ns 0) (names_next c (drop (i + 1) cs) on)

-- ---- by their names

has_skip : (cs : List Connection) (i : ℕ) (c : Connection) (name : List ℕ) → i < length cs → c ≡ get_or cs i c → c.aggregator ≡ true → has_name (plain_names (drop i cs)) name ≡ has_name (plain_names (drop (i + 1) cs)) name
has_skip cs i c name lt e on =
    ap (λ (xs : List Connection). has_name (plain_names xs) name) (drop_at cs i c lt e) ∙ ap (λ (ns : List (List ℕ)). has_name ns name) (names_skip c (drop (i + 1) cs) on)

has_next : (cs : List Connection) (i : ℕ) (c : Connection) (name : List ℕ) → i < length cs → c ≡ get_or cs i c → c.aggregator ≡ false
    → has_name (plain_names (drop i cs)) name ≡ (bytes_eq name c.name || has_name (plain_names (drop (i + 1) cs)) name)
has_next cs i c name lt e on =
    ap (λ (xs : List Connection). has_name (plain_names xs) name) (drop_at cs i c lt e) ∙ ap (λ (ns : List (List ℕ)). has_name ns name) (names_next c (drop (i + 1) cs) on)

of_rest : (here rest : Bool) → here ≡ false → (here || rest) ≡ true → rest ≡ true
of_rest false rest off h = h
of_rest true rest off h = absurd (cc)

-- an aggregator has no plain name
pub named_skip : (cs : List Connection) (i : ℕ) (c : Connection) (name : List ℕ) → i < length cs → c ≡ get_or cs i c → c.aggregator ≡ true → has_name (plain_names (drop i cs)) name ≡ true → has_name (plain_names (drop (i + 1) cs)) name ≡ true
named_skip cs i c name lt e on h = sym (has_skip cs i c name lt e on) ∙ h

-- a name that isn't the first one's is among the rest
pub named_next : (cs : List Connection) (i : ℕ) (c : Connection) (name : List ℕ) → i < length cs → c ≡ get_or cs i c → c.aggregator ≡ false → bytes_eq name c.name ≡ false → has_name (plain_names (drop i cs)) name ≡ true
    → has_name (plain_names (drop (i + 1) cs)) name ≡ true
named_next cs i c name lt e on off h = of_rest (bytes_eq name c.name) (has_name (plain_names (drop (i + 1) cs)) name) off (sym (has_next cs i c name lt e on) ∙ h)

pub is_among : (cs : List Connection) (i : ℕ) (c : Connection) → i < length cs → c ≡ get_or cs i c → Contains cs c
is_among cs i c lt e = (i, lt, sym e)

pub is_named : (name other : List ℕ) → bytes_eq name other ≡ true → other ≡ name
is_named name other h = sym ((bytes_eq-Decides name other).0 h)

drop_none : {X : Type 0} (xs : List X) (i : ℕ) → length xs ≤ i → drop i xs ≡ []
drop_none [] zero le = refl
drop_none [] (suc i) le = refl
drop_none (x ∷ xs) zero le = absurd (omega arith)
drop_none (x ∷ xs) (suc i) le = drop_none xs i (omega arith)

names_none : plain_names [] ≡ []
unfolding plain_names
names_none = refl

pub named_none : (cs : List Connection) (i : ℕ) (name : List ℕ) → length cs ≤ i → has_name (plain_names (drop i cs)) name ≡ true → ⊥
named_none cs i name le h =
    let none : has_name (plain_names (drop i cs)) name ≡ false = ap (λ (xs : List Connection). has_name (plain_names xs) name) (drop_none cs i le) ∙ ap (λ (ns : List (List ℕ)). has_name ns name) names_none in
    absurd (cc)
