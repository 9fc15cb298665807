-- What holds of each name of a list, and of each that its names stand for.
use Rattle.std.proofs.Common.{◌≡◌, ◌⊎◌, inl, inr, ℕ, Bool, true, false, ◌&&◌, ◌||◌, List, [], ◌∷◌, ◌++◌, map, refl, ap, subst, sym, ◌∙◌}
use Rattle.std.specs.Prelude.{bytes_eq, All}
use Rattle.std.specs.List.{flat_map, list_all}
use Rattle.std.proofs.Math.Bool.{or-true}
use Rattle.std.proofs.lemmas.List.Elements.{All-head, All-rest}
use Rattle.std.proofs.lemmas.Slice.Eq.{bytes_eq-Decides}
use Rattle.sp_model.specs.Names.{has_name}
use Rattle.sql_bind.specs.Answer.{with_name, each_once}
use Rattle.sql_bind.proofs.Agreeing.{Each}
use Rattle.sql_bind.proofs.Declared.{split}

front : {A : Type 0} (P : A → Type 0) (xs ys : List A) → Each P (xs ++ ys) → Each P xs
front P [] ys all = tt
front P (x ∷ xs) ys all = (all.0, front P xs ys all.1)

back : {A : Type 0} (P : A → Type 0) (xs ys : List A) → Each P (xs ++ ys) → Each P ys
back P [] ys all = all
back P (x ∷ xs) ys all = back P xs ys all.1

append : {A : Type 0} (P : A → Type 0) (xs ys : List A) → Each P xs → Each P ys → Each P (xs ++ ys)
append P [] ys all more = more
append P (x ∷ xs) ys all more = (all.0, append P xs ys all.1 more)

pub each_then : {A : Type 0} (P Q : A → Type 0) → ((x : A) → P x → Q x) → (xs : List A) → Each P xs → Each Q xs
each_then P Q next [] all = tt
each_then P Q next (x ∷ xs) all = (next x all.0, each_then P Q next xs all.1)

pub each_both : {A : Type 0} (P Q : A → Type 0) (xs : List A) → Each P xs → Each Q xs → Each (λ x. P x × Q x) xs
each_both P Q [] p q = tt
each_both P Q (x ∷ xs) p q = ((p.0, q.0), each_both P Q xs p.1 q.1)

pub each_of_all : {A : Type 0} (P : A → Type 0) (xs : List A) → All P xs → Each P xs
each_of_all P [] all = tt
each_of_all P (x ∷ xs) all = (All-head P x xs all, each_of_all P xs (All-rest P x xs (x ∷ xs) refl all))

pub each_of_map : {A B : Type 0} (P : B → Type 0) (f : A → B) (xs : List A) → Each P (map f xs) → Each (λ x. P (f x)) xs
each_of_map P f [] all = tt
each_of_map P f (x ∷ xs) all = (all.0, each_of_map P f xs all.1)

-- of each name's parts
pub each_of_parts : {A : Type 0} (P : A → Type 0) (f : List ℕ → List A) (names : List (List ℕ)) → Each P (flat_map f names) → Each (λ n. Each P (f n)) names
each_of_parts P f [] all = tt
each_of_parts P f (n ∷ ns) all = (front P (f n) (flat_map f ns) all, each_of_parts P f ns (back P (f n) (flat_map f ns) all))

pub parts_each : {A : Type 0} (P : A → Type 0) (f : List ℕ → List A) (names : List (List ℕ)) → Each (λ n. Each P (f n)) names → Each P (flat_map f names)
parts_each P f [] all = tt
parts_each P f (n ∷ ns) all = append P (f n) (flat_map f ns) all.0 (parts_each P f ns all.1)

-- ---- names

pub is_it : (name other : List ℕ) → bytes_eq name other ≡ true → name ≡ other
is_it name other e = (bytes_eq-Decides name other).0 e

pub itself : (name : List ℕ) → bytes_eq name name ≡ true
itself name = (bytes_eq-Decides name name).1 refl

-- it holds of each, where it holds of whatever is among them
pub each_among : (P : List ℕ → Type 0) (names : List (List ℕ)) → ((name : List ℕ) → has_name names name ≡ true → P name) → Each P names
each_among P [] holds = tt
each_among P (n ∷ ns) holds = (holds n (rw (itself n) refl), each_among P ns (λ name there. holds name (rw (there, or-true (bytes_eq name n)) refl)))

-- and the other way about
pub among_each : (P : List ℕ → Type 0) (names : List (List ℕ)) → Each P names → (name : List ℕ) → has_name names name ≡ true → P name
among_each P [] all name there = absurd (cc)
among_each P (n ∷ ns) all name there = elim (split (bytes_eq name n)) [
  | inl is ↦ subst P (sym (is_it name n is)) all.0
  | inr isnt ↦ among_each P ns all.1 name (rw isnt at there)
]

-- what holds of each name holds of each that is taken once
pub once_each : (P : List ℕ → Type 0) (found names : List (List ℕ)) → Each P found → Each P names → Each P (each_once found names)
once_each P found [] there all = there
once_each P found (n ∷ ns) there all = once_each P (with_name found n) ns with_it all.1
  where
    with_it : Each P (with_name found n)
    with_it = elim (split (has_name found n)) [
      | inl is ↦ rw is there
      | inr isnt ↦ rw isnt (append P found (n ∷ []) there (all.0, tt))
    ]

pub all_true : (test : List ℕ → Bool) (names : List (List ℕ)) → Each (λ n. test n ≡ true) names → list_all test names ≡ true
all_true test [] all = refl
all_true test (n ∷ ns) all = rw (all.0, all_true test ns all.1) refl

pub true_of_all : {A : Type 0} (test : A → Bool) (xs : List A) → list_all test xs ≡ true → Each (λ x. test x ≡ true) xs
true_of_all test [] all = tt
true_of_all test (x ∷ xs) all = elim (split (test x)) [
  | inl is ↦ (is, true_of_all test xs (rw is at all))
  | inr isnt ↦ let never : false ≡ true = rw isnt at all in absurd (cc)
]
