-- Sets of kinds, and steps that did or did not fail.
use Rattle.std.proofs.Common.{◌≡◌, Bool, true, false, cond, List, [], ◌∷◌, ◌++◌, ◌⊎◌, inl, inr, Result, Ok, Err, refl, subst, rules}
use denote.Enum.Bare.{same_true}
use Rattle.sql_lex.specs.contracts.token.Kind.{the_type}
use Rattle.sql_lex.specs.declared.token.Kind.{Kind}
use Rattle.sql_lex.specs.declared.token.Token.{Token}
use Rattle.sql_grammar.specs.Reading.{Fault, Outcome, same, has, ◌>>=◌}

pub split : (b : Bool) → (b ≡ true) ⊎ (b ≡ false)
split true = inl refl
split false = inr refl

pub same_is : (a b : Kind) → same a b ≡ true → a ≡ b
same_is a b = same_true the_type (search rules) a b

pub has_left : (xs ys : List Kind) (k : Kind) → has xs k ≡ true → has (xs ++ ys) k ≡ true
has_left [] ys k h = absurd cc
has_left (x ∷ xs) ys k h =
    elim (split (same x k)) [
      | inl e ↦ rw e refl
      | inr e ↦ rw e (has_left xs ys k (rw e at h))
    ]

pub has_right : (xs ys : List Kind) (k : Kind) → has ys k ≡ true → has (xs ++ ys) k ≡ true
has_right [] ys k h = h
has_right (x ∷ xs) ys k h =
    elim (split (same x k)) [
      | inl e ↦ rw e refl
      | inr e ↦ rw e (has_right xs ys k h)
    ]

pub lacks_left : (xs ys : List Kind) (k : Kind) → has (xs ++ ys) k ≡ false → has xs k ≡ false
lacks_left xs ys k h = elim (split (has xs k)) [ inl e ↦ absurd (let f = has_left xs ys k e in cc) | inr e ↦ e ]

pub lacks_right : (xs ys : List Kind) (k : Kind) → has (xs ++ ys) k ≡ false → has ys k ≡ false
lacks_right xs ys k h = elim (split (has ys k)) [ inl e ↦ absurd (let f = has_right xs ys k e in cc) | inr e ↦ e ]

-- no kind is in both
abbrev pub disjoint : List Kind → List Kind → Bool
disjoint [] ys = true
disjoint (x ∷ xs) ys = cond (has ys x) false (disjoint xs ys)

pub apart : (xs ys : List Kind) (k : Kind) → disjoint xs ys ≡ true → has xs k ≡ true → has ys k ≡ false
apart [] ys k d h = absurd cc
apart (x ∷ xs) ys k d h =
    elim (split (has ys x)) [
      | inl e ↦ absurd (let f = rw e at d in cc)
      | inr e ↦ elim (split (same x k)) [
        | inl s ↦ subst (λ z. has ys z ≡ false) (same_is x k s) e
        | inr s ↦ apart xs ys k (rw e at d) (rw s at h)
      ]
    ]

-- ---- steps

pub bind_ok : {A B : Type 0} (r : Outcome A) (f : A × List Token → Outcome B) (y : B × List Token) → (r >>= f) ≡ Ok y → (x : A × List Token) × (r ≡ Ok x) × (f x ≡ Ok y)
bind_ok (Ok x) f y e = (x, refl, e)
bind_ok (Err d) f y e = absurd cc

pub bind_err : {A B : Type 0} (r : Outcome A) (f : A × List Token → Outcome B) (d : Fault) → (r >>= f) ≡ Err d → (r ≡ Err d) ⊎ ((x : A × List Token) × (r ≡ Ok x) × (f x ≡ Err d))
bind_err (Ok x) f d e = inr (x, refl, e)
bind_err (Err d') f d e = inl cc

abbrev done : {A : Type 0} → A → Result A Fault
done x = Ok x

pub ok_is : {A : Type 0} (x y : A) → done x ≡ done y → x ≡ y
ok_is x y e = cc

abbrev failed : {A : Type 0} → Fault → Result A Fault
failed d = Err d

pub err_is : {A : Type 0} (d e : Fault) → failed {A = A} d ≡ failed e → d ≡ e
err_is d e h = cc

pub not_both : {A : Type 0} (x : A) (d : Fault) → done x ≡ failed d → ⊥
not_both x d h = cc
