-- Seats that wait for a call.
use Rattle.std.proofs.Common.{◌≡◌, Bool, true, false, Option, Some, None, is_some, refl, sym, subst, ◌∙◌}
use Rattle.std.specs.Prelude.{◌↔◌}
use Rattle.scan_core.specs.Hearing.{SameParents, IsUnchanged}
use Rattle.scan_core.specs.declared.calls.ParentsCall.{ParentsCall}
use Rattle.scan_core.specs.declared.course.Course.{Course}

-- what holds of the value that is there
pub some_so : {Y : Type 0} (o : Option Y) (y : Y) (P : Y → Type 0) (A : Type 0) → o ≡ Some y → (A ↔ P y) → (A ↔ ((z : Y) × (o ≡ Some z) × P z))
some_so {Y} o y P A is both =
    (λ a. (y, is, both.0 a), λ w. let e : Some w.0 ≡ Some y = sym w.1 ∙ is in let same : w.0 ≡ y = cc in both.1 (subst P same w.2))

-- it is the same value
pub some_same : {Y : Type 0} (o : Option Y) (a b : Y) (P : Y → Type 0) → o ≡ Some a → o ≡ Some b → P a → P b
some_same {Y} o a b P at is here = let e : Some a ≡ Some b = sym at ∙ is in let same : a ≡ b = cc in subst P same here

pub same_parents : {X : Type 0} (o : Option (ParentsCall X)) → SameParents o o
same_parents None = tt
same_parents (Some a) = (refl, refl)

pub parents_unchanged : {X : Type 0} (o : Option (ParentsCall X)) (a b : ParentsCall X) → o ≡ Some a → (b.call ≡ a.call) × (b.waiting.items ≡ a.waiting.items) → SameParents o (Some b)
parents_unchanged {X} o a b is same = subst (λ (z : Option (ParentsCall X)). SameParents z (Some b)) (sym is) same

pub unchanged : {X : Type 0} (c : Course X) → IsUnchanged c c
unchanged c = record { parents = same_parents c.parents; items = refl; before = refl; flight = refl; waiting = refl; walk = refl; end = refl }

-- a value that is there or isn't, by a test
pub none_if : {Y : Type 0} (o : Option Y) (b : Bool) → b ≡ is_some o → b ≡ false → o ≡ None
none_if None b test off = refl
none_if (Some y) b test off = let bad : true ≡ false = sym test ∙ off in absurd (cc)

pub some_if : {Y : Type 0} (o : Option Y) (b : Bool) → b ≡ is_some o → b ≡ true → o ≡ None → ⊥
some_if None b test on none = let bad : false ≡ true = sym test ∙ on in cc
some_if (Some y) b test on none = cc
