-- Outcomes in slots.
use Rattle.std.proofs.Common.{◌≡◌, ◌<◌, ℕ, zero, suc, true, List, [], ◌∷◌, length, get_or, Option, Some, None, refl, sym, ap, ◌∙◌, arith}
use Rattle.std.specs.Prelude.{slice_get, is_some, IfSome}
use Rattle.sp_model.specs.declared.outcome.Outcome.{Outcome}
use Rattle.hydrate_graph.specs.Graphs.{settled_at, settled_by}
use Rattle.hydrate_graph.specs.Plans.{AreWithin}

pub get_some : {X : Type 0} (xs : List X) (n : ℕ) (x d : X) → Some x ≡ slice_get xs n → get_or xs n d ≡ x
get_some [] n x d h = absurd (cc)
get_some (y ∷ ys) zero x d h = let e : x ≡ y = cc in sym e
get_some (y ∷ ys) (suc n) x d h = get_some ys n x d h

pub get_none : {X : Type 0} (xs : List X) (n : ℕ) (d : X) → None ≡ slice_get xs n → get_or xs n d ≡ d
get_none [] n d h = refl
get_none (y ∷ ys) zero d h = absurd (cc)
get_none (y ∷ ys) (suc n) d h = get_none ys n d h

-- what is settled of a function is the outcome in its slot
pub settled_get : (slots : List (Option ℕ)) (outcomes : List (Option Outcome)) (k : ℕ) → get_or (settled_by slots outcomes) k None ≡ settled_at outcomes (get_or slots k None)
settled_get [] outcomes k = refl
settled_get (s ∷ ss) outcomes zero = refl
settled_get (s ∷ ss) outcomes (suc k) = settled_get ss outcomes k

-- without a slot nothing is
pub settled_none : (slots : List (Option ℕ)) (outcomes : List (Option Outcome)) (k : ℕ) → None ≡ get_or slots k None → None ≡ get_or (settled_by slots outcomes) k None
settled_none slots outcomes k h = ap (settled_at outcomes) h ∙ sym (settled_get slots outcomes k)

pub settled_out : (slots : List (Option ℕ)) (outcomes : List (Option Outcome)) (k s : ℕ) → Some s ≡ get_or slots k None → None ≡ slice_get outcomes s → None ≡ get_or (settled_by slots outcomes) k None
settled_out slots outcomes k s at out = sym (get_none outcomes s None out) ∙ ap (settled_at outcomes) at ∙ sym (settled_get slots outcomes k)

pub settled_in : (slots : List (Option ℕ)) (outcomes : List (Option Outcome)) (k s : ℕ) (o : Option Outcome) → Some s ≡ get_or slots k None → Some o ≡ slice_get outcomes s → o ≡ get_or (settled_by slots outcomes) k None
settled_in slots outcomes k s o at is = sym (get_some outcomes s o None is) ∙ ap (settled_at outcomes) at ∙ sym (settled_get slots outcomes k)

-- a function that is wanted has a slot
pub wanted_below : (slots : List (Option ℕ)) (k : ℕ) → is_some (get_or slots k None) ≡ true → k < length slots
wanted_below [] k h = absurd (cc)
wanted_below (s ∷ ss) zero h = omega arith
wanted_below (s ∷ ss) (suc k) h = let l = wanted_below ss k h in omega (arith, l)

pub within_is : (slots : List (Option ℕ)) (room k : ℕ) (slot : Option ℕ) → AreWithin slots room → get_or slots k None ≡ slot → IfSome slot (λ s. s < room)
within_is slots room k None within e = tt
within_is slots room k (Some s) within e = within k s e
