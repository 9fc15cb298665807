-- What functions give by what is settled of them, and by their calls.
use Rattle.std.proofs.Common.{◌≡◌, ℕ, zero, suc, Bool, true, false, ◌&&◌, cond, List, [], ◌∷◌, Option, Some, None, refl, sym, ap, ◌∙◌}
use Rattle.std.specs.List.{list_all, find}
use Rattle.std.specs.Prelude.{option_and_then, not}
use Rattle.sp_value.specs.declared.cell.Cell.{Cell}
use Rattle.sp_model.specs.Hydration.{gave}
use Rattle.sp_model.specs.Hydration.{with_result, results_of, with_results, find_function, called, hydrated_in}
use Rattle.sp_model.specs.declared.declaration.FunctionDecl.{FunctionDecl}
use Rattle.sp_model.specs.declared.outcome.Outcome.{Outcome}
use Rattle.sp_model.specs.declared.outcome.Outcome.TheVariants.{Gave, Fails}
use Rattle.sp_model.specs.declared.outcome.Results.{Results}
use Rattle.sp_model.specs.declared.outcome.Results.TheVariants.{Given, Missed, Pending}
use Rattle.hydrate_graph.specs.Following.{by_known, Follows, Completes, InOrder}
use Rattle.sp_model.specs.Rests.{rests_by, rests_in}
use Rattle.sp_model.proofs.Lawful.{found_name}

abbrev Gives : Type 0
Gives = List ℕ → Option Outcome

abbrev Members : Type 0
Members = List (List ℕ × Cell)

abbrev Call : Type 0
Call = FunctionDecl → Members → Option Outcome

pub and_left : (a b : Bool) → (a && b) ≡ true → a ≡ true
and_left true b e = refl
and_left false b e = e

pub and_right : (a b : Bool) → (a && b) ≡ true → b ≡ true
and_right true b e = e
and_right false b e = cc

result_more : (name : List ℕ) (a b : Option Outcome) (r s : Results) → ((o : Outcome) → a ≡ Some o → b ≡ Some o) → ((r ≡ Pending → ⊥) → s ≡ r) → (with_result name a r ≡ Pending → ⊥) → with_result name b s ≡ with_result name a r
result_more name None b r s up same w = absurd (w refl)
result_more name (Some (Fails cause)) b r s up same w = rw (up (Fails cause) refl) refl
result_more name (Some (Gave x)) b (Given results) s up same w = rw (up (Gave x) refl, same (λ e. cc)) refl
result_more name (Some (Gave x)) b (Missed cause) s up same w = rw (up (Gave x) refl, same (λ e. cc)) refl
result_more name (Some (Gave x)) b Pending s up same w = absurd (w refl)

-- results that are known on less are the same on more
pub results_more : (h k : Gives) (p : List ℕ → Bool) → ((d : List ℕ) (o : Outcome) → p d ≡ true → h d ≡ Some o → k d ≡ Some o) → (ds : List (List ℕ)) → list_all p ds ≡ true → (results_of h ds ≡ Pending → ⊥) → results_of k ds ≡ results_of h ds
results_more h k p up [] all w = refl
results_more h k p up (d ∷ ds) all w =
    result_more d (h d) (k d) (results_of h ds) (results_of k ds) (λ o. up d o (and_left (p d) (list_all p ds) all)) (results_more h k p up ds (and_right (p d) (list_all p ds) all)) w

pub all_true : {X : Type 0} (xs : List X) → list_all (λ x. true) xs ≡ true
all_true [] = refl
all_true (x ∷ xs) = all_true xs

gave_step : (d : List ℕ) (a : Option Outcome) (r : Results) (all : Bool) → (gave a && all) ≡ true → (all ≡ true → (xs : Members) × (r ≡ Given xs)) → (xs : Members) × (with_result d a r ≡ Given xs)
gave_step d None r all e ih = absurd (cc)
gave_step d (Some (Fails cause)) r all e ih = absurd (cc)
gave_step d (Some (Gave x)) r all e ih = let p = ih e in (_, ap (with_result d (Some (Gave x))) p.1)

-- where each gave, there are results
pub results_gave : (h : Gives) (ds : List (List ℕ)) → list_all (λ d. gave (h d)) ds ≡ true → (xs : Members) × (results_of h ds ≡ Given xs)
results_gave h [] all = ([], refl)
results_gave h (d ∷ ds) all = gave_step d (h d) (results_of h ds) (list_all (λ d. gave (h d)) ds) all (results_gave h ds)

-- what is settled is what the calls give, however deep they are looked at
module _ (functions : List FunctionDecl) (known : Gives) (call : Call) (follows : Follows functions known call) (order : InOrder functions known) where
  known_step : (n : ℕ) (name : List ℕ) (o : Outcome) (found : Option FunctionDecl) → ((d : List ℕ) (q : Outcome) → rests_in n functions d ≡ true → known d ≡ Some q → hydrated_in n functions call d ≡ Some q)
      → find_function name functions ≡ found → rests_by (λ d. rests_in n functions d) found ≡ true → known name ≡ Some o → called call (λ d. hydrated_in n functions call d) found ≡ Some o
  known_step n name o None below at rest is = cc
  known_step n name o (Some f) below at rest is =
      let p = results_gave known f.depends (order.after name f o at is) in
      let e : results_of (λ d. hydrated_in n functions call d) f.depends ≡ results_of known f.depends =
      results_more known (λ d. hydrated_in n functions call d) (λ d. rests_in n functions d) below f.depends rest (λ w. cc (p.1)) in
      rw (e, p.1) (follows.answered name f o p.0 at is p.1)

  pub known_is_hydrated : (n : ℕ) (name : List ℕ) (o : Outcome) → rests_in n functions name ≡ true → known name ≡ Some o → hydrated_in n functions call name ≡ Some o
  known_is_hydrated zero name o rest is = cc
  known_is_hydrated (suc n) name o rest is = known_step n name o (find_function name functions) (known_is_hydrated n) refl rest is

-- ---- by what is settled

with_gave : (r : Results) (o : Option Outcome) (x : Cell) → with_results r (λ results. o) ≡ Some (Gave x) → o ≡ Some (Gave x)
with_gave (Given results) o x e = e
with_gave (Missed cause) o x e = absurd (cc)
with_gave Pending o x e = absurd (cc)

gave_step_known : (functions : List FunctionDecl) (known : Gives) (gives : Gives) (name : List ℕ) (x : Cell) (found : Option FunctionDecl) → find_function name functions ≡ found → called (by_known known) gives found ≡ Some (Gave x) → known name ≡ Some (Gave x)
gave_step_known functions known gives name x None at e = absurd (cc)
gave_step_known functions known gives name x (Some f) at e =
    ap known (sym (found_name name functions f at)) ∙ with_gave (results_of gives f.depends) (known f.name) x e

pub gave_is_known : (functions : List FunctionDecl) (known : Gives) (n : ℕ) (name : List ℕ) (x : Cell) → hydrated_in n functions (by_known known) name ≡ Some (Gave x) → known name ≡ Some (Gave x)
gave_is_known functions known zero name x e = cc
gave_is_known functions known (suc n) name x e = gave_step_known functions known (λ d. hydrated_in n functions (by_known known) d) name x (find_function name functions) refl e

given_parts : (name : List ℕ) (a : Option Outcome) (r : Results) (xs : Members) → with_result name a r ≡ Given xs → (x : Cell) × (ys : Members) × (a ≡ Some (Gave x)) × (r ≡ Given ys)
given_parts name None r xs e = absurd (cc)
given_parts name (Some (Fails cause)) r xs e = absurd (cc)
given_parts name (Some (Gave x)) (Given ys) xs e = (x, ys, refl, refl)
given_parts name (Some (Gave x)) (Missed cause) xs e = absurd (cc)
given_parts name (Some (Gave x)) Pending xs e = absurd (cc)

pub results_given : (h k : Gives) → ((d : List ℕ) (x : Cell) → h d ≡ Some (Gave x) → k d ≡ Some (Gave x)) → (ds : List (List ℕ)) (xs : Members) → results_of h ds ≡ Given xs → results_of k ds ≡ Given xs
results_given h k up [] xs e = e
results_given h k up (d ∷ ds) xs e =
    let p = given_parts d (h d) (results_of h ds) xs e in
    rw (up d p.0 p.2, results_given h k up ds p.1 p.3) (ap (λ a. with_result d a (Given p.1)) (sym p.2) ∙ ap (with_result d (h d)) (sym p.3) ∙ e)

module _ (functions : List FunctionDecl) (known : Gives) (call : Call) (follows : Follows functions known call) where
  status_results : (before after : Gives) (name : List ℕ) (f : FunctionDecl) (o : Outcome) (r : Results) → ((d : List ℕ) (q : Outcome) → before d ≡ Some q → after d ≡ Some q) → ((d : List ℕ) (x : Cell) → before d ≡ Some (Gave x) → known d ≡ Some (Gave x))
      → find_function name functions ≡ Some f → results_of before f.depends ≡ r → with_results r (λ results. known f.name) ≡ Some o → with_results (results_of after f.depends) (call f) ≡ Some o
  status_results before after name f o Pending up back at is e = absurd (cc)
  status_results before after name f o (Missed cause) up back at is e =
      rw (results_more before after (λ d. true) (λ d q t. up d q) f.depends (all_true f.depends) (λ w. cc), is) e
  status_results before after name f o (Given results) up back at is e =
      rw (results_more before after (λ d. true) (λ d q t. up d q) f.depends (all_true f.depends) (λ w. cc), is)
      (follows.answered name f o results at (ap known (sym (found_name name functions f at)) ∙ e) (results_given before known back f.depends results is))

  status_step : (before after : Gives) (name : List ℕ) (o : Outcome) (found : Option FunctionDecl) → ((d : List ℕ) (q : Outcome) → before d ≡ Some q → after d ≡ Some q) → ((d : List ℕ) (x : Cell) → before d ≡ Some (Gave x) → known d ≡ Some (Gave x))
      → find_function name functions ≡ found → called (by_known known) before found ≡ Some o → called call after found ≡ Some o
  status_step before after name o None up back at e = absurd (cc)
  status_step before after name o (Some f) up back at e = status_results before after name f o (results_of before f.depends) up back at refl e

  -- what is decided by the functions settled so far is what hydration gives
  pub status_is_hydrated : (n : ℕ) (name : List ℕ) (o : Outcome) → hydrated_in n functions (by_known known) name ≡ Some o → hydrated_in n functions call name ≡ Some o
  status_is_hydrated zero name o e = cc
  status_is_hydrated (suc n) name o e =
      status_step (λ d. hydrated_in n functions (by_known known) d) (λ d. hydrated_in n functions call d) name o (find_function name functions) (status_is_hydrated n) (gave_is_known functions known n) refl e

-- ---- a function that waits

known_follows : (functions : List FunctionDecl) (known : Gives) → Follows functions known (by_known known)
known_follows functions known = record { answered = λ name f o results at is given. ap known (found_name name functions f at) ∙ is }

-- a function that is settled is decided
pub decided_settled : (functions : List FunctionDecl) (known : Gives) → InOrder functions known → (n : ℕ) (name : List ℕ) (o : Outcome) → rests_in n functions name ≡ true → known name ≡ Some o → hydrated_in n functions (by_known known) name ≡ Some o
decided_settled functions known order = known_is_hydrated functions known (by_known known) (known_follows functions known) order

none_given : (name : List ℕ) (x : Cell) (r : Results) → with_results (with_result name (Some (Gave x)) r) (λ results. None) ≡ with_results r (λ results. None)
none_given name x (Given xs) = refl
none_given name x (Missed cause) = refl
none_given name x Pending = refl

abbrev pub waits : Gives → List ℕ → Bool
waits known d = not (gave (known d))

first_step : (known h : Gives) (d : List ℕ) (ds : List (List ℕ)) (first : Option (List ℕ)) → ((o : Outcome) → known d ≡ Some o → h d ≡ Some o) → ((x : Cell) → h d ≡ Some (Gave x) → known d ≡ Some (Gave x))
    → (find (waits known) ds ≡ first → with_results (results_of h ds) (λ results. None) ≡ option_and_then h first) → find (waits known) (d ∷ ds) ≡ first → with_results (results_of h (d ∷ ds)) (λ results. None) ≡ option_and_then h first
first_step known h d ds first up down ih e = go (known d) (h d) refl refl
  where
    go : (a b : Option Outcome) → known d ≡ a → h d ≡ b → with_results (results_of h (d ∷ ds)) (λ results. None) ≡ option_and_then h first
    go (Some (Gave x)) b ka hb = rw (up (Gave x) ka) (none_given d x (results_of h ds) ∙ ih (rw ka at e))
    go (Some (Fails cause)) b ka hb = let s : Some d ≡ first = rw ka at e in rw (← s, up (Fails cause) ka) refl
    go None None ka hb = let s : Some d ≡ first = rw ka at e in rw (← s, hb) refl
    go None (Some (Fails cause)) ka hb = let s : Some d ≡ first = rw ka at e in rw (← s, hb) refl
    go None (Some (Gave x)) ka hb = let k : known d ≡ Some (Gave x) = down x hb in absurd (cc)

-- of a function that waits there is decided what is decided of its first dependency without a result
first_decides : (known h : Gives) (p : List ℕ → Bool) → ((d : List ℕ) (o : Outcome) → p d ≡ true → known d ≡ Some o → h d ≡ Some o) → ((d : List ℕ) (x : Cell) → h d ≡ Some (Gave x) → known d ≡ Some (Gave x))
    → (ds : List (List ℕ)) (first : Option (List ℕ)) → list_all p ds ≡ true → find (waits known) ds ≡ first → with_results (results_of h ds) (λ results. None) ≡ option_and_then h first
first_decides known h p up down [] first all e = rw (← e) refl
first_decides known h p up down (d ∷ ds) first all e =
    first_step known h d ds first (λ o. up d o (and_left (p d) (list_all p ds) all)) (down d) (first_decides known h p up down ds first (and_right (p d) (list_all p ds) all)) e

pub decided_waits : (functions : List FunctionDecl) (known : Gives) → InOrder functions known → (n : ℕ) (name : List ℕ) (f : FunctionDecl) (first : Option (List ℕ)) → find_function name functions ≡ Some f → list_all (λ d. rests_in n functions d) f.depends ≡ true → known name ≡ None
    → find (waits known) f.depends ≡ first → hydrated_in (suc n) functions (by_known known) name ≡ option_and_then (λ d. hydrated_in n functions (by_known known) d) first
decided_waits functions known order n name f first at rest is e =
    let none : known f.name ≡ None = ap known (found_name name functions f at) ∙ is in
    ap (λ g. called (by_known known) (λ d. hydrated_in n functions (by_known known) d) g) at
    ∙ ap (λ o. with_results (results_of (λ d. hydrated_in n functions (by_known known) d) f.depends) (λ results. o)) none
    ∙ first_decides known (λ d. hydrated_in n functions (by_known known) d) (λ d. rests_in n functions d) (decided_settled functions known order n) (gave_is_known functions known n) f.depends first rest e

found_step : {X : Type 0} (p q : X → Bool) (d : X) (ds : List X) (first : X) (b : Bool) → p d ≡ b → q d ≡ true → (find p ds ≡ Some first → q first ≡ true) → cond b (Some d) (find p ds) ≡ Some first → q first ≡ true
found_step p q d ds first true is here ih e = let t : d ≡ first = cc in rw (← t) here
found_step p q d ds first false is here ih e = ih e

-- the first that passes is one of them, and whatever all are, it is
pub found_is : {X : Type 0} (p q : X → Bool) (ds : List X) (first : X) → list_all q ds ≡ true → find p ds ≡ Some first → q first ≡ true
found_is p q [] first all e = absurd (cc)
found_is p q (d ∷ ds) first all e =
    found_step p q d ds first (p d) refl (and_left (q d) (list_all q ds) all) (found_is p q ds first (and_right (q d) (list_all q ds) all)) e

-- ---- where every known call is settled

results_same : (h k : Gives) → ((d : List ℕ) → h d ≡ k d) → (ds : List (List ℕ)) → results_of h ds ≡ results_of k ds
results_same h k same [] = refl
results_same h k same (d ∷ ds) = ap (λ o. with_result d o (results_of h ds)) (same d) ∙ ap (with_result d (k d)) (results_same h k same ds)

module _ (functions : List FunctionDecl) (known : Gives) (call : Call) (follows : Follows functions known call) (completes : Completes functions known call) where
  settled_same : (name : List ℕ) (f : FunctionDecl) (xs : Members) (a b : Option Outcome) → find_function name functions ≡ Some f → results_of known f.depends ≡ Given xs → call f xs ≡ a → known name ≡ b → a ≡ b
  settled_same name f xs None None at given gives is = refl
  settled_same name f xs (Some o) b at given gives is = sym (completes.taken name f o xs at given gives) ∙ is
  settled_same name f xs None (Some o) at given gives is = sym gives ∙ follows.answered name f o xs at is given

  same_results : (n : ℕ) (name : List ℕ) (f : FunctionDecl) (r : Results) → find_function name functions ≡ Some f → results_of (λ d. hydrated_in n functions (by_known known) d) f.depends ≡ r → with_results r (call f) ≡ with_results r (λ results. known f.name)
  same_results n name f (Given xs) at is =
      settled_same name f xs (call f xs) (known f.name) at (results_given (λ d. hydrated_in n functions (by_known known) d) known (gave_is_known functions known n) f.depends xs is) refl (ap known (sym (found_name name functions f at)))
  same_results n name f (Missed cause) at is = refl
  same_results n name f Pending at is = refl

  same_step : (n : ℕ) (name : List ℕ) (found : Option FunctionDecl) → ((d : List ℕ) → hydrated_in n functions call d ≡ hydrated_in n functions (by_known known) d) → find_function name functions ≡ found
      → called call (λ d. hydrated_in n functions call d) found ≡ called (by_known known) (λ d. hydrated_in n functions (by_known known) d) found
  same_step n name None below at = refl
  same_step n name (Some f) below at =
      ap (λ r. with_results r (call f)) (results_same (λ d. hydrated_in n functions call d) (λ d. hydrated_in n functions (by_known known) d) below f.depends)
      ∙ same_results n name f (results_of (λ d. hydrated_in n functions (by_known known) d) f.depends) at refl

  -- what hydration gives is what is decided by the functions settled so far, also where that is nothing
  pub hydrated_is_status : (n : ℕ) (name : List ℕ) → hydrated_in n functions call name ≡ hydrated_in n functions (by_known known) name
  hydrated_is_status zero name = refl
  hydrated_is_status (suc n) name = same_step n name (find_function name functions) (hydrated_is_status n) refl
