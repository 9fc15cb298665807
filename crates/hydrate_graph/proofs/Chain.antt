-- From a function that waits to its first dependency without a result, by names and by numbers.
use Rattle.std.proofs.Common.{◌≡◌, ℕ, zero, suc, Bool, true, false, not, cond, List, [], ◌∷◌, get_or, map, Option, Some, None, refl, sym, ap, ◌∙◌}
use Rattle.std.specs.Prelude.{slice_get, option_and_then}
use Rattle.std.specs.List.{list_all, find}
use Rattle.sp_model.specs.Hydration.{gave}
use Rattle.sp_model.specs.Hydration.{find_function, hydrated_in}
use Rattle.sp_model.specs.declared.declaration.FunctionDecl.{FunctionDecl}
use Rattle.sp_model.specs.declared.outcome.Outcome.{Outcome}
use Rattle.hydrate_graph.specs.Following.{by_known, InOrder}
use Rattle.hydrate_graph.specs.Graphs.{known_in}
use Rattle.hydrate_graph.specs.Numbers.{number_of, numbers_of, needs_of, name_at}
use Rattle.sp_model.specs.Rests.{rests_in, rests_by}
use Rattle.hydrate_graph.proofs.Numbering.{found_at, named_at}
use Rattle.hydrate_graph.proofs.Hydrating.{decided_settled, decided_waits, found_is, waits}

pub get_map : {X Y : Type 0} (g : X → Y) (xs : List X) (n : ℕ) (x : X) → slice_get xs n ≡ Some x → slice_get (map g xs) n ≡ Some (g x)
get_map g [] n x h = absurd (cc)
get_map g (y ∷ ys) zero x h = let e : y ≡ x = cc in ap (λ z. Some (g z)) e
get_map g (y ∷ ys) (suc n) x h = get_map g ys n x h

find_map_if : {X Y : Type 0} (g : X → Y) (p : Y → Bool) (x : X) (xs : List X) (k : Y) (b : Bool) → cond b (Some (g x)) (find p (map g xs)) ≡ Some k → (find p (map g xs) ≡ Some k → (z : X) × (find (λ y. p (g y)) xs ≡ Some z) × (k ≡ g z))
    → (z : X) × (cond b (Some x) (find (λ y. p (g y)) xs) ≡ Some z) × (k ≡ g z)
find_map_if g p x xs k true h later = (x, refl, (cc))
find_map_if g p x xs k false h later = later h

find_map : {X Y : Type 0} (g : X → Y) (p : Y → Bool) (xs : List X) (k : Y) → find p (map g xs) ≡ Some k → (z : X) × (find (λ y. p (g y)) xs ≡ Some z) × (k ≡ g z)
find_map g p [] k h = absurd (cc)
find_map g p (x ∷ xs) k h = find_map_if g p x xs k (p (g x)) h (find_map g p xs k)

find_none_if : {X Y : Type 0} (g : X → Y) (x : X) (b : Bool) (r : Option Y) (s : Option X) → cond b (Some (g x)) r ≡ None → (r ≡ None → s ≡ None) → cond b (Some x) s ≡ None
find_none_if g x true r s h later = absurd (cc)
find_none_if g x false r s h later = later h

find_map_none : {X Y : Type 0} (g : X → Y) (p : Y → Bool) (xs : List X) → find p (map g xs) ≡ None → find (λ y. p (g y)) xs ≡ None
find_map_none g p [] h = refl
find_map_none g p (x ∷ xs) h = find_none_if g x (p (g x)) (find p (map g xs)) (find (λ y. p (g y)) xs) h (find_map_none g p xs)

rest_found : (n : ℕ) (fs : List FunctionDecl) (name : List ℕ) (found : Option FunctionDecl) → find_function name fs ≡ found → rests_by (λ d. rests_in n fs d) found ≡ true
    → (f : FunctionDecl) × (find_function name fs ≡ Some f) × (list_all (λ d. rests_in n fs d) f.depends ≡ true)
rest_found n fs name None at rest = absurd (cc)
rest_found n fs name (Some f) at rest = (f, at, rest)

-- a function that rests is declared, and its dependencies rest
pub resting : (m n : ℕ) (fs : List FunctionDecl) (name : List ℕ) → m ≡ suc n → rests_in m fs name ≡ true → (f : FunctionDecl) × (find_function name fs ≡ Some f) × (list_all (λ d. rests_in n fs d) f.depends ≡ true)
resting m n fs name more rest = rest_found n fs name (find_function name fs) refl (rw more at rest)

pub found_here : (m : ℕ) (fs : List FunctionDecl) (name : List ℕ) → rests_in m fs name ≡ true → (f : FunctionDecl) × (find_function name fs ≡ Some f)
found_here zero fs name rest = absurd (cc)
found_here (suc n) fs name rest = let p = rest_found n fs name (find_function name fs) refl rest in (p.0, p.1)

abbrev pub waiting_in : List (Option Outcome) → ℕ → Bool
waiting_in settled k = not (gave (get_or settled k None))

module _ (fs : List FunctionDecl) (settled : List (Option Outcome)) (order : InOrder fs (known_in fs settled)) (at : ℕ) (first : number_of fs (name_at fs at) ≡ at) where
  abbrev given : ℕ → List ℕ → Option Outcome
  given n name = hydrated_in n fs (by_known (known_in fs settled)) name

  -- a function that is settled is decided
  pub settled_here : (m : ℕ) (o : Outcome) → rests_in m fs (name_at fs at) ≡ true → Some o ≡ get_or settled at None → given m (name_at fs at) ≡ Some o
  settled_here m o rest is = decided_settled fs (known_in fs settled) order m (name_at fs at) o rest (ap (λ k. get_or settled k None) first ∙ sym is)

  needs_here : (f : FunctionDecl) (gs : List ℕ) → find_function (name_at fs at) fs ≡ Some f → Some gs ≡ slice_get (needs_of fs) at → gs ≡ numbers_of fs f.depends
  needs_here f gs found is =
      let here : slice_get fs at ≡ Some f = sym (ap (slice_get fs) first) ∙ sym (found_at (name_at fs at) fs) ∙ found in
      let e : Some gs ≡ Some (numbers_of fs f.depends) = is ∙ get_map (λ h. numbers_of fs h.depends) fs at f here in
      cc

  module _ (m n : ℕ) (more : m ≡ suc n) (rest : rests_in m fs (name_at fs at) ≡ true) where
    -- a function that rests has its needs
    pub has_needs : None ≡ slice_get (needs_of fs) at → ⊥
    has_needs out =
        let p = resting m n fs (name_at fs at) more rest in
        let here : slice_get fs at ≡ Some p.0 = sym (ap (slice_get fs) first) ∙ sym (found_at (name_at fs at) fs) ∙ p.1 in
        let e : None ≡ Some (numbers_of fs p.0.depends) = out ∙ get_map (λ h. numbers_of fs h.depends) fs at p.0 here in
        cc

    module _ (none : None ≡ get_or settled at None) (gs : List ℕ) (is : Some gs ≡ slice_get (needs_of fs) at) where
      waits_on : (f : FunctionDecl) (next : Option (List ℕ)) → find_function (name_at fs at) fs ≡ Some f → list_all (λ d. rests_in n fs d) f.depends ≡ true → find (waits (known_in fs settled)) f.depends ≡ next → given m (name_at fs at) ≡ option_and_then (λ d. given n d) next
      waits_on f next found all e =
          ap (λ k. given k (name_at fs at)) more ∙ decided_waits fs (known_in fs settled) order n (name_at fs at) f next found all (ap (λ k. get_or settled k None) first ∙ sym none) e

      -- where each dependency gave a result, nothing is decided
      pub stops_here : None ≡ find (waiting_in settled) gs → given m (name_at fs at) ≡ None
      stops_here e =
          let p = resting m n fs (name_at fs at) more rest in
          let all : find (waiting_in settled) (numbers_of fs p.0.depends) ≡ None = sym (ap (find (waiting_in settled)) (needs_here p.0 gs p.1 is)) ∙ sym e in
          waits_on p.0 None p.1 p.2 (find_map_none (number_of fs) (waiting_in settled) p.0.depends all)

      -- else it is what is decided of the first that waits
      pub goes_on : (next : ℕ) → Some next ≡ find (waiting_in settled) gs → (number_of fs (name_at fs next) ≡ next) × (rests_in n fs (name_at fs next) ≡ true) × (given n (name_at fs next) ≡ given m (name_at fs at))
      goes_on next e =
          let p = resting m n fs (name_at fs at) more rest in
          let one : find (waiting_in settled) (numbers_of fs p.0.depends) ≡ Some next = sym (ap (find (waiting_in settled)) (needs_here p.0 gs p.1 is)) ∙ sym e in
          let d = find_map (number_of fs) (waiting_in settled) p.0.depends next one in
          let rests_there : rests_in n fs d.0 ≡ true = found_is (waits (known_in fs settled)) (λ d. rests_in n fs d) p.0.depends d.0 p.2 d.1 in
          let q = found_here n fs d.0 rests_there in
          let named : name_at fs next ≡ d.0 = ap (name_at fs) d.2 ∙ named_at d.0 fs q.0 q.1 in
          (ap (number_of fs) named ∙ sym d.2, ap (λ name. rests_in n fs name) named ∙ rests_there, ap (λ name. given n name) named ∙ sym (waits_on p.0 (Some d.0) p.1 p.2 d.1))
