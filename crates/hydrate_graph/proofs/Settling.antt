-- One more function is settled.
use Rattle.std.proofs.Common.{◌≡◌, ◌<◌, ◌⊎◌, inl, inr, ℕ, zero, suc, true, ◌&&◌, List, [], ◌∷◌, length, get_or, set, replicate, Option, Some, None, refl, sym, ap, ◌∙◌, arith}
use Rattle.std.specs.Prelude.{slice_get, is_none}
use Rattle.std.specs.List.{list_all}
use Rattle.std.proofs.lemmas.List.{get_or-set_same, get_or-set_other, length-map, length-set, length-replicate}
use Rattle.std.proofs.lemmas.Bool.{cases_eq}
use Rattle.sp_value.specs.declared.cell.Cell.{Cell}
use Rattle.sp_model.specs.Hydration.{gave, depends_of, results_of, find_function}
use Rattle.sp_model.specs.declared.declaration.FunctionDecl.{FunctionDecl}
use Rattle.sp_model.specs.declared.outcome.Outcome.{Outcome}
use Rattle.sp_model.specs.declared.outcome.Results.TheVariants.{Given}
use Rattle.hydrate_graph.specs.Following.{Follows, InOrder}
use Rattle.hydrate_graph.specs.Graphs.{settled_at, settled_by, known_in, Plan, may_call, wants}
use Rattle.hydrate_graph.specs.Numbers.{number_of, depends_at}
use Rattle.hydrate_graph.specs.Plans.{AreApart, IsGraph}
use Rattle.hydrate_graph.proofs.Numbering.{found_at}
use Rattle.hydrate_graph.proofs.Slots.{wanted_below}
use Rattle.hydrate_graph.proofs.Hydrating.{and_left, and_right, results_more, results_gave, all_true}

-- ---- in its slot

at_other : (t : Option ℕ) (outcomes : List (Option Outcome)) (s : ℕ) (x : Option Outcome) → (t ≡ Some s → ⊥) → settled_at (set outcomes s x) t ≡ settled_at outcomes t
at_other None outcomes s x other = refl
at_other (Some n) outcomes s x other = get_or-set_other outcomes s n x None (λ e. other (ap (λ m. Some m) e))

untouched : (ss : List (Option ℕ)) (outcomes : List (Option Outcome)) (s : ℕ) (x : Option Outcome) → ((j : ℕ) → get_or ss j None ≡ Some s → ⊥) → settled_by ss (set outcomes s x) ≡ settled_by ss outcomes
untouched [] outcomes s x other = refl
untouched (t ∷ ss) outcomes s x other =
    let rest : settled_by ss (set outcomes s x) ≡ settled_by ss outcomes = untouched ss outcomes s x (λ j e. other (suc j) e) in
    let here : settled_at (set outcomes s x) t ≡ settled_at outcomes t = at_other t outcomes s x (other 0) in
    ap (λ o. o ∷ settled_by ss (set outcomes s x)) here ∙ ap (λ os. settled_at outcomes t ∷ os) rest

set_slot : (ss : List (Option ℕ)) (outcomes : List (Option Outcome)) (k s : ℕ) (x : Option Outcome) → get_or ss k None ≡ Some s → s < length outcomes → ((j : ℕ) → get_or ss j None ≡ Some s → j ≡ k)
    → settled_by ss (set outcomes s x) ≡ set (settled_by ss outcomes) k x
set_slot [] outcomes k s x is room one = absurd (cc)
set_slot (t ∷ ss) outcomes zero s x is room one =
    let rest : settled_by ss (set outcomes s x) ≡ settled_by ss outcomes = untouched ss outcomes s x (λ j e. let z : suc j ≡ 0 = one (suc j) e in omega (arith, z)) in
    let here : settled_at (set outcomes s x) t ≡ x = ap (settled_at (set outcomes s x)) is ∙ get_or-set_same outcomes s x None room in
    ap (λ o. o ∷ settled_by ss (set outcomes s x)) here ∙ ap (λ os. x ∷ os) rest
set_slot (t ∷ ss) outcomes (suc k) s x is room one =
    let here : settled_at (set outcomes s x) t ≡ settled_at outcomes t = at_other t outcomes s x (λ e. let z : 0 ≡ suc k = one 0 e in omega (arith, z)) in
    let rest : settled_by ss (set outcomes s x) ≡ set (settled_by ss outcomes) k x = set_slot ss outcomes k s x is room (λ j e. let z : suc j ≡ suc k = one (suc j) e in omega (arith, z)) in
    ap (λ o. o ∷ settled_by ss (set outcomes s x)) here ∙ ap (λ os. settled_at outcomes t ∷ os) rest

-- what is put in a function's slot is settled of that function alone
pub settled_set : (slots : List (Option ℕ)) (outcomes : List (Option Outcome)) (k s : ℕ) (x : Option Outcome) → AreApart slots → s < length outcomes → get_or slots k None ≡ Some s → settled_by slots (set outcomes s x) ≡ set (settled_by slots outcomes) k x
settled_set slots outcomes k s x apart room at = set_slot slots outcomes k s x at room (λ j e. apart j k s e at)

none_at : (n s : ℕ) → get_or (replicate n (let none : Option Outcome = None in none)) s None ≡ None
none_at zero s = refl
none_at (suc n) zero = refl
none_at (suc n) (suc s) = none_at n s

none_in : (n : ℕ) (t : Option ℕ) → settled_at (replicate n None) t ≡ None
none_in n None = refl
none_in n (Some s) = none_at n s

-- at first nothing is settled
pub nothing_settled : (slots : List (Option ℕ)) (room count : ℕ) → length slots ≡ count → settled_by slots (replicate room None) ≡ replicate count None
nothing_settled [] room zero e = refl
nothing_settled [] room (suc count) e = absurd (omega arith)
nothing_settled (s ∷ ss) room zero e = absurd (omega arith)
nothing_settled (s ∷ ss) room (suc count) e = ap (λ o. o ∷ settled_by ss (replicate room None)) (none_in room s) ∙ ap (λ os. None ∷ os) (nothing_settled ss room count (omega arith))

pub nothing_in_order : (fs : List FunctionDecl) (count : ℕ) → InOrder fs (known_in fs (replicate count None))
nothing_in_order fs count = record { after = λ name f o found is. let e : Some o ≡ None = sym is ∙ none_at count (number_of fs name) in absurd (cc) }

-- ---- what is known by it

module _ (fs : List FunctionDecl) (settled : List (Option Outcome)) (k : ℕ) (o : Outcome) (none : get_or settled k None ≡ None) where
  abbrev after_set : List ℕ → Option Outcome
  after_set name = known_in fs (set settled k (Some o)) name

  known_other : (name : List ℕ) → (number_of fs name ≡ k → ⊥) → after_set name ≡ known_in fs settled name
  known_other name other = get_or-set_other settled k (number_of fs name) (Some o) None other

  -- what was known stays
  pub known_up : (name : List ℕ) (q : Outcome) → known_in fs settled name ≡ Some q → after_set name ≡ Some q
  known_up name q is = known_other name (λ e. let n : known_in fs settled name ≡ None = ap (λ m. get_or settled m None) e ∙ none in absurd (cc)) ∙ is

  gave_up : (o' : Option Outcome) (name : List ℕ) → known_in fs settled name ≡ o' → gave o' ≡ true → gave (after_set name) ≡ true
  gave_up None name is h = absurd (cc)
  gave_up (Some q) name is h = ap gave (known_up name q is) ∙ h

  pub all_gave_up : (ds : List (List ℕ)) → list_all (λ d. gave (known_in fs settled d)) ds ≡ true → list_all (λ d. gave (after_set d)) ds ≡ true
  all_gave_up [] all = refl
  all_gave_up (d ∷ ds) all =
      let here : gave (after_set d) ≡ true = gave_up (known_in fs settled d) d refl (and_left (gave (known_in fs settled d)) (list_all (λ d. gave (known_in fs settled d)) ds) all) in
      let rest : list_all (λ d. gave (after_set d)) ds ≡ true = all_gave_up ds (and_right (gave (known_in fs settled d)) (list_all (λ d. gave (known_in fs settled d)) ds) all) in
      rw (here, rest) refl

  -- results that were there stay
  pub results_up : (ds : List (List ℕ)) (xs : List (List ℕ × Cell)) → results_of (known_in fs settled) ds ≡ Given xs → results_of after_set ds ≡ Given xs
  results_up ds xs is = results_more (known_in fs settled) after_set (λ d. true) (λ d q t. known_up d q) ds (all_true ds) (λ w. cc) ∙ is

  module _ (l : k < length settled) where
    known_here : (name : List ℕ) (q : Outcome) → number_of fs name ≡ k → after_set name ≡ Some q → o ≡ q
    known_here name q e is =
        let s : Some o ≡ Some q = sym (get_or-set_same settled k (Some o) None l) ∙ sym (ap (λ m. get_or (set settled k (Some o)) m None) e) ∙ is in
        cc

    depends_here : (name : List ℕ) (f : FunctionDecl) → find_function name fs ≡ Some f → number_of fs name ≡ k → depends_at fs k ≡ f.depends
    depends_here name f found e = ap (depends_at fs) (sym e) ∙ ap depends_of (sym (found_at name fs)) ∙ ap depends_of found

    order_by : (order : InOrder fs (known_in fs settled)) (deps : list_all (λ d. gave (known_in fs settled d)) (depends_at fs k) ≡ true) (name : List ℕ) (f : FunctionDecl) (q : Outcome) → find_function name fs ≡ Some f → after_set name ≡ Some q
        → (number_of fs name ≡ k) ⊎ (number_of fs name ≡ k → ⊥) → list_all (λ d. gave (after_set d)) f.depends ≡ true
    order_by order deps name f q found is (inl e) = all_gave_up f.depends (ap (list_all (λ d. gave (known_in fs settled d))) (sym (depends_here name f found e)) ∙ deps)
    order_by order deps name f q found is (inr other) = all_gave_up f.depends (order.after name f q found (sym (known_other name other) ∙ is))

    pub order_settled : InOrder fs (known_in fs settled) → list_all (λ d. gave (known_in fs settled d)) (depends_at fs k) ≡ true → InOrder fs (known_in fs (set settled k (Some o)))
    order_settled order deps = record { after = λ name f q found is. order_by order deps name f q found is (cases_eq (number_of fs name) k) }

    module _ (call : FunctionDecl → List (List ℕ × Cell) → Option Outcome) (order : InOrder fs (known_in fs settled)) (follows : Follows fs (known_in fs settled) call) (f : FunctionDecl) (xs : List (List ℕ × Cell))
        (at : slice_get fs k ≡ Some f) (here : results_of (known_in fs settled) f.depends ≡ Given xs) (gives : call f xs ≡ Some o) where
      follows_by : (name : List ℕ) (g : FunctionDecl) (q : Outcome) (ys : List (List ℕ × Cell)) → find_function name fs ≡ Some g → after_set name ≡ Some q → results_of after_set g.depends ≡ Given ys
          → (number_of fs name ≡ k) ⊎ (number_of fs name ≡ k → ⊥) → call g ys ≡ Some q
      follows_by name g q ys found is results (inl e) =
          let same : Some g ≡ Some f = sym found ∙ found_at name fs ∙ ap (slice_get fs) e ∙ at in
          let g_is : g ≡ f = cc in
          let q_is : o ≡ q = known_here name q e is in
          let both : Given xs ≡ Given ys = sym (results_up f.depends xs here) ∙ sym (ap (λ h. results_of after_set h.depends) g_is) ∙ results in
          let ys_is : xs ≡ ys = cc in
          rw (g_is, ← ys_is, ← q_is) gives
      follows_by name g q ys found is results (inr other) =
          let before : known_in fs settled name ≡ Some q = sym (known_other name other) ∙ is in
          let p = results_gave (known_in fs settled) g.depends (order.after name g q found before) in
          let both : Given p.0 ≡ Given ys = sym (results_up g.depends p.0 p.1) ∙ results in
          let ys_is : p.0 ≡ ys = cc in
          follows.answered name g q ys found before (p.1 ∙ ap (λ zs. Given zs) ys_is)

      pub follows_settled : Follows fs (known_in fs (set settled k (Some o))) call
      follows_settled = record { answered = λ name g q ys found is results. follows_by name g q ys found is results (cases_eq (number_of fs name) k) }

-- ---- the parts of being ready

pub ready_none : (p : Plan) (settled : List (Option Outcome)) (k : ℕ) → may_call p settled k ≡ true → get_or settled k None ≡ None
ready_none p settled k h = none_is (get_or settled k None) (and_left_of_right h)
  where
    none_is : (o : Option Outcome) → is_none o ≡ true → o ≡ None
    none_is None e = refl
    none_is (Some x) e = absurd (cc)

    and_left_of_right : may_call p settled k ≡ true → is_none (get_or settled k None) ≡ true
    and_left_of_right e =
        and_right (wants p k) (is_none (get_or settled k None)) (and_left (wants p k && is_none (get_or settled k None)) (list_all (λ d. gave (known_in p.functions settled d)) (depends_at p.functions k)) e)

pub ready_wanted : (p : Plan) (settled : List (Option Outcome)) (k : ℕ) → may_call p settled k ≡ true → wants p k ≡ true
ready_wanted p settled k e =
    and_left (wants p k) (is_none (get_or settled k None)) (and_left (wants p k && is_none (get_or settled k None)) (list_all (λ d. gave (known_in p.functions settled d)) (depends_at p.functions k)) e)

pub ready_gave : (p : Plan) (settled : List (Option Outcome)) (k : ℕ) → may_call p settled k ≡ true → list_all (λ d. gave (known_in p.functions settled d)) (depends_at p.functions k) ≡ true
ready_gave p settled k e = and_right (wants p k && is_none (get_or settled k None)) (list_all (λ d. gave (known_in p.functions settled d)) (depends_at p.functions k)) e

-- ---- a row

pub graph_settled : (p : Plan) (outcomes new : List (Option Outcome)) (k slot : ℕ) (o : Outcome) → IsGraph p outcomes → may_call p (settled_by p.slots outcomes) k ≡ true → AreApart p.slots → length p.slots ≡ length p.functions → get_or p.slots k None ≡ Some slot → slot < p.room
    → new ≡ set outcomes slot (Some o) → IsGraph p new × (settled_by p.slots new ≡ set (settled_by p.slots outcomes) k (Some o))
graph_settled p outcomes new k slot o g may apart count at below is =
    let put : settled_by p.slots new ≡ set (settled_by p.slots outcomes) k (Some o) = ap (settled_by p.slots) is ∙ settled_set p.slots outcomes k slot (Some o) apart (omega (arith, g.room, below)) at in
    let l : k < length (settled_by p.slots outcomes) = omega (arith, length-map p.slots (settled_at outcomes), wanted_below p.slots k (ready_wanted p (settled_by p.slots outcomes) k may)) in
    let order : InOrder p.functions (known_in p.functions (set (settled_by p.slots outcomes) k (Some o))) =
    order_settled p.functions (settled_by p.slots outcomes) k o (ready_none p (settled_by p.slots outcomes) k may) l g.order (ready_gave p (settled_by p.slots outcomes) k may) in
    (record { room = ap length is ∙ length-set outcomes slot (Some o) ∙ g.room; order = rw put order }, put)

pub begun : (p : Plan) (outcomes : List (Option Outcome)) (n : ℕ) → outcomes ≡ replicate n None → n ≡ p.room → length p.slots ≡ length p.functions → IsGraph p outcomes × (settled_by p.slots outcomes ≡ replicate (length p.functions) None)
begun p outcomes n is room count =
    let nothing : settled_by p.slots outcomes ≡ replicate (length p.functions) None = ap (settled_by p.slots) is ∙ nothing_settled p.slots n (length p.functions) count in
    (record { room = ap length is ∙ length-replicate n None ∙ room; order = rw nothing (nothing_in_order p.functions (length p.functions)) }, nothing)

pub nothing_follows : (fs : List FunctionDecl) (count : ℕ) (call : FunctionDecl → List (List ℕ × Cell) → Option Outcome) → Follows fs (known_in fs (replicate count None)) call
nothing_follows fs count call = record { answered = λ name f o results found is given. let e : Some o ≡ None = sym is ∙ none_at count (number_of fs name) in absurd (cc) }

pub graph_follows : (p : Plan) (outcomes new : List (Option Outcome)) (k slot : ℕ) (o : Outcome) → IsGraph p outcomes → may_call p (settled_by p.slots outcomes) k ≡ true → AreApart p.slots → length p.slots ≡ length p.functions → get_or p.slots k None ≡ Some slot → slot < p.room
    → new ≡ set outcomes slot (Some o) → (call : FunctionDecl → List (List ℕ × Cell) → Option Outcome) (f : FunctionDecl) (xs : List (List ℕ × Cell)) → Follows p.functions (known_in p.functions (settled_by p.slots outcomes)) call → slice_get p.functions k ≡ Some f
    → results_of (known_in p.functions (settled_by p.slots outcomes)) (depends_at p.functions k) ≡ Given xs → call f xs ≡ Some o → Follows p.functions (known_in p.functions (settled_by p.slots new)) call
graph_follows p outcomes new k slot o g may apart count at below is call f xs follows found here gives =
    let put : settled_by p.slots new ≡ set (settled_by p.slots outcomes) k (Some o) = ap (settled_by p.slots) is ∙ settled_set p.slots outcomes k slot (Some o) apart (omega (arith, g.room, below)) at in
    let l : k < length (settled_by p.slots outcomes) = omega (arith, length-map p.slots (settled_at outcomes), wanted_below p.slots k (ready_wanted p (settled_by p.slots outcomes) k may)) in
    let here' : results_of (known_in p.functions (settled_by p.slots outcomes)) f.depends ≡ Given xs = ap (λ d. results_of (known_in p.functions (settled_by p.slots outcomes)) (depends_of d)) (sym found) ∙ here in
    let done : Follows p.functions (known_in p.functions (set (settled_by p.slots outcomes) k (Some o))) call =
    follows_settled p.functions (settled_by p.slots outcomes) k o (ready_none p (settled_by p.slots outcomes) k may) l call g.order follows f xs found here' gives in
    rw put done
