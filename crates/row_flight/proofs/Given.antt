-- A function that is ready in its row's graph is ready by what is known of the row.
use Rattle.std.proofs.Common.{◌≡◌, ◌<◌, ℕ, Bool, true, false, ◌&&◌, List, [], ◌∷◌, length, get_or, Option, Some, None, refl, sym, ap, subst, ◌∙◌, arith}
use Rattle.std.specs.Prelude.{slice_get}
use Rattle.std.specs.List.{list_all}
use Rattle.sp_value.specs.declared.cell.Cell.{Cell}
use Rattle.sp_model.proofs.Lawful.{found_name}
use Rattle.sp_model.specs.Calls.{is_wanted}
use Rattle.sp_model.specs.Hydration.{gave, depends_of, with_result, results_of, find_function}
use Rattle.sp_model.specs.Rests.{rests_in, column_rests}
use Rattle.sp_model.specs.Settling.{Answers}
use Rattle.sp_model.specs.declared.declaration.FunctionDecl.{FunctionDecl}
use Rattle.sp_model.specs.declared.declaration.TableDecl.{TableDecl}
use Rattle.sp_model.specs.declared.outcome.Outcome.{Outcome}
use Rattle.sp_model.specs.declared.outcome.Outcome.TheVariants.{Gave, Fails}
use Rattle.sp_model.specs.declared.outcome.Results.{Results}
use Rattle.sp_model.specs.declared.outcome.Results.TheVariants.{Given, Missed, Pending}
use Rattle.hydrate_graph.proofs.Hydrating.{results_more, results_gave, results_given, gave_is_known, decided_settled}
use Rattle.hydrate_graph.proofs.Numbering.{found_at}
use Rattle.hydrate_graph.proofs.Settling.{ready_none, ready_wanted, ready_gave}
use Rattle.hydrate_graph.specs.Following.{by_known, InOrder}
use Rattle.hydrate_graph.specs.Graphs.{Graph, known, is_ready, results_at, wants}
use Rattle.hydrate_graph.specs.Numbers.{number_of, depends_at}
use Rattle.scan_laws.proofs.Hydrating.{deeper}
use Rattle.scan_laws.specs.Flights.{status, is_given, AreApart, RowAgrees}
use Rattle.scan_laws.specs.Laws.{IsReady}
use Rattle.scan_laws.specs.States.{FlightRow}
use Rattle.row_flight.proofs.Naming.{at_some, number_at, Resting, wanted_rest}
use Rattle.row_flight.specs.Pooled.{IsSound}
use Rattle.row_flight.specs.Rows.{flight_row}
use Rattle.row_flight.specs.declared.row.RowCalls.{RowCalls}

gave_more : (d : List ℕ) (a : Option Outcome) (r : Results) (xs : List (List ℕ × Cell)) (all : Bool) → with_result d a r ≡ Given xs → ((ys : List (List ℕ × Cell)) → r ≡ Given ys → all ≡ true) → (gave a && all) ≡ true
gave_more d None r xs all e more = absurd (cc)
gave_more d (Some (Fails cause)) r xs all e more = absurd (cc)
gave_more d (Some (Gave x)) (Given ys) xs all e more = more ys refl
gave_more d (Some (Gave x)) (Missed cause) xs all e more = absurd (cc)
gave_more d (Some (Gave x)) Pending xs all e more = absurd (cc)

all_gave : (known : List ℕ → Option Outcome) (ds : List (List ℕ)) (xs : List (List ℕ × Cell)) → results_of known ds ≡ Given xs → list_all (λ d. gave (known d)) ds ≡ true
all_gave known [] xs e = refl
all_gave known (d ∷ ds) xs e = gave_more d (known d) (results_of known ds) xs (list_all (λ d. gave (known d)) ds) e (λ ys h. all_gave known ds ys h)

given_or : (r : Results) → (is_given r ≡ false → ⊥) → (xs : List (List ℕ × Cell)) × (r ≡ Given xs)
given_or (Given xs) never = (xs, refl)
given_or (Missed cause) never = absurd (never refl)
given_or Pending never = absurd (never refl)

-- a row that agrees with the answers settled a function only after each of its dependencies gave a result
in_order : (table : TableDecl) (answers : Answers) (row : FlightRow) → RowAgrees table answers row → InOrder table.functions row.known
in_order table answers row agrees = record { after = λ name f o found is. after name f o found is }
  where
    after : (name : List ℕ) (f : FunctionDecl) (o : Outcome) → find_function name table.functions ≡ Some f → row.known name ≡ Some o → list_all (λ d. gave (row.known d)) f.depends ≡ true
    after name f o found is =
        let named : f.name ≡ name = found_name name table.functions f found in
        let itself : find_function f.name table.functions ≡ Some f = ap (λ n. find_function n table.functions) named ∙ found in
        let here : row.known f.name ≡ Some o = ap row.known named ∙ is in
        let p = given_or (results_of (status table row) f.depends) (λ w. let bad : None ≡ Some o = sym (agrees.order f itself w).0 ∙ here in cc) in
        all_gave row.known f.depends p.0
        (results_given (status table row) row.known (λ d x e. gave_is_known table.functions row.known (length table.functions) d x e) f.depends p.0 p.1)

-- what a ready function is: its declaration, and the results of its dependencies
pub record ReadyFunction (table : TableDecl) (row : RowCalls) (k : ℕ) : Type 0 where
  pub f : FunctionDecl
  pub results : List (List ℕ × Cell)
  pub at : slice_get table.functions k ≡ Some f
  pub number : number_of table.functions f.name ≡ k
  pub ready : IsReady table (flight_row row) f results
  pub results_are : results_at row.graph k ≡ Given results
  pub wanted : is_wanted table.functions row.graph.plan.columns f.name ≡ true

pub ready_function : (table : TableDecl) (answers : Answers) (row : RowCalls) (k : ℕ) → AreApart table → RowAgrees table answers (flight_row row) → IsSound row.graph.plan → row.graph.plan.functions ≡ table.functions
    → is_ready row.graph k ≡ true → k < length row.graph.plan.functions → ReadyFunction table row k
ready_function table answers row k apart agrees sound fs may l =
    let g : Graph = row.graph in
    let p = at_some table.functions k (subst (λ z. k < length z) fs l) in
    let f : FunctionDecl = p.0 in
    let number : number_of table.functions f.name ≡ k = number_at table.functions f k apart p.1 in
    let found : find_function f.name table.functions ≡ Some f = found_at f.name table.functions ∙ ap (slice_get table.functions) number ∙ p.1 in
    let depends : depends_at g.plan.functions k ≡ f.depends = ap (λ z. depends_at z k) fs ∙ ap depends_of p.1 in
    let all : list_all (λ d. gave (known g d)) f.depends ≡ true = ap (list_all (λ d. gave (known g d))) (sym depends) ∙ ready_gave g.plan g.settled k may in
    let there = results_gave (known g) f.depends all in
    let wanted : is_wanted table.functions g.plan.columns f.name ≡ true =
    ap (λ z. is_wanted z g.plan.columns f.name) (sym fs)
    ∙ sym (sound.wanted f.name f (ap (find_function f.name) fs ∙ found)) ∙ ap (wants g.plan) (ap (λ z. number_of z f.name) fs ∙ number) ∙ ready_wanted g.plan g.settled k may in
    let rest : Resting (length table.functions) table.functions f.name = wanted_rest table.functions g.plan.columns f.name wanted (subst (λ z. list_all (λ c. column_rests z c) g.plan.columns ≡ true) fs sound.rest) in
    let order : InOrder table.functions (known g) = in_order table answers (flight_row row) agrees in
    let m : ℕ = rest.0 in
    let below = rest.1 in
    let up : (d : List ℕ) (o : Outcome) → rests_in m table.functions d ≡ true → known g d ≡ Some o → status table (flight_row row) d ≡ Some o =
    λ d o rests is. deeper table.functions (by_known (known g)) m (length table.functions) (omega (arith, below)) d o (decided_settled table.functions (known g) order m d o rests is) in
    let resting : list_all (λ d. rests_in m table.functions d) f.depends ≡ true = ap (λ z. list_all (λ d. rests_in m table.functions d) (depends_of z)) (sym found) ∙ rest.2 in
    record {
      f = f;
      results = there.0;
      at = p.1;
      number = number;
      ready = record {
        found = found;
        given = results_more (known g) (status table (flight_row row)) (λ d. rests_in m table.functions d) up f.depends resting (λ w. let bad : Given there.0 ≡ Pending = sym there.1 ∙ w in cc) ∙ there.1;
        unknown = ap (λ n. get_or g.settled n None) (ap (λ z. number_of z f.name) fs ∙ number) ∙ ready_none g.plan g.settled k may;
      };
      results_are = ap (results_of (known g)) depends ∙ there.1;
      wanted = wanted;
    }
