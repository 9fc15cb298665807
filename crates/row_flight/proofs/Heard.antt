-- The steps of a row, with what was heard of its calls.
use Rattle.std.proofs.Common.{◌≡◌, ℕ, suc, Bool, true, false, List, Option, Some, None, if◌then◌else◌, bytes_eq, refl, sym, ap, subst, ◌∙◌}
use Rattle.std.specs.Prelude.{slice_get}
use Rattle.std.proofs.lemmas.Slice.Eq.{bytes_eq-Decides}
use Rattle.sp_value.specs.declared.cell.Cell.{Cell}
use Rattle.sp_model.specs.Hydration.{results_of, find_function}
use Rattle.sp_model.specs.Settling.{Answers}
use Rattle.sp_model.specs.declared.call.Call.TheVariants as call
use Rattle.sp_model.specs.declared.declaration.FunctionDecl.{FunctionDecl}
use Rattle.sp_model.specs.declared.declaration.TableDecl.{TableDecl}
use Rattle.sp_model.specs.declared.outcome.Outcome.{Outcome}
use Rattle.sp_model.specs.declared.outcome.Results.{Results}
use Rattle.sp_model.specs.declared.outcome.Results.TheVariants.{Given, Missed, Pending}
use Rattle.scan_laws.proofs.Hydrating.{IsBelow, given_up, status_up}
use Rattle.scan_laws.specs.Flights.{status, is_given, RowAgrees}
use Rattle.scan_laws.specs.Laws.{IsReady}
use Rattle.scan_laws.specs.States.{FlightRow}
use Rattle.scan_laws.specs.Steps.{put, function_listed, function_again, function_settled}
use Rattle.row_flight.specs.Hearing.{Hears}

same_function : (table : TableDecl) (f g : FunctionDecl) → find_function f.name table.functions ≡ Some f → find_function g.name table.functions ≡ Some g → bytes_eq f.name g.name ≡ true → f ≡ g
same_function table f g a b e =
    let names : f.name ≡ g.name = (bytes_eq-Decides f.name g.name).0 e in
    let both : Some f ≡ Some g = sym a ∙ ap (λ n. find_function n table.functions) names ∙ b in
    cc

given_same : (r : Results) (xs ys : List (List ℕ × Cell)) → r ≡ Given xs → r ≡ Given ys → xs ≡ ys
given_same r xs ys a b = let e : Given xs ≡ Given ys = sym a ∙ b in cc

module _ (table : TableDecl) (answers : Answers) (row : FlightRow) (came : List ℕ → Option Cell) (hears : Hears table answers row came) (f : FunctionDecl) where
  -- the item at place 0 came
  pub hears_item : (results : List (List ℕ × Cell)) (x : Cell) → IsReady table row f results → row.listed f.name ≡ true
      → slice_get (answers (call.Hydrate table.name f.name row.item results) (suc (row.tries f.name))).items 0 ≡ Some x → Hears table answers row (put came f.name (Some x))
  hears_item results x ready l is = record {
    first = λ g rs y found given e. first g rs y found given (bytes_eq f.name g.name) refl e;
    unlisted = λ g found u. unlisted g found u (bytes_eq f.name g.name) refl;
  }
    where
      first : (g : FunctionDecl) (rs : List (List ℕ × Cell)) (y : Cell) → find_function g.name table.functions ≡ Some g → results_of (status table row) g.depends ≡ Given rs → (b : Bool) → bytes_eq f.name g.name ≡ b
          → (if b then Some x else came g.name) ≡ Some y → slice_get (answers (call.Hydrate table.name g.name row.item rs) (suc (row.tries g.name))).items 0 ≡ Some y
      first g rs y found given false b e = hears.first g rs y found given e
      first g rs y found given true b e =
          let same : f ≡ g = same_function table f g ready.found found b in
          let rsame : results ≡ rs = given_same (results_of (status table row) f.depends) results rs ready.given (ap (λ z. results_of (status table row) z.depends) same ∙ given) in
          subst (λ z. slice_get (answers (call.Hydrate table.name z.name row.item rs) (suc (row.tries z.name))).items 0 ≡ Some y) same
          (subst (λ z. slice_get (answers (call.Hydrate table.name f.name row.item z) (suc (row.tries f.name))).items 0 ≡ Some y) rsame (is ∙ e))

      unlisted : (g : FunctionDecl) → find_function g.name table.functions ≡ Some g → row.listed g.name ≡ false → (b : Bool) → bytes_eq f.name g.name ≡ b → (if b then Some x else came g.name) ≡ None
      unlisted g found u false b = hears.unlisted g found u
      unlisted g found u true b =
          let same : f ≡ g = same_function table f g ready.found found b in
          let bad : true ≡ false = sym l ∙ ap (λ z. row.listed z.name) same ∙ u in
          absurd (cc)

  -- the present attempt is listed
  pub hears_listed : Hears table answers (function_listed row f.name) came
  hears_listed = record {
    first = λ g rs y found given e. hears.first g rs y found given e;
    unlisted = λ g found u. unlisted g found (bytes_eq f.name g.name) refl u;
  }
    where
      unlisted : (g : FunctionDecl) → find_function g.name table.functions ≡ Some g → (b : Bool) → bytes_eq f.name g.name ≡ b → (if b then true else row.listed g.name) ≡ false → came g.name ≡ None
      unlisted g found false b u = hears.unlisted g found u
      unlisted g found true b u = absurd (cc)

  -- the function is asked again
  pub hears_again : Hears table answers (function_again row f.name) (put came f.name None)
  hears_again = record {
    first = λ g rs y found given e. first g rs y found given (bytes_eq f.name g.name) e;
    unlisted = λ g found u. unlisted g found (bytes_eq f.name g.name) u;
  }
    where
      first : (g : FunctionDecl) (rs : List (List ℕ × Cell)) (y : Cell) → find_function g.name table.functions ≡ Some g → results_of (status table row) g.depends ≡ Given rs → (b : Bool)
          → (if b then None else came g.name) ≡ Some y → slice_get (answers (call.Hydrate table.name g.name row.item rs) (suc (if b then suc (row.tries f.name) else row.tries g.name))).items 0 ≡ Some y
      first g rs y found given false e = hears.first g rs y found given e
      first g rs y found given true e = absurd (cc)

      unlisted : (g : FunctionDecl) → find_function g.name table.functions ≡ Some g → (b : Bool) → (if b then false else row.listed g.name) ≡ false → (if b then None else came g.name) ≡ None
      unlisted g found false u = hears.unlisted g found u
      unlisted g found true u = refl

  -- its outcome is known
  pub hears_settled : (results : List (List ℕ × Cell)) (o : Outcome) → RowAgrees table answers row → IsReady table row f results → Hears table answers (function_settled row f.name o) (put came f.name None)
  hears_settled results o agrees ready = record {
    first = λ g rs y found given e. first g rs y found given (bytes_eq f.name g.name) e;
    unlisted = λ g found u. unlisted g found u (bytes_eq f.name g.name);
  }
    where
      next : FlightRow
      next = function_settled row f.name o

      known_up : (name : List ℕ) (q : Outcome) → row.known name ≡ Some q → (b : Bool) → bytes_eq f.name name ≡ b → (if b then Some o else row.known name) ≡ Some q
      known_up name q is false e = is
      known_up name q is true e =
          let same : f.name ≡ name = (bytes_eq-Decides f.name name).0 e in
          let bad : None ≡ Some q = sym ready.unknown ∙ ap row.known same ∙ is in
          absurd (cc)

      up : IsBelow (status table row) (status table next)
      up = status_up table row next (λ name q is. known_up name q is (bytes_eq f.name name) refl)

      by : (g : FunctionDecl) (rs : List (List ℕ × Cell)) (y : Cell) → find_function g.name table.functions ≡ Some g → results_of (status table next) g.depends ≡ Given rs → came g.name ≡ Some y → (r : Results)
          → results_of (status table row) g.depends ≡ r → slice_get (answers (call.Hydrate table.name g.name row.item rs) (suc (row.tries g.name))).items 0 ≡ Some y
      by g rs y found given e (Given old) is =
          subst (λ z. slice_get (answers (call.Hydrate table.name g.name row.item z) (suc (row.tries g.name))).items 0 ≡ Some y)
          (given_same (results_of (status table next) g.depends) old rs (given_up (status table row) (status table next) up g.depends old is) given) (hears.first g old y found is e)
      by g rs y found given e (Missed c) is = let bad : None ≡ Some y = sym (hears.unlisted g found (agrees.order g found (ap is_given is)).2) ∙ e in absurd (cc)
      by g rs y found given e Pending is = let bad : None ≡ Some y = sym (hears.unlisted g found (agrees.order g found (ap is_given is)).2) ∙ e in absurd (cc)

      first : (g : FunctionDecl) (rs : List (List ℕ × Cell)) (y : Cell) → find_function g.name table.functions ≡ Some g → results_of (status table next) g.depends ≡ Given rs → (b : Bool)
          → (if b then None else came g.name) ≡ Some y → slice_get (answers (call.Hydrate table.name g.name row.item rs) (suc (row.tries g.name))).items 0 ≡ Some y
      first g rs y found given false e = by g rs y found given e (results_of (status table row) g.depends) refl
      first g rs y found given true e = absurd (cc)

      unlisted : (g : FunctionDecl) → find_function g.name table.functions ≡ Some g → row.listed g.name ≡ false → (b : Bool) → (if b then None else came g.name) ≡ None
      unlisted g found u false = hears.unlisted g found u
      unlisted g found u true = refl
