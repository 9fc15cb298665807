-- Rows in flight.
use Rattle.std.specs.Prelude.{◌≡◌, ℕ, zero, suc, ◌+◌, ◌-◌, Bool, true, false, List, [], ◌∷◌, ◌++◌, map, filter, Option, Some, None}
use Rattle.sp_value.specs.declared.cell.Cell.{Cell}
use Rattle.sp_model.specs.Calls.{attempts_in, is_wanted}
use Rattle.sp_model.specs.Hydration.{results_of, find_function, names_of_functions, hydrated_by, hydrate_call}
use Rattle.sp_model.specs.Names.{are_distinct}
use Rattle.sp_model.specs.RowOf.{columns_named}
use Rattle.sp_model.specs.Settling.{Seen, Answers, rule_of, attempts_of, settled_from}
use Rattle.sp_model.specs.Units.{flat_map}
use Rattle.sp_model.specs.declared.call.Call.TheVariants as call
use Rattle.sp_model.specs.declared.declaration.FunctionDecl.{FunctionDecl}
use Rattle.sp_model.specs.declared.declaration.TableDecl.{TableDecl}
use Rattle.sp_model.specs.declared.outcome.Outcome.{Outcome}
use Rattle.sp_model.specs.declared.outcome.Results.{Results}
use Rattle.sp_model.specs.declared.outcome.Results.TheVariants.{Given, Missed, Pending}
use Rattle.sp_model.specs.declared.scan.ScanRequest.{ScanRequest}
use Rattle.scan_laws.specs.Counts.{count}
use Rattle.scan_laws.specs.Reaching.{Made}
use Rattle.scan_laws.specs.States.{FlightRow}

-- what the functions of a row give as far as its calls were answered
abbrev pub status : TableDecl → FlightRow → List ℕ → Option Outcome
status table row name = hydrated_by table.functions (λ f. λ results. row.known f.name) name

-- the attempts from 1 to n
abbrev pub up_to : ℕ → List ℕ
up_to zero = []
up_to (suc n) = up_to n ++ (suc n ∷ [])

-- those that were asked again, and the next one where it is listed
abbrev pub listed_attempts : ℕ → Bool → List ℕ
listed_attempts tries true = up_to (suc tries)
listed_attempts tries false = up_to tries

abbrev pub listed_with : TableDecl → FlightRow → FunctionDecl → Results → List Made
listed_with table row f (Given results) =
    map (λ attempt. (call.Hydrate table.name f.name row.item results, attempt)) (listed_attempts (row.tries f.name) (row.listed f.name))
listed_with table row f (Missed cause) = []
listed_with table row f Pending = []

-- the calls of a function that a row has listed
abbrev pub listed_of : TableDecl → FlightRow → FunctionDecl → List Made
listed_of table row f = listed_with table row f (results_of (status table row) f.depends)

-- the calls that a row in flight has listed
abbrev pub row_listed : TableDecl → ScanRequest → FlightRow → List Made
row_listed table request row =
    flat_map (listed_of table row) (filter (λ f. is_wanted table.functions (columns_named request.columns table.columns) f.name) table.functions)

-- the functions of a table have different names
abbrev pub AreApart : TableDecl → Type 0
AreApart table = are_distinct (names_of_functions table.functions) ≡ true

-- each of these functions is the one that is found by its name
abbrev pub EachFound : List FunctionDecl → List FunctionDecl → Type 0
EachFound functions [] = Unit {0}
EachFound functions (f ∷ fs) = (find_function f.name functions ≡ Some f) × EachFound functions fs

-- the attempts of a function's call from this one on
abbrev pub attempts_from : TableDecl → FunctionDecl → (ℕ → Seen) → ℕ → List ℕ
attempts_from table f replies attempt = attempts_in (suc (attempts_of (rule_of table f.ignore f.retry).retry - attempt)) f.ignore table f.retry replies attempt

-- a function's call stands so: as many attempts were asked again, and where its outcome is known, the next one is listed and is its last
pub record IsAsked (table : TableDecl) (f : FunctionDecl) (replies : ℕ → Seen) (known : Option Outcome) (tries : ℕ) (listed : Bool) : Type 0 where
  pub tried : attempts_from table f replies 1 ≡ up_to tries ++ attempts_from table f replies (suc tries)
  pub same : settled_from (rule_of table f.ignore f.retry) replies (suc tries) ≡ settled_from (rule_of table f.ignore f.retry) replies 1
  pub over : (o : Outcome) → known ≡ Some o → (listed ≡ true) × (attempts_from table f replies (suc tries) ≡ suc tries ∷ [])

abbrev pub is_given : Results → Bool
is_given (Given results) = true
is_given (Missed cause) = false
is_given Pending = false

-- a function of which nothing was asked
abbrev pub IsUntouched : FlightRow → List ℕ → Type 0
IsUntouched row name = (row.known name ≡ None) × (row.tries name ≡ 0) × (row.listed name ≡ false)

-- A row in flight agrees with the answers: what is known of a function is what its call comes to, and a function is asked once all its dependencies gave results.
pub record RowAgrees (table : TableDecl) (answers : Answers) (row : FlightRow) : Type 0 where
  pub follows : (f : FunctionDecl) (results : List (List ℕ × Cell)) (o : Outcome) → find_function f.name table.functions ≡ Some f → results_of (status table row) f.depends ≡ Given results → row.known f.name ≡ Some o
      → hydrate_call table answers row.item f results ≡ Some o
  pub asked : (f : FunctionDecl) (results : List (List ℕ × Cell)) → find_function f.name table.functions ≡ Some f → results_of (status table row) f.depends ≡ Given results
      → IsAsked table f (answers (call.Hydrate table.name f.name row.item results)) (row.known f.name) (row.tries f.name) (row.listed f.name)
  pub order : (f : FunctionDecl) → find_function f.name table.functions ≡ Some f → is_given (results_of (status table row) f.depends) ≡ false → IsUntouched row f.name

-- a row goes on agreeing, and lists these calls
pub record RowKeeps (table : TableDecl) (request : ScanRequest) (answers : Answers) (row next : FlightRow) (added : List Made) : Type 0 where
  pub agrees : RowAgrees table answers next
  pub item : next.item ≡ row.item
  pub listed : (p : Made → Bool) → count p (row_listed table request next) ≡ count p (row_listed table request row) + count p added
