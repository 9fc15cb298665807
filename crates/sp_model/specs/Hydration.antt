-- What the functions of a row give, one call after another.
use Rattle.std.specs.Prelude.{ℕ, zero, suc, Bool, true, false, List, [], ◌∷◌, length, map, Option, Some, None, if◌then◌else◌, bytes_eq}
pub use Rattle.sp_value.specs.Names.{put_under}
use Rattle.sp_value.specs.declared.cell.Cell.{Cell}
use Rattle.sp_value.specs.declared.cell.Cell as c
use Rattle.sp_model.specs.Settling.{Answers, rule_of, settled}
use Rattle.sp_model.specs.declared.call.Call.TheVariants.{Hydrate}
use Rattle.sp_model.specs.declared.declaration.FunctionDecl.{FunctionDecl}
use Rattle.sp_model.specs.declared.declaration.TableDecl.{TableDecl}
use Rattle.sp_model.specs.declared.outcome.Outcome.{Outcome}
use Rattle.sp_model.specs.declared.outcome.Outcome.TheVariants.{Gave, Fails}
use Rattle.sp_model.specs.declared.outcome.Results.{Results}
use Rattle.sp_model.specs.declared.outcome.Results.TheVariants.{Given, Missed, Pending}
use Rattle.sp_model.specs.declared.outcome.Settled.{Settled}
use Rattle.sp_model.specs.declared.outcome.Settled.TheVariants.{Items, Refused}
use Rattle.sp_model.specs.declared.scan.Cause.TheVariants.{Error, TooMany}

-- something was given, be it null
abbrev pub gave : Option Outcome → Bool
gave None = false
gave (Some (Gave x)) = true
gave (Some (Fails cause)) = false

-- a result beside those of the functions after it: the first failure stays, and what isn't known yet hides what comes after it
abbrev pub with_result : List ℕ → Option Outcome → Results → Results
with_result name None rest = Pending
with_result name (Some (Fails cause)) rest = Missed cause
with_result name (Some (Gave x)) (Given results) = Given (put_under name x results)
with_result name (Some (Gave x)) (Missed cause) = Missed cause
with_result name (Some (Gave x)) Pending = Pending

-- what these functions give, in this order
abbrev pub results_of : (List ℕ → Option Outcome) → List (List ℕ) → Results
results_of gives [] = Given []
results_of gives (name ∷ names) = with_result name (gives name) (results_of gives names)

-- a function is called with the results of its dependencies, and fails as the first of them that fails
abbrev pub with_results : Results → (List (List ℕ × Cell) → Option Outcome) → Option Outcome
with_results (Given results) call = call results
with_results (Missed cause) call = Some (Fails cause)
with_results Pending call = None

abbrev pub find_function : List ℕ → List FunctionDecl → Option FunctionDecl
find_function name [] = None
find_function name (f ∷ fs) = if bytes_eq f.name name then Some f else find_function name fs

abbrev pub depends_of : Option FunctionDecl → List (List ℕ)
depends_of None = []
depends_of (Some f) = f.depends

abbrev pub names_of_functions : List FunctionDecl → List (List ℕ)
names_of_functions functions = map (λ f. f.name) functions

abbrev pub called : (FunctionDecl → List (List ℕ × Cell) → Option Outcome) → (List ℕ → Option Outcome) → Option FunctionDecl → Option Outcome
called call gives None = None
called call gives (Some f) = with_results (results_of gives f.depends) (call f)

-- what a function gives where at most n functions depend on one another in a row
abbrev pub hydrated_in : ℕ → List FunctionDecl → (FunctionDecl → List (List ℕ × Cell) → Option Outcome) → List ℕ → Option Outcome
hydrated_in zero functions call name = None
hydrated_in (suc n) functions call name = called call (λ dependency. hydrated_in n functions call dependency) (find_function name functions)

-- what a function gives, where `call` says what a call with results gives
abbrev pub hydrated_by : List FunctionDecl → (FunctionDecl → List (List ℕ × Cell) → Option Outcome) → List ℕ → Option Outcome
hydrated_by functions call name = hydrated_in (length functions) functions call name

-- one item is the result, no item is null, and more are too many
abbrev pub outcome_of : List ℕ → Option Settled → Option Outcome
outcome_of name None = None
outcome_of name (Some (Items [])) = Some (Gave c.Null)
outcome_of name (Some (Items (x ∷ []))) = Some (Gave x)
outcome_of name (Some (Items (x ∷ y ∷ more))) = Some (Fails (TooMany name (length (x ∷ y ∷ more))))
outcome_of name (Some (Refused attempt text)) = Some (Fails (Error name attempt text))

-- what the call of a function for an item gives
abbrev pub hydrate_call : TableDecl → Answers → Cell → FunctionDecl → List (List ℕ × Cell) → Option Outcome
hydrate_call table answers item f results =
    outcome_of f.name (settled (rule_of table f.ignore f.retry) (answers (Hydrate table.name f.name item results)))

-- what a function gives for an item
abbrev pub hydrated : TableDecl → Answers → Cell → List ℕ → Option Outcome
hydrated table answers item name = hydrated_by table.functions (hydrate_call table answers item) name
