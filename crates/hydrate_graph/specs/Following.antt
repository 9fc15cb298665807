-- What is settled of a row's functions so far.
use Rattle.std.specs.Prelude.{◌≡◌, ℕ, true, List, Option, Some}
use Rattle.std.specs.List.{list_all}
use Rattle.sp_value.specs.declared.cell.Cell.{Cell}
use Rattle.sp_model.specs.Hydration.{gave}
use Rattle.sp_model.specs.Hydration.{results_of, find_function}
use Rattle.sp_model.specs.declared.declaration.FunctionDecl.{FunctionDecl}
use Rattle.sp_model.specs.declared.outcome.Outcome.{Outcome}
use Rattle.sp_model.specs.declared.outcome.Results.TheVariants.{Given}

-- what a call gives, where only `known` is known
abbrev pub by_known : (List ℕ → Option Outcome) → FunctionDecl → List (List ℕ × Cell) → Option Outcome
by_known known f results = known f.name

-- each function that is settled gave what its call gives with the results of its dependencies
pub record Follows (functions : List FunctionDecl) (known : List ℕ → Option Outcome) (call : FunctionDecl → List (List ℕ × Cell) → Option Outcome) : Type 0 where
  pub answered : (name : List ℕ) (f : FunctionDecl) (o : Outcome) (results : List (List ℕ × Cell)) → find_function name functions ≡ Some f → known name ≡ Some o → results_of known f.depends ≡ Given results
      → call f results ≡ Some o

-- each call that is known, with the results of the dependencies that are settled, is settled
pub record Completes (functions : List FunctionDecl) (known : List ℕ → Option Outcome) (call : FunctionDecl → List (List ℕ × Cell) → Option Outcome) : Type 0 where
  pub taken : (name : List ℕ) (f : FunctionDecl) (o : Outcome) (results : List (List ℕ × Cell)) → find_function name functions ≡ Some f → results_of known f.depends ≡ Given results → call f results ≡ Some o → known name ≡ Some o

-- a function is settled only after each of its dependencies gave a result
pub record InOrder (functions : List FunctionDecl) (known : List ℕ → Option Outcome) : Type 0 where
  pub after : (name : List ℕ) (f : FunctionDecl) (o : Outcome) → find_function name functions ≡ Some f → known name ≡ Some o → list_all (λ d. gave (known d)) f.depends ≡ true
