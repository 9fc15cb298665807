-- One row's functions, and what is settled of them so far.
use Rattle.std.specs.Prelude.{ℕ, zero, suc, Bool, ◌&&◌, List, [], ◌∷◌, length, get_or, map, filter, Option, Some, None, is_none, is_some}
use Rattle.std.specs.List.{list_all}
use Rattle.sp_value.specs.declared.cell.Cell.{Cell}
use Rattle.sp_model.specs.Hydration.{gave, results_of, hydrated_by}
use Rattle.sp_model.specs.RowOf.{row_of}
use Rattle.sp_model.specs.Settling.{rule_of}
use Rattle.sp_model.specs.declared.declaration.ColumnDecl.{ColumnDecl}
use Rattle.sp_model.specs.declared.declaration.FunctionDecl.{FunctionDecl}
use Rattle.sp_model.specs.declared.declaration.Rule.{Rule}
use Rattle.sp_model.specs.declared.declaration.TableDecl.{TableDecl}
use Rattle.sp_model.specs.declared.outcome.Outcome.{Outcome}
use Rattle.sp_model.specs.declared.outcome.Results.{Results}
use Rattle.sp_model.specs.declared.outcome.Row.{Row}
use Rattle.hydrate_graph.specs.Following.{by_known}
use Rattle.hydrate_graph.specs.Numbers.{number_of, depends_at}

-- what all rows of a scan share: the functions of its table, the rules of each function's calls, the columns that are asked for, and for each function the slot of its outcome in a row, of
-- which there are so many as `room`; a function that no column needs has none
pub record Plan : Type 0 where
  pub functions : List FunctionDecl
  pub rules : List Rule
  pub columns : List ColumnDecl
  pub slots : List (Option ℕ)
  pub room : ℕ

-- the rules of the calls of these functions of a table
abbrev pub rules_in : TableDecl → List FunctionDecl → List Rule
rules_in table functions = map (λ f. rule_of table f.ignore f.retry) functions

-- a column needs the function of this number
abbrev pub wants : Plan → ℕ → Bool
wants p number = is_some (get_or p.slots number None)

-- one row: its item, and what is settled of each function, by number
pub record Graph : Type 0 where
  pub plan : Plan
  pub item : Cell
  pub settled : List (Option Outcome)

-- the outcome in a slot
abbrev pub settled_at : List (Option Outcome) → Option ℕ → Option Outcome
settled_at outcomes None = None
settled_at outcomes (Some slot) = get_or outcomes slot None

-- the outcomes in these slots, by the functions' numbers
abbrev pub settled_by : List (Option ℕ) → List (Option Outcome) → List (Option Outcome)
settled_by slots outcomes = map (settled_at outcomes) slots

-- what is settled of a function
abbrev pub known_in : List FunctionDecl → List (Option Outcome) → List ℕ → Option Outcome
known_in functions settled name = get_or settled (number_of functions name) None

abbrev pub known : Graph → List ℕ → Option Outcome
known g name = known_in g.plan.functions g.settled name

-- wanted, not settled, and each of its dependencies gave a result
abbrev pub may_call : Plan → List (Option Outcome) → ℕ → Bool
may_call p settled number = wants p number && is_none (get_or settled number None) && list_all (λ d. gave (known_in p.functions settled d)) (depends_at p.functions number)

abbrev pub is_ready : Graph → ℕ → Bool
is_ready g number = may_call g.plan g.settled number

-- n numbers, from this one on
abbrev pub counted : ℕ → ℕ → List ℕ
counted from zero = []
counted from (suc n) = from ∷ counted (suc from) n

-- the functions that may be called now, in declared order
abbrev pub ready_of : Graph → List ℕ
ready_of g = filter (is_ready g) (counted 0 (length g.plan.functions))

-- the results of the dependencies of a function
abbrev pub results_at : Graph → ℕ → Results
results_at g number = results_of (known g) (depends_at g.plan.functions number)

-- the row as hydration gives it, where only what is settled is known
abbrev pub row_so_far : Graph → Option Row
row_so_far g = row_of (hydrated_by g.plan.functions (by_known (known g))) g.plan.columns g.item
