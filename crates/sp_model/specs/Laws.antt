-- Laws of the definitions, in the words of their subject.
use Rattle.std.specs.Prelude.{◌≡◌, ℕ, ◌≤◌, true, List, length, Option, Some, is_some}
use Rattle.sp_value.specs.declared.cell.Cell.{Cell}
use Rattle.sp_model.specs.Calls.{needs_in}
use Rattle.sp_model.specs.Hydration.{hydrated_by}
use Rattle.sp_model.specs.Settling.{Seen, whole, is_ignored, attempts_of, settled}
use Rattle.sp_model.specs.Walk.{Source, and_then, visit_all, accepted, walk}
use Rattle.sp_model.specs.declared.call.Ending.TheVariants.{Error}
use Rattle.sp_model.specs.declared.call.Reply.{Reply}
use Rattle.sp_model.specs.declared.declaration.FunctionDecl.{FunctionDecl}
use Rattle.sp_model.specs.declared.declaration.Rule.{Rule}
use Rattle.sp_model.specs.declared.outcome.Outcome.{Outcome}
use Rattle.sp_model.specs.declared.outcome.Walk.{Walk}
use Rattle.sp_model.specs.declared.outcome.WalkState.{WalkState}

-- a call is asked at most as often as its rule says: later replies change nothing
abbrev pub CallHasAtMostItsAttempts : Type 0
CallHasAtMostItsAttempts = (rule : Rule) (replies others : ℕ → Seen) → 1 ≤ attempts_of rule.retry
    → ((attempt : ℕ) → attempt ≤ attempts_of rule.retry → replies attempt ≡ others attempt) → settled rule replies ≡ settled rule others

-- a call whose replies are whole is settled
abbrev pub WholeCallIsSettled : Type 0
WholeCallIsSettled = (rule : Rule) (replies : ℕ → Reply) → is_some (settled rule (λ attempt. whole (replies attempt))) ≡ true

-- a walk whose call ends with an ignored error goes on with the items so far
abbrev pub IgnoredErrorKeepsItems : Type 0
IgnoredErrorKeepsItems = (visit : Cell → WalkState → Walk) (source : Source) (replies : ℕ → Seen) (s : WalkState) (text : List ℕ)
    → (replies 1).ending ≡ Some (Error text) → is_ignored source.rule.ignore text ≡ true
    → walk visit source replies s ≡ and_then (visit_all visit (replies 1).items s) (λ t. accepted source (length (replies 1).items) t)

-- what a function gives depends on its own call and on those of the functions that it needs, and on no other
abbrev pub HydrationNeedsItsDependencies : Type 0
HydrationNeedsItsDependencies = (functions : List FunctionDecl) (call other : FunctionDecl → List (List ℕ × Cell) → Option Outcome) (name : List ℕ)
    → ((f : FunctionDecl) → needs_in (length functions) functions f.name name ≡ true → (results : List (List ℕ × Cell)) → call f results ≡ other f results)
    → hydrated_by functions call name ≡ hydrated_by functions other name
