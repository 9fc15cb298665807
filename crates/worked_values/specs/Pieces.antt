-- One call with its attempts and delays, one function with those that it needs, and one row.
use Rattle.std.specs.Prelude.{◌≡◌, ℕ, nat_lt, true, false, List, [], ◌∷◌, codes, Option, Some, None, if◌then◌else◌, bytes_eq}
use Rattle.sp_value.specs.declared.cell.Cell.{Cell}
use Rattle.sp_value.specs.declared.cell.Cell as c
use Rattle.sp_value.specs.declared.kind.Kind.TheVariants as kind
use Rattle.sp_model.specs.Delays.{delay_by}
use Rattle.sp_model.specs.Hydration.{hydrated_by}
use Rattle.sp_model.specs.Rests.{rests, column_rests}
use Rattle.sp_model.specs.RowOf.{row_of}
use Rattle.sp_model.specs.Settling.{Seen, rule_of, settled}
use Rattle.sp_model.specs.Walk.{Source, walk, start}
use Rattle.sp_model.specs.declared.call.Ending.TheVariants.{End, Error}
use Rattle.sp_model.specs.declared.declaration.Backoff.{Backoff}
use Rattle.sp_model.specs.declared.declaration.Backoff.TheVariants.{Constant, Fibonacci, Exponential}
use Rattle.sp_model.specs.declared.declaration.FunctionDecl.{FunctionDecl}
use Rattle.sp_model.specs.declared.declaration.Retry.{Retry}
use Rattle.sp_model.specs.declared.declaration.Rule.{Rule}
use Rattle.sp_model.specs.declared.outcome.Outcome.{Outcome}
use Rattle.sp_model.specs.declared.outcome.Outcome.TheVariants.{Gave, Fails}
use Rattle.sp_model.specs.declared.outcome.Row.TheVariants.{Whole, Broken}
use Rattle.sp_model.specs.declared.outcome.Settled.TheVariants.{Items, Refused}
use Rattle.sp_model.specs.declared.outcome.Walk.{Walk}
use Rattle.sp_model.specs.declared.outcome.Walk.TheVariants.{Going, Failed}
use Rattle.sp_model.specs.declared.outcome.WalkState.{WalkState}
use Rattle.sp_model.specs.declared.scan.Cause.TheVariants.{BadValue}
use Rattle.sp_model.specs.declared.scan.Cause.TheVariants as cause
use Rattle.worked_values.specs.Samples.{number, three_times, column, function_of, functions, bucket}

-- ---- a call

-- NotFound is ignored, and Throttled is asked again, three times in all
abbrev pub rule : Rule
rule = record { ignore = Some (codes "NotFound*" ∷ []); retry = three_times }

abbrev pub one : Cell
one = number 1

abbrev pub ends_with : List ℕ → Seen
ends_with text = record { items = one ∷ []; ending = Some (Error text) }

-- throttled below an attempt, and then whole
abbrev pub throttled_below : ℕ → ℕ → Seen
throttled_below first attempt = if nat_lt attempt first then ends_with (codes "Throttled") else record { items = one ∷ one ∷ []; ending = Some End }

abbrev pub IgnoredIsTaken : Type 0
IgnoredIsTaken = settled rule (λ attempt. ends_with (codes "NotFound: b")) ≡ Some (Items (one ∷ []))

abbrev pub ThirdIsTaken : Type 0
ThirdIsTaken = settled rule (throttled_below 3) ≡ Some (Items (one ∷ one ∷ []))

abbrev pub FourthIsTooLate : Type 0
FourthIsTooLate = settled rule (throttled_below 4) ≡ Some (Refused 3 (codes "Throttled"))

abbrev pub WithoutEndingItWaits : Type 0
WithoutEndingItWaits = settled rule (λ attempt. record { items = one ∷ []; ending = None }) ≡ None

-- each rule by itself: an empty one of the call hides that of its table, and one that it doesn't have comes from there
abbrev pub OwnRuleCounts : Type 0
OwnRuleCounts =
    (rule_of (record bucket { ignore = Some (codes "a" ∷ []); retry = three_times }) (Some []) None ≡ record { ignore = Some []; retry = three_times })
    × (rule_of (record bucket { plugin = rule }) None None ≡ rule)

-- ---- delays

abbrev pub by : Backoff → ℕ → Option Retry
by backoff cap = Some (record { patterns = []; attempts = 20; backoff = backoff; interval = 10; cap = cap })

abbrev pub DelaysGrow : Type 0
DelaysGrow =
    ((delay_by (by Constant 1000) 1 ≡ 10) × (delay_by (by Constant 1000) 5 ≡ 10))
    × (((delay_by (by Fibonacci 1000) 1 ≡ 10) × ((delay_by (by Fibonacci 1000) 2 ≡ 10) × (delay_by (by Fibonacci 1000) 6 ≡ 80)))
    × ((delay_by (by Exponential 1000) 1 ≡ 10) × ((delay_by (by Exponential 1000) 2 ≡ 20) × (delay_by (by Exponential 1000) 5 ≡ 160))))

abbrev pub DelayIsAtMostTheCap : Type 0
DelayIsAtMostTheCap = (delay_by (by Exponential 100) 5 ≡ 100) × (delay_by None 1 ≡ 0)

-- ---- a function

abbrev pub denied : Outcome
denied = Fails (cause.Error (codes "getAcl") 1 (codes "Denied"))

-- each function gives how many results it was called with
abbrev pub counting : FunctionDecl → List (List ℕ × Cell) → Option Outcome
counting f [] = Some (Gave c.Null)
counting f (r ∷ rs) = Some (Gave one)

abbrev pub refusing : FunctionDecl → List (List ℕ × Cell) → Option Outcome
refusing f results = if bytes_eq f.name (codes "getAcl") then Some denied else Some (Gave one)

abbrev pub PolicyNeedsAcl : Type 0
PolicyNeedsAcl = hydrated_by functions counting (codes "getPolicy") ≡ Some (Gave one)

abbrev pub PolicyFailsAsAcl : Type 0
PolicyFailsAsAcl = hydrated_by functions refusing (codes "getPolicy") ≡ Some denied

-- a and b need one another
abbrev pub in_a_circle : List FunctionDecl
in_a_circle = function_of (codes "a") (codes "b" ∷ []) None ∷ function_of (codes "b") (codes "a" ∷ []) None ∷ []

abbrev pub FunctionsInACircleNeverEnd : Type 0
FunctionsInACircleNeverEnd =
    ((rests functions (codes "getPolicy") ≡ true) × (rests functions (codes "getOwner") ≡ false))
    × ((rests in_a_circle (codes "a") ≡ false)
    × ((column_rests in_a_circle (column (codes "x") kind.Text None) ≡ true) × (column_rests in_a_circle (column (codes "x") kind.Text (Some (codes "a"))) ≡ false)))

-- ---- a row

abbrev pub with_id : Cell
with_id = c.Object ((codes "id", one) ∷ [])

abbrev pub MissingFieldIsNull : Type 0
MissingFieldIsNull = row_of (λ f. None) (column (codes "name") kind.Text None ∷ []) with_id ≡ Some (Whole (c.Null ∷ []))

abbrev pub OtherKindIsBad : Type 0
OtherKindIsBad = row_of (λ f. None) (column (codes "name") kind.Text None ∷ column (codes "id") kind.Text None ∷ []) with_id ≡ Some (Broken (codes "id") (BadValue one))

-- ---- a walk

-- a visit that keeps each item as a row of its own
abbrev pub keep_each : Cell → WalkState → Walk
keep_each x s = Going (record { rows = (x ∷ []) ∷ s.rows; items = s.items; steady = s.steady })

abbrev pub source : Source
source = record { function = codes "list"; rule = rule; single = false }

abbrev pub FailedAttemptIsDropped : Type 0
FailedAttemptIsDropped = walk keep_each source (throttled_below 2) start ≡ Going (record { rows = (one ∷ []) ∷ (one ∷ []) ∷ []; items = 0; steady = false })

abbrev pub GetGivesOne : Type 0
GetGivesOne = walk keep_each (record source { single = true }) (throttled_below 0) start ≡ Failed 1 None (cause.TooMany (codes "list") 2)
