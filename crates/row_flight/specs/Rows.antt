-- A row in flight with the calls of its functions, by the functions' numbers.
use Rattle.std.specs.Prelude.{◌≡◌, ◌<◌, ℕ, suc, Bool, true, false, ◌&&◌, not, List, length, get_or, replicate, set, Option, Some, None}
use Rattle.sp_value.specs.declared.cell.Cell.{Cell}
use Rattle.sp_model.specs.declared.call.Call.{Call}
use Rattle.sp_model.specs.declared.call.Call.TheVariants as call
use Rattle.sp_model.specs.declared.call.Piece.{Piece}
use Rattle.sp_model.specs.declared.declaration.Rule.{Rule}
use Rattle.sp_model.specs.declared.outcome.Outcome.{Outcome}
use Rattle.sp_model.specs.declared.outcome.Results.{Results}
use Rattle.sp_model.specs.declared.outcome.Results.TheVariants.{Given, Missed, Pending}
use Rattle.hydrate_graph.specs.Graphs.{Plan, Graph, known, is_ready, results_at}
use Rattle.hydrate_graph.specs.Numbers.{number_of, name_at}
use Rattle.hydrate_graph.specs.Plans.{AreApart}
use Rattle.scan_laws.specs.States.{FlightRow}
use Rattle.row_flight.specs.Attempts.{fresh, is_next, heard_outcome, heard_attempt, listed_attempt}
use Rattle.row_flight.specs.declared.attempt.Attempt.{Attempt}
use Rattle.row_flight.specs.declared.row.RowCalls.{RowCalls}

-- the attempt in a slot
abbrev pub attempt_in : List Attempt → Option ℕ → Attempt
attempt_in attempts None = fresh
attempt_in attempts (Some slot) = get_or attempts slot fresh

abbrev pub slot_of : Plan → ℕ → Option ℕ
slot_of p number = get_or p.slots number None

-- the present attempt of a function's call
abbrev pub attempt_of : RowCalls → ℕ → Attempt
attempt_of row number = attempt_in row.attempts (slot_of row.graph.plan number)

abbrev pub with_attempt : List Attempt → Option ℕ → Attempt → List Attempt
with_attempt attempts None a = attempts
with_attempt attempts (Some slot) a = set attempts slot a

-- a row, as the laws of a scan speak of it
abbrev pub flight_row : RowCalls → FlightRow
flight_row row = record {
  item = row.graph.item;
  known = known row.graph;
  tries = λ name. (attempt_of row (number_of row.graph.plan.functions name)).tries;
  listed = λ name. (attempt_of row (number_of row.graph.plan.functions name)).listed;
}

-- the item at place 0 of each function's present attempt, as far as that came
abbrev pub item_of : RowCalls → List ℕ → Option Cell
item_of row name = (attempt_of row (number_of row.graph.plan.functions name)).item

-- the row of an item of which nothing is known
abbrev pub begun : Plan → Cell → RowCalls
begun p item = record { graph = record { plan = p; item = item; settled = replicate (length p.functions) None }; attempts = replicate p.room fresh; all_listed = false }

-- a ready function's call with the results of its dependencies
abbrev pub call_with : List ℕ → List ℕ → Cell → Results → Option Call
call_with table function item (Given results) = Some (call.Hydrate table function item results)
call_with table function item (Missed cause) = None
call_with table function item Pending = None

abbrev pub call_of : List ℕ → RowCalls → ℕ → Option Call
call_of table row number = call_with table (name_at row.graph.plan.functions number) row.graph.item (results_at row.graph number)

-- a ready function whose present attempt is listed: its call is waited for
abbrev pub is_open : RowCalls → ℕ → Bool
is_open row number = is_ready row.graph number && (attempt_of row number).listed

-- a ready function whose present attempt isn't listed yet
abbrev pub is_unlisted : RowCalls → ℕ → Bool
is_unlisted row number = is_ready row.graph number && not (attempt_of row number).listed

-- no call of the row is ready and not listed
abbrev pub AreListed : RowCalls → Type 0
AreListed row = (k : ℕ) → k < length row.graph.plan.functions → is_unlisted row k ≡ false

-- this call is waited for at this attempt, and this piece of it is next
abbrev pub RowAwaits : List ℕ → RowCalls → ℕ → Call → ℕ → Piece → Type 0
RowAwaits table row number asked attempt p =
    (is_open row number ≡ true) × (call_of table row number ≡ Some asked) × (attempt ≡ suc (attempt_of row number).tries) × (is_next (attempt_of row number) p ≡ true)

-- ---- steps of a row

-- the present attempt of a function is listed
abbrev pub row_lists : RowCalls → ℕ → RowCalls
row_lists row number = record { graph = row.graph; attempts = with_attempt row.attempts (slot_of row.graph.plan number) (listed_attempt (attempt_of row number)); all_listed = row.all_listed }

-- an outcome that is there is settled
abbrev pub settled_so : Graph → ℕ → Option Outcome → Graph
settled_so g number None = g
settled_so g number (Some o) = record { plan = g.plan; item = g.item; settled = set g.settled number (Some o) }

abbrev pub no_rule : Rule
no_rule = record { ignore = None; retry = None }

abbrev pub rule_at : Plan → ℕ → Rule
rule_at p number = get_or p.rules number no_rule

-- a piece of a function's call is taken in at this tick
abbrev pub row_hears : RowCalls → ℕ → Piece → ℕ → RowCalls
row_hears row number p tick =
    let a : Attempt = attempt_of row number in
    record {
      graph = settled_so row.graph number (heard_outcome (rule_at row.graph.plan number) (name_at row.graph.plan.functions number) p a);
      attempts = with_attempt row.attempts (slot_of row.graph.plan number) (heard_attempt (rule_at row.graph.plan number) tick p a);
      all_listed = false;
    }

-- for the model of a flight: each function has its rule and its outcome, there is an attempt for each slot, and a row that says so has nothing to list
pub record IsRow (row : RowCalls) : Type 0 where
  pub room : length row.attempts ≡ row.graph.plan.room
  pub rules : length row.graph.plan.rules ≡ length row.graph.plan.functions
  pub settled : length row.graph.settled ≡ length row.graph.plan.functions
  pub listed : row.all_listed ≡ true → AreListed row

-- for private clauses: the function of this number has this slot of its own
pub record IsPlaced (row : RowCalls) (number slot : ℕ) : Type 0 where
  pub apart : AreApart row.graph.plan.slots
  pub at : slot_of row.graph.plan number ≡ Some slot
  pub within : slot < length row.attempts
  pub declared : number < length row.graph.plan.functions
  pub settled : number < length row.graph.settled
