-- What a slot keeps.
use Rattle.std.specs.Prelude.{◌≡◌, ℕ, ◌≤◌, ◌^◌, Bool, true, false, List, [], ◌∷◌, ◌++◌, Option, Some, None, vec_len, map, filter, not}
use Rattle.std.specs.List.{AllByRecursion}
use Rattle.sp_model.specs.declared.settings.Connection.{Connection}
use Rattle.rate_gate.specs.Journal.{last_tick}
use Rattle.rate_gate.specs.declared.entry.Entry.{Entry}
use Rattle.rate_gate.specs.declared.entry.Entry.TheVariants.{Return}
use Rattle.rate_gate.specs.declared.permit.Used.{Used}
use Rattle.child_link.specs.declared.flight.Flight.{Flight}
use Rattle.plain_desk.specs.Grants.{AreHeld}
use Rattle.plain_desk.specs.declared.slot_parts.SlotParts.{SlotParts}
use Rattle.plain_desk.specs.declared.stage.Stage.{Stage}
use Rattle.plain_desk.specs.declared.stage.Stage.TheVariants as stage

-- ---- the open calls

-- the call is due at a tick
abbrev pub IsDue : ℕ → Flight → Type 0
IsDue tick f = f.job.due ≤ tick

-- each open call has a grant that is open, and was sent no earlier than it was due; the tick is none before the journal's last
pub record Keeps (flights : List Flight) (journal : List Entry) (tick : ℕ) : Type 0 where
  pub held : AreHeld journal flights
  pub due : AllByRecursion (IsDue tick) flights
  pub clock : last_tick journal ≤ tick
  pub small : tick ≤ 2 ^ 62

-- a grant that is returned, where there is one
abbrev pub returned : List Entry → Option Used → ℕ → List Entry
returned journal None tick = journal
returned journal (Some used) tick = journal ++ Return used.number tick true ∷ []

-- ---- how far the child is

abbrev pub is_running : Stage → Bool
is_running stage.Running = true
is_running stage.Unstarted = false
is_running stage.Gone = false

abbrev pub is_gone : Stage → Bool
is_gone stage.Gone = true
is_gone stage.Unstarted = false
is_gone stage.Running = false

-- calls are open at a running child alone, and there is room for those that wait
pub record Stands (stage : Stage) (up : Bool) (flights : List Flight) (waiting prepared : ℕ) : Type 0 where
  pub running : is_running stage ≡ true → up ≡ true
  pub idle : is_running stage ≡ false → flights ≡ []
  pub room : waiting ≤ prepared

-- ---- all of it

-- a slot keeps its calls, it stands so, and where it is gone its child was lost
pub record IsSlot {X Kid : Type 0} (lost : Kid → Type 0) (s : SlotParts X Kid) : Type 0 where
  pub keeps : Keeps s.link.flights.items s.gate.journal s.tick
  pub stands : Stands s.stage s.link.up s.link.flights.items (vec_len s.waiting) s.link.prepared
  pub gone : is_gone s.stage ≡ true → lost s.link.child

-- ---- all slots

-- the names of the plain connections, in their order
abbrev pub plain_names : List Connection → List (List ℕ)
plain_names connections = map (λ c. c.name) (filter (λ c. not c.aggregator) connections)

-- their children are those of the plain connections, in their order
abbrev pub AreBeside : {X Kid : Type 0} → (Kid → List ℕ) → List (SlotParts X Kid) → List Connection → Type 0
AreBeside own slots connections = map (λ s. own s.link.child) slots ≡ plain_names connections
