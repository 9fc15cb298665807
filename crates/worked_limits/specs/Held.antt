-- Grants that are held, each at the place of its number.
use Rattle.std.specs.Prelude.{◌≡◌, ℕ, ◌≤◌, ◌^◌, List, length, slice_get, Option, Some}
use Rattle.rate_gate.specs.Journal.{IsOpen, count_grants, last_tick}
use Rattle.rate_gate.specs.declared.entry.Entry.{Entry}
use Rattle.rate_gate.specs.declared.permit.Used.{Used}

-- each one that is held is open
abbrev pub AreOpen : List Entry → List (Option Used) → Type 0
AreOpen journal held = (place : ℕ) (u : Used) → slice_get held place ≡ Some (Some u) → (u.number ≡ place) × IsOpen journal u.number u.tags

-- there is a place for each grant so far
pub record AreHeld (journal : List Entry) (held : List (Option Used)) : Type 0 where
  pub count : length held ≡ count_grants journal
  pub open_ : AreOpen journal held
  pub range : last_tick journal ≤ 2 ^ 62
