use Rattle.std.proofs.Common.{◌≡◌, ℕ, ◌+◌, ◌≤◌, drop, slice_get}
use Rattle.plain_desk.specs.Slots.{plain_names}
use Rattle.plain_desk.proofs.plain_desk.plain_place.Given as goal

abbrev pub invariant-loop-connection : goal.invariant-loop-connection
invariant-loop-connection l = record {
  rest : (n : ℕ) → slice_get (plain_names l.connections) (l.place + n) ≡ slice_get (plain_names (drop l.connection-index l.connections)) n;
  within : l.place ≤ l.connection-index;
}
