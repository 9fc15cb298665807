-- The first of those that are left is the first.
use Rattle.std.proofs.Common.{◌≡◌, ◌+◌, drop}
use Rattle.settings_text.specs.Reading.{first_where}
use Rattle.settings_text.proofs.refusals.first_connection.Given as goal

abbrev pub invariant-loop-connection : goal.invariant-loop-connection
invariant-loop-connection g l =
    (l.number ≡ l.connection-index)
    × (first_where (g.R.Rule.refuses l.rule) (l.connection-index + 1) (drop l.connection-index l.connections) ≡ first_where (g.R.Rule.refuses l.rule) 1 l.connections)
