use Rattle.std.proofs.Common.{◌≡◌, drop, slice_get}
use Rattle.statement_words.specs.Runs.{plain_names}
use Rattle.desk_asking.proofs.places.is_at.Given as goal

abbrev pub invariant-loop-connection : goal.invariant-loop-connection
invariant-loop-connection l = slice_get (plain_names l.connections) l.fn.number ≡ slice_get (plain_names (drop l.connection-index l.connections)) l.left
