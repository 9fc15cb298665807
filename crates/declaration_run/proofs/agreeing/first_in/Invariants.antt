-- The first of those that are left is the first.
use Rattle.std.proofs.Common.{◌≡◌, drop}
use Rattle.declaration_run.specs.Declaring.{first_in}
use Rattle.declaration_run.proofs.agreeing.first_in.Given as goal

abbrev pub invariant-loop-connection : goal.invariant-loop-connection
invariant-loop-connection l = first_in (drop l.connection-index l.connections) l.group ≡ first_in l.connections l.group
