-- Looking changes nothing that contracts see.
use Rattle.std.proofs.Common.{◌≡◌}
use Rattle.steampipe_main.proofs.piped.PipedChild.stop.Given as goal

abbrev pub invariant-loop : goal.invariant-loop
invariant-loop g l = l.self ≡ l.fn.self
