-- Nothing for each connection so far.
use Rattle.std.proofs.Common.{◌≡◌, map, take}
use Rattle.std.specs.Prelude.{None}
use Rattle.sql_bind.proofs.catalog.none_for.Given as goal

abbrev pub invariant-loop : goal.invariant-loop
invariant-loop l = l.declared ≡ map (λ _. None) (take l.index l.connections)
