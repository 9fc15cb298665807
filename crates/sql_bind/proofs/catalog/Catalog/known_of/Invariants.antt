-- Those so far.
use Rattle.std.proofs.Common.{◌≡◌, take, filter}
use Rattle.sql_bind.specs.Known.{is_connection}
use Rattle.sql_bind.proofs.catalog.Catalog.known_of.Given as goal

abbrev pub invariant-loop-name : goal.invariant-loop-name
invariant-loop-name l = l.known ≡ filter (is_connection l.self.settings) (take l.name-index l.names)
