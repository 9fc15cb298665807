-- The first of those that are left is the first.
use Rattle.std.proofs.Common.{◌≡◌, drop, filter}
use Rattle.std.specs.Prelude.{slice_get}
use Rattle.sql_bind.specs.Known.{is_connection}
use Rattle.sql_bind.proofs.catalog.Catalog.first_known.Given as goal

abbrev pub invariant-loop-name : goal.invariant-loop-name
invariant-loop-name l = slice_get (filter (is_connection l.self.settings) (drop l.name-index l.names)) 0 ≡ slice_get (filter (is_connection l.self.settings) l.names) 0
