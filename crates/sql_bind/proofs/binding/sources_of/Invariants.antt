-- The sources so far, and those that are left.
use Rattle.std.proofs.Common.{◌≡◌, ◌++◌, drop}
use Rattle.sql_bind.specs.Binding.{sources_from}
use Rattle.sql_bind.proofs.binding.sources_of.Given as goal

abbrev pub invariant-loop-n : goal.invariant-loop-n
invariant-loop-n l = l.sources ++ sources_from l.catalog.settings l.all l.n (drop l.n l.all) ≡ sources_from l.catalog.settings l.all 0 l.all
