-- The first of the sources that are left is the first.
use Rattle.std.proofs.Common.{◌≡◌, drop}
use Rattle.sql_bind.specs.First.{first_of}
use Rattle.sql_bind.specs.Parts.{source_parts}
use Rattle.sql_bind.specs.Refusals.{broken}
use Rattle.sql_bind.proofs.walking.sources_place.Given as goal

abbrev pub invariant-loop-n : goal.invariant-loop-n
invariant-loop-n l = first_of (broken l.rule) (source_parts l.all l.n (drop l.n l.all)) ≡ first_of (broken l.rule) (source_parts l.all 0 l.all)
