-- The first of the keys that are left is the first.
use Rattle.std.proofs.Common.{◌≡◌, drop, map}
use Rattle.sql_bind.specs.First.{first_of}
use Rattle.sql_bind.specs.Parts.{Sorts}
use Rattle.sql_bind.specs.Refusals.{broken}
use Rattle.sql_bind.proofs.walking.keys_place.Given as goal

abbrev pub invariant-loop-key : goal.invariant-loop-key
invariant-loop-key l = first_of (broken l.rule) (map (Sorts l.all) (drop l.key-index l.keys)) ≡ first_of (broken l.rule) (map (Sorts l.all) l.keys)
