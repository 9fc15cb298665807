-- The first of the items that are left is the first.
use Rattle.std.proofs.Common.{◌≡◌, drop, map}
use Rattle.sql_bind.specs.First.{first_of}
use Rattle.sql_bind.specs.Parts.{Shows}
use Rattle.sql_bind.specs.Refusals.{broken}
use Rattle.sql_bind.proofs.walking.items_place.Given as goal

abbrev pub invariant-loop-item : goal.invariant-loop-item
invariant-loop-item l = first_of (broken l.rule) (map (λ i. Shows l.all i.of) (drop l.item-index l.items)) ≡ first_of (broken l.rule) (map (λ i. Shows l.all i.of) l.items)
