-- The items so far.
use Rattle.std.proofs.Common.{◌≡◌, take, map}
use Rattle.sql_bind.specs.Binding.{item_of}
use Rattle.sql_bind.proofs.binding.items_of.Given as goal

abbrev pub invariant-loop-item : goal.invariant-loop-item
invariant-loop-item l = l.found ≡ map (item_of l.all) (take l.item-index l.items)
