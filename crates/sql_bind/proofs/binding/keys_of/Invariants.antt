-- The keys so far.
use Rattle.std.proofs.Common.{◌≡◌, take, map}
use Rattle.sql_bind.specs.Binding.{key_of}
use Rattle.sql_bind.proofs.binding.keys_of.Given as goal

abbrev pub invariant-loop-key : goal.invariant-loop-key
invariant-loop-key l = l.found ≡ map (key_of l.all) (take l.key-index l.keys)
