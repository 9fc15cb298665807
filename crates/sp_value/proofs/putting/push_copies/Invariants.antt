use Rattle.std.proofs.Common.{◌≡◌, ◌++◌, take}
use Rattle.sp_value.proofs.putting.push_copies.Given as goal

abbrev pub invariant-loop-thing : goal.invariant-loop-thing
invariant-loop-thing g l = l.into ≡ l.fn.into ++ take l.thing-index l.things
