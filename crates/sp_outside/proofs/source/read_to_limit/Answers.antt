use Rattle.std.proofs.Common.{◌++◌, take}
use Rattle.std.proofs.KnownBytes.{Consumes-trans}
use Rattle.sp_outside.proofs.source.read_to_limit.Goals as goal

-- what was read before, and what this turn read
pub returns-in_default-extend_from_slice-clause-part :
    goal.returns-in_default-extend_from_slice-clause-part
returns-in_default-extend_from_slice-clause-part g c =
    let before = c.loop-chunk.bytes.items in
    let now = take c.in-Ok.count c.read.new.into in
    (before ++ now, Consumes-trans _ _ _ before now c.loop-chunk.invariant.consumed c.in-Ok.ensures.bytes.0)
