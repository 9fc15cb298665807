use Rattle.std.proofs.Common.{add-one}
use Rattle.sp_value.proofs.Greedy.{literal_more, other_byte}
use Rattle.sp_value.proofs.pattern.piece_len.Goals as goal

pub loop-index-preserved : goal.loop-index-preserved
loop-index-preserved c =
    rw add-one (literal_more c.args.pattern.now c.loop-index.index c.loop-index-test.true (other_byte _ c.if-byte-eq42.false) c.loop-index.invariant)
