use Rattle.std.proofs.Common.{◌≡◌, length, arith, ap}
use Rattle.steampipe_main.proofs.Lines.{ReadsMore-trans, feed_later}
use Rattle.steampipe_main.proofs.pending_lines.next_line.Goals as goal

-- no byte that waited is a line feed, so none stands before what was read
pub loop-preserved : goal.loop-preserved
loop-preserved g c =
    let searched : length c.bytes-searched.result.now ≡ length c.loop.pending = ap length c.bytes-searched.ensures in
    record {
      more = ReadsMore-trans _ _ _ _ _ _ c.loop.invariant.more c.read_more.ensures;
      none = omega (arith, searched, feed_later _ _ _ _ c.read_more.ensures c.in_default.ensures);
    }
