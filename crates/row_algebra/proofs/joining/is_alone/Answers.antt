use Rattle.std.proofs.Common.{rules}
use Rattle.row_algebra.proofs.AloneLaws.{alone_joined}
use Rattle.row_algebra.proofs.joining.is_alone.Goals as goal

pub returns : goal.returns
returns c = λ one.
    alone_joined c.args.left.now c.args.picks.now c.args.right.now (c.has_one.ensures one) (c.is_empty_row.ensures (search rules)) (c.picks_first.ensures (search rules))
