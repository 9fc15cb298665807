use Rattle.std.proofs.Common.{ap, ◌∙◌}
use Rattle.sp_world.specs.Fits.{piece_or, line_for}
use Rattle.sp_outside.proofs.book_log.piece_line.Goals as goal

pub returns-in_ok-line-in-None : goal.returns-in_ok-line-in-None
returns-in_ok-line-in-None c =
    c.in_ok-line-in-None.ensures c.args.place ∙ ap (λ s. line_for c.args.id (piece_or c.args.place c.args.reply.now s)) c.in-None.ensures.value
