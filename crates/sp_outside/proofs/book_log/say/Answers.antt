use Rattle.std.proofs.Common.{ap, ◌∙◌, sym, subst, Ok}
use Rattle.sp_world.specs.ReplyLines.{IsLineForm}
use Rattle.sp_outside.proofs.OpenCalls.{book_form, if_ok}
use Rattle.sp_outside.proofs.book_log.say.Goals as goal

pub returns : goal.returns
returns g c =
    let call = c.args.answering.now.call in
    let form = book_form g.W.World.book c.requires.sayable call.id c.requires.answered.1 call.asked call.taken in
    if_ok _ _ c.reply_line-bytes.result c.reply_line-bytes.ensures.read
    (λ bytes read. read (subst IsLineForm (sym c.in_ok-line.ensures) form) ∙ ap (λ l. Ok l) c.in_ok-line.ensures)
