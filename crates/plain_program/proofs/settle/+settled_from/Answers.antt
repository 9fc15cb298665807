use Rattle.std.proofs.Common.{sym, ◌∙◌}
use Rattle.plain_program.proofs.Settles.{again_later}
use Rattle.plain_program.proofs.settle.+settled_from.Goals as goal

-- what comes later is what comes from this attempt on
pub returns-then-is_retried : goal.returns-then-is_retried
returns-then-is_retried g t c =
    again_later c.args.rule.now (g.R.Replies.answers c.args.replies.now c.args.call.now) c.args.attempt c.in_ok-later.later c.in_ok-reply.field-0 c.in-Some.reply c.in-Error.text
    c.in_ok-later.ensures c.in_ok-reply.ensures c.in-Some.is c.in-Error.is (sym c.is_ignored.ensures ∙ c.if-is_ignored.false) (sym c.is_retried.ensures.value ∙ c.if-is_retried.true)
