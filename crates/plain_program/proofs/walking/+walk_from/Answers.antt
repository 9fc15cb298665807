use Rattle.plain_program.specs.Sources.{source_of}
use Rattle.plain_program.proofs.Walks.{walk_done, walk_again, again_below}
use Rattle.plain_program.proofs.walking.+walk_from.Goals as goal

pub returns-in-Done : goal.returns-in-Done
returns-in-Done g t c =
    walk_done (g.V.Visit.visits c.args.visitor.now) (source_of c.args.source.now) (g.R.Replies.answers c.args.replies.now c.args.call.now) c.args.attempt c.args.state
    c.in_ok-reply.field-0 c.in-Some.reply c.as_slice.result.now c.len.result c.in_ok-walked.walked c.in_ok-walk.field-0 c.in_ok-reply.ensures c.in-Some.is c.as_slice.ensures c.len.ensures
    c.in_ok-walked.ensures c.in_ok-walk.ensures.value c.in-Done.walk c.in-Done.is

pub returns : goal.returns
returns g t c =
    walk_again (g.V.Visit.visits c.args.visitor.now) (source_of c.args.source.now) (g.R.Replies.answers c.args.replies.now c.args.call.now) c.args.attempt c.args.state
    c.in_ok-reply.field-0 c.in-Some.reply c.as_slice.result.now c.len.result c.in_ok-walked.walked c.in_ok-walk.field-0 c.in_ok-reply.ensures c.in-Some.is c.as_slice.ensures c.len.ensures
    c.in_ok-walked.ensures c.in_ok-walk.ensures.value c.in_ok-later-in-Again.later c.unsteady.result c.in_ok-entry.entry c.in-Again.is
    (again_below c.in_ok-walk.field-0 c.args.attempt _ c.in-Again.is c.in_ok-walk.ensures.below) c.unsteady.ensures c.in_ok-entry.ensures c.in_ok-later-in-Again.ensures
