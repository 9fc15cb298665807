use Rattle.std.proofs.Common.{sym, ap, ◌∙◌}
use Rattle.sp_model.specs.Walk.{ended}
use Rattle.plain_program.specs.Sources.{source_of}
use Rattle.plain_program.proofs.Settles.{judged_refused}
use Rattle.plain_program.proofs.walking.end.Goals as goal

pub returns-clause-value : goal.returns-clause-value
returns-clause-value c = λ again.
    let refused = judged_refused c.args.source.now.rule c.args.attempt c.args.ending c.in-Error.text c.in-Error.is (sym c.is_ignored.ensures ∙ c.if-is_ignored.false)
    (sym c.is_retried.ensures.value ∙ c.if-is_retried.false) in
    c.in_ok-refused.ensures again c.args.count ∙ ap (λ v. ended (source_of c.args.source.now) c.args.attempt v c.args.count c.args.state again) (sym refused)
