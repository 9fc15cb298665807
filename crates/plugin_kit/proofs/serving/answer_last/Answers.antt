use Rattle.plugin_kit.proofs.Steps.{is_some, last_answered}
use Rattle.plugin_kit.proofs.serving.answer_last.Goals as goal

pub returns-in-Ok-clause-answered : goal.returns-in-Ok-clause-answered
returns-in-Ok-clause-answered g c =
    last_answered (g.R.Routes.book c.args.routes.now) (g.O.Sink.held c.args.sink.now) (g.O.Sink.held c.answer_line.new.sink) c.args.line.now
    (is_some c.is_empty.result c.args.line.now c.is_empty.ensures c.if-is_empty.false) c.requires c.in-Ok.ensures.whole
