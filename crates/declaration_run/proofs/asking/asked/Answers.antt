use Rattle.std.proofs.Common.{ℕ, List, subst}
use Rattle.statement_words.specs.Runs.{IsSpentOf}
use Rattle.declaration_run.proofs.asking.asked.Goals as goal

pub returns-in-Ok-clause-undeclared : goal.returns-in-Ok-clause-undeclared
returns-in-Ok-clause-undeclared g c = c.read_told.ensures.undeclared (g.D.Desk.state c.ask_declaration.new.desk)

pub returns-in-Err-clause-undeclared : goal.returns-in-Err-clause-undeclared
returns-in-Err-clause-undeclared g c =
    let s = g.D.Desk.state c.ask_declaration.new.desk in
    c.unasked.ensures g.W.World.tells g.W.World.book s c.args.connection.now
    (subst (λ (name : List ℕ). IsSpentOf s name c.in-Err.stop) c.plain_named-plain.ensures.named c.in-Err.ensures.err)
