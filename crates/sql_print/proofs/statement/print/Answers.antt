use Rattle.std.proofs.Common.{[], None, ap, ◌∙◌}
use Rattle.sql_print.specs.Said.{said_statement}
use Rattle.sql_print.specs.Spelling.{writes}
use Rattle.sql_print.proofs.Writing.{writes_text}
use Rattle.sql_print.proofs.Whole.{text_says_again}
use Rattle.sql_print.proofs.statement.print.Goals as goal

pub returns-clause-again : goal.returns-clause-again
returns-clause-again c =
    let page = c.in_ok-statement.ensures ∙ ap (λ p. writes p (said_statement c.args.statement_of.now)) c.new-page.ensures in
    let text = c.into_text.ensures ∙ ap (λ p. p.0) page ∙ writes_text ([], None) (said_statement c.args.statement_of.now) in
    λ n ts m. text_says_again n ts c.args.statement_of.now c.into_text.result text m
