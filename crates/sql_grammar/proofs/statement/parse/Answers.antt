use Rattle.std.proofs.Common.{subst}
use Rattle.sql_grammar.specs.Gives.{Gives}
use Rattle.sql_grammar.proofs.Whole.{only, is_found, is_refused}
use Rattle.sql_grammar.proofs.statement.parse.Goals as goal

pub returns-clause-found : goal.returns-clause-found
returns-clause-found c = is_found c.args.tokens.now c.whole.result c.whole.ensures

pub returns-clause-only : goal.returns-clause-only
returns-clause-only c = λ s a. subst (λ f. Gives (λ x. x) c.whole.result f) (only c.args.tokens.now s a) c.whole.ensures

pub returns-clause-refused : goal.returns-clause-refused
returns-clause-refused c = is_refused c.args.tokens.now c.whole.result c.whole.ensures
