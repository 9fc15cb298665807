use Rattle.std.proofs.Common.{arith}
use Rattle.sql_lex.proofs.Lexing.{too_large}
use Rattle.sql_lex.proofs.lexer.value.Goals as goal

pub returns-then-next-gt-LIMIT : goal.returns-then-next-gt-LIMIT
returns-then-next-gt-LIMIT c = too_large c.loop-d.value c.loop-d.d-index c.args.digits.now _ (omega arith) (omega arith) c.loop-d.invariant.value
