use Rattle.std.proofs.Common.{arith}
use Rattle.sql_lex.proofs.QuotedText.{after_quote}
use Rattle.sql_lex.proofs.lexer.text.Goals as goal

pub quoted-requires-clause-text : goal.quoted-requires-clause-text
quoted-requires-clause-text c = after_quote c.args.z.now 39 c.requires.room c.requires.text c.requires.begins (omega arith)
