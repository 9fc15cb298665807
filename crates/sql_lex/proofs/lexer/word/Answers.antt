use Rattle.std.proofs.Common.{sym, subst}
use Rattle.std.specs.Str.{IsUtf8}
use Rattle.sql_lex.proofs.Lexing.{word_is_text}
use Rattle.sql_lex.proofs.lexer.word.Goals as goal

pub text_of-requires : goal.text_of-requires
text_of-requires c = subst IsUtf8 (sym c.in_ok-found.ensures) (word_is_text c.args.z.now c.word_len-len.result c.word_len-len.ensures.value)
