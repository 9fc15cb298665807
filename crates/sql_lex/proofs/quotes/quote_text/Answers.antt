use Rattle.std.proofs.Common.{sym, subst}
use Rattle.std.specs.Str.{IsUtf8}
use Rattle.sql_lex.proofs.QuotedText.{quoted_is_text}
use Rattle.sql_lex.proofs.quotes.quote_text.Goals as goal

pub text_of-requires : goal.text_of-requires
text_of-requires c = subst IsUtf8 (sym c.in_ok-found.ensures) (quoted_is_text c.args.quote c.requires c.as_bytes.result.now c.as_bytes.ensures.utf8)
