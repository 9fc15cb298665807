-- What a page has of its text.
use Rattle.std.specs.Prelude.{ℕ, List, Option, string_bytes}
use Rattle.sql_lex.specs.declared.token.Kind.{Kind}
use Rattle.sql_print.specs.declared.page.Page.{Page}

-- the text, and the kind of its last token
abbrev pub state : Page → List ℕ × Option Kind
state page = (string_bytes page.text, page.last)
