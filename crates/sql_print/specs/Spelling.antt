-- The one spelling of a list of tokens.
use Rattle.std.specs.Prelude.{ℕ, if◌then◌else◌, List, [], ◌∷◌, ◌++◌, Option, Some, None, codes}
use Rattle.std.specs.Fmt.{signed_decimal}
use Rattle.sql_lex.specs.declared.token.Kind.{Kind}
use Rattle.sql_lex.specs.declared.token.Kind.TheVariants as k
use Rattle.sql_lex.specs.declared.token.Value.{Value}
use Rattle.sql_lex.specs.declared.token.Value.TheVariants as v
use Rattle.sql_lex.specs.Quotes.{quoted}
use Rattle.sql_lex.specs.Lex.{is_plain}
use Rattle.sql_grammar.specs.declared.ast.Statement.{Statement}
use Rattle.sql_print.specs.Said.{Bare, said_statement}

-- reserved words and signs
abbrev pub word_spelling : Kind → List ℕ
word_spelling k.Select = codes "select"
word_spelling k.From = codes "from"
word_spelling k.Where = codes "where"
word_spelling k.Join = codes "join"
word_spelling k.Inner = codes "inner"
word_spelling k.On = codes "on"
word_spelling k.Order = codes "order"
word_spelling k.By = codes "by"
word_spelling k.Asc = codes "asc"
word_spelling k.Desc = codes "desc"
word_spelling k.Limit = codes "limit"
word_spelling k.And = codes "and"
word_spelling k.Or = codes "or"
word_spelling k.Not = codes "not"
word_spelling k.In = codes "in"
word_spelling k.Is = codes "is"
word_spelling k.Null = codes "null"
word_spelling k.True = codes "true"
word_spelling k.False = codes "false"
word_spelling k.As = codes "as"
word_spelling k.Group = codes "group"
word_spelling k.Star = codes "*"
word_spelling k.Comma = codes ","
word_spelling k.Dot = codes "."
word_spelling k.Open = codes "("
word_spelling k.Close = codes ")"
word_spelling k.Semi = codes ";"
word_spelling k.Equal = codes "="
word_spelling k.NotEqual = codes "<>"
word_spelling k.Less = codes "<"
word_spelling k.AtMost = codes "<="
word_spelling k.Greater = codes ">"
word_spelling k.AtLeast = codes ">="
word_spelling k.Name = []
word_spelling k.Number = []
word_spelling k.Text = []
word_spelling k.Bad = []

-- A name is quoted where it is no plain name in lower case, or reserved.
abbrev pub name_spelling : List ℕ → List ℕ
name_spelling text = if is_plain text then text else quoted 34 text

abbrev pub text_spelling : Kind → List ℕ → List ℕ
text_spelling k.Text text = quoted 39 text
text_spelling _ text = name_spelling text

abbrev pub spelling_by : Kind → Value → List ℕ
spelling_by kind v.Fixed = word_spelling kind
spelling_by kind (v.Text text) = text_spelling kind text
spelling_by kind (v.Number n) = signed_decimal n

abbrev pub spelling : Bare → List ℕ
spelling b = spelling_by b.0 b.1

-- nothing stands before these
abbrev pub gap_before : Kind → List ℕ
gap_before k.Comma = []
gap_before k.Close = []
gap_before k.Dot = []
gap_before _ = 32 ∷ []

-- One space stands between two tokens, but none before a comma, a closing parenthesis or a dot, and none after an opening parenthesis or a dot.
abbrev pub gap : Option Kind → Kind → List ℕ
gap None following = []
gap (Some k.Open) following = []
gap (Some k.Dot) following = []
gap (Some last) following = gap_before following

-- tokens behind a token of that kind
abbrev pub written : Option Kind → List Bare → List ℕ
written last [] = []
written last (b ∷ bs) = (gap last b.0 ++ spelling b) ++ written (Some b.0) bs

-- the text of a statement
abbrev pub statement_text : Statement → List ℕ
statement_text s = written None (said_statement s)

-- a text and its last token's kind, and tokens written behind it
abbrev pub writes : List ℕ × Option Kind → List Bare → List ℕ × Option Kind
writes page [] = page
writes page (b ∷ bs) = writes (page.0 ++ (gap page.1 b.0 ++ spelling b), Some b.0) bs
