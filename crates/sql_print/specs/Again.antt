-- A text that says a statement again.
use Rattle.std.specs.Prelude.{◌≡◌, ℕ, List}
use Rattle.sql_lex.specs.Lex.{tokens}
use Rattle.sql_grammar.specs.declared.ast.Statement.{Statement}
use Rattle.sql_grammar.specs.Grammar.{StatementPhrase}
use Rattle.sql_print.specs.Placeless as placeless

-- The text is a statement that nests no deeper than so, and it is this one but for places.
pub record SaysAgain (n : ℕ) (text : List ℕ) (statement : Statement) : Type 0 where
  pub read : Statement
  pub is : StatementPhrase n (tokens text) read
  pub same : placeless.statement read ≡ placeless.statement statement
