-- What parsing answers: the statement, or the first token such that no statement begins with the tokens up to and with it.
use Rattle.std.specs.Prelude.{◌≡◌, ℕ, Bool, true, false, List, [], ◌∷◌, ◌++◌, Result, Ok, Err}
use Rattle.sql_lex.specs.declared.token.Token.{Token}
use Rattle.sql_grammar.specs.declared.ast.Statement.{Statement}
use Rattle.sql_grammar.specs.Language.{Viable}
use Rattle.sql_grammar.specs.Reading.{Fault}
use Rattle.sql_grammar.specs.Grammar.{StatementPhrase}

-- a statement that nests at most so deep begins with these tokens
abbrev pub Begins : ℕ → List Token → Type 0
Begins n ts = Viable (StatementPhrase n) ts

abbrev pub depth : ℕ
depth = 64

-- Why reading stops before the rest: too deep, where a statement one level deeper goes on so; else no statement goes on so, or is over.
abbrev pub Refused : Bool → List Token → List Token → Type 0
Refused true before [] = ⊥
Refused false before [] = (n : ℕ) (s : Statement) → StatementPhrase n before s → ⊥
Refused true before (t ∷ rest) = (Begins depth (before ++ t ∷ []) → ⊥) × Begins 65 (before ++ t ∷ [])
Refused false before (t ∷ rest) = (n : ℕ) → Begins n (before ++ t ∷ []) → ⊥

pub record IsFirstFault (ts : List Token) (f : Fault) : Type 0 where
  pub before : List Token
  pub parts : ts ≡ before ++ f.rest
  pub begun : Begins depth before
  pub refused : Refused f.deep before f.rest

-- what is answered to the tokens
abbrev pub IsAnswer : List Token → Result Statement Fault → Type 0
IsAnswer ts (Ok s) = StatementPhrase depth ts s
IsAnswer ts (Err f) = IsFirstFault ts f
