-- What parsing a text answers.
use Rattle.std.specs.Prelude.{◌≡◌, ℕ, Bool, true, false, List, [], ◌∷◌, length, Result, Ok, Err}
use Rattle.sql_lex.specs.declared.token.Token.{Token}
use Rattle.sql_lex.specs.Lex.{tokens}
use Rattle.sql_grammar.specs.declared.ast.Statement.{Statement}
use Rattle.sql_grammar.specs.Theorem.{IsFirstFault}
use Rattle.sql_parser.specs.declared.fault.SqlFault.{SqlFault}
use Rattle.sql_parser.specs.declared.fault.SqlFault.TheVariants as fault

-- the place of the first of the tokens, or the end of the text
abbrev pub place_of : List Token → ℕ → ℕ
place_of [] end = end
place_of (t ∷ ts) end = t.place

-- the first fault of the text stands at the place
pub record IsFaultAt (text : List ℕ) (deep : Bool) (place : ℕ) : Type 0 where
  pub rest : List Token
  pub first : IsFirstFault (tokens text) (record { deep = deep; rest = rest })
  pub here : place ≡ place_of rest (length text)

abbrev pub IsFaultOf : List ℕ → SqlFault → Type 0
IsFaultOf text fault.Memory = Unit {0}
IsFaultOf text (fault.Syntax place) = IsFaultAt text false place
IsFaultOf text (fault.TooDeep place) = IsFaultAt text true place

-- the statement was read, unless memory ran out
abbrev pub IsUnlessMemory : Result Statement SqlFault → Statement → Type 0
IsUnlessMemory (Ok read) s = read ≡ s
IsUnlessMemory (Err fault.Memory) s = Unit {0}
IsUnlessMemory (Err (fault.Syntax place)) s = ⊥
IsUnlessMemory (Err (fault.TooDeep place)) s = ⊥
