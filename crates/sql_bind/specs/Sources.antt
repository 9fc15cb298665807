-- The sources of a statement, in the order of its text.
use Rattle.std.specs.Prelude.{ℕ, List, ◌∷◌, map, find, bytes_eq, Option, Some, None, option_and_then, option_map}
use Rattle.std.specs.List.{filter_map}
use Rattle.std.specs.Option.{option_map_or}
use Rattle.sp_model.specs.declared.declaration.Declaration.{Declaration}
use Rattle.sp_model.specs.declared.declaration.TableDecl.{TableDecl}
use Rattle.sql_grammar.specs.declared.ast.Expr.{Expr}
use Rattle.sql_grammar.specs.declared.ast.Name.{Name}
use Rattle.sql_grammar.specs.declared.ast.Join.{Join}
use Rattle.sql_grammar.specs.declared.ast.TableRef.{TableRef}
use Rattle.sql_grammar.specs.declared.ast.Statement.{Statement}

-- a source, with the condition on which its rows are joined
pub record Opened : Type 0 where
  pub source : TableRef
  pub on : Option Expr

abbrev pub opened_by : Join → Opened
opened_by j = record { source = j.source; on = Some j.on }

abbrev pub opened : Statement → List Opened
opened s = record { source = s.from; on = None } ∷ map opened_by s.joins

-- the name after it, else its table's name
abbrev pub alias_of : TableRef → List ℕ
alias_of s = option_map_or (λ (n : Name). n.text) s.alias s.table.text

-- the first table of a name
abbrev pub first_table : List ℕ → List TableDecl → Option TableDecl
first_table name tables = find (λ t. bytes_eq t.name name) tables

-- the table of a source, by the declarations of connections; a connection without a declaration has no table
abbrev pub table_of : (List ℕ → Option Declaration) → TableRef → Option TableDecl
table_of declarations s = option_and_then (λ (d : Declaration). first_table s.table.text d.tables) (declarations s.connection.text)

-- a source whose table is declared
pub record Seen : Type 0 where
  pub source : TableRef
  pub on : Option Expr
  pub table : TableDecl

abbrev pub with_table : Opened → TableDecl → Seen
with_table o table = record { source = o.source; on = o.on; table = table }

abbrev pub seen_by : (List ℕ → Option Declaration) → Opened → Option Seen
seen_by declarations o = option_map (with_table o) (table_of declarations o.source)

-- the sources whose tables are declared
abbrev pub seen_of : (List ℕ → Option Declaration) → Statement → List Seen
seen_of declarations s = filter_map (seen_by declarations) (opened s)
