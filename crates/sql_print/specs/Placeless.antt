-- A statement without its places.
use Rattle.std.specs.Prelude.{map, option_map}
use Rattle.sql_grammar.specs.declared.ast.Name.{Name}
use Rattle.sql_grammar.specs.declared.ast.Ref.{Ref}
use Rattle.sql_grammar.specs.declared.ast.Literal.{Literal}
use Rattle.sql_grammar.specs.declared.ast.Operand.{Operand}
use Rattle.sql_grammar.specs.declared.ast.Operand.TheVariants as operand
use Rattle.sql_grammar.specs.declared.ast.Predicate.{Predicate}
use Rattle.sql_grammar.specs.declared.ast.Predicate.TheVariants as predicate
use Rattle.sql_grammar.specs.declared.ast.Expr.{Expr, fold-Expr}
use Rattle.sql_grammar.specs.declared.ast.Expr.TheVariants as e
use Rattle.sql_grammar.specs.declared.ast.Expr.TheOpen.{Expr-F}
use Rattle.sql_grammar.specs.declared.ast.Item.{Item}
use Rattle.sql_grammar.specs.declared.ast.Shown.{Shown}
use Rattle.sql_grammar.specs.declared.ast.Shown.TheVariants as shown
use Rattle.sql_grammar.specs.declared.ast.TableRef.{TableRef}
use Rattle.sql_grammar.specs.declared.ast.Join.{Join}
use Rattle.sql_grammar.specs.declared.ast.Key.{Key}
use Rattle.sql_grammar.specs.declared.ast.Statement.{Statement}

abbrev pub name : Name → Name
name n = record { text = n.text; place = 0 }

abbrev pub ref : Ref → Ref
ref r = record { source = option_map name r.source; column = name r.column; place = 0 }

abbrev pub literal : Literal → Literal
literal l = record { constant = l.constant; place = 0 }

abbrev pub operand_of : Operand → Operand
operand_of (operand.Ref r) = operand.Ref (ref r)
operand_of (operand.Literal l) = operand.Literal (literal l)

abbrev pub predicate_of : Predicate → Predicate
predicate_of predicate.Truth = predicate.Truth
predicate_of (predicate.Compares op with) = predicate.Compares op (operand_of with)
predicate_of (predicate.IsIn negated list) = predicate.IsIn negated (map literal list)
predicate_of (predicate.IsNull negated) = predicate.IsNull negated

abbrev pub expr_layer : Expr-F Expr → Expr
expr_layer (Expr-F.Or xs) = e.Or xs
expr_layer (Expr-F.And xs) = e.And xs
expr_layer (Expr-F.Not x) = e.Not x
expr_layer (Expr-F.Test of predicate) = e.Test (operand_of of) (predicate_of predicate)

unfoldable pub expr : Expr → Expr
expr = fold-Expr Expr expr_layer

abbrev pub item : Item → Item
item i = record { of = ref i.of; alias = option_map name i.alias }

abbrev pub shown_of : Shown → Shown
shown_of shown.All = shown.All
shown_of (shown.Items items) = shown.Items (map item items)

abbrev pub source : TableRef → TableRef
source s = record { connection = name s.connection; table = name s.table; alias = option_map name s.alias }

abbrev pub join : Join → Join
join j = record { source = source j.source; on = expr j.on }

abbrev pub key : Key → Key
key x = record { of = ref x.of; descending = x.descending }

abbrev pub statement : Statement → Statement
statement s = record { shown = shown_of s.shown; from = source s.from; joins = map join s.joins; test = option_map expr s.test; order = map key s.order; limit = s.limit }
