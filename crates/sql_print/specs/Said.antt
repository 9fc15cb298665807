-- What is printed of a statement, token by token.
use Rattle.std.specs.Prelude.{ℕ, pos, Bool, true, false, if◌then◌else◌, List, [], ◌∷◌, ◌++◌, map, Option, Some, None}
use Rattle.sql_lex.specs.declared.token.Kind.{Kind}
use Rattle.sql_lex.specs.declared.token.Kind.TheVariants as k
use Rattle.sql_lex.specs.declared.token.Value.{Value}
use Rattle.sql_lex.specs.declared.token.Value.TheVariants as v
use Rattle.sql_lex.specs.declared.token.Token.{Token}
use Rattle.sql_grammar.specs.declared.ast.Name.{Name}
use Rattle.sql_grammar.specs.declared.ast.Ref.{Ref}
use Rattle.sql_grammar.specs.declared.ast.Constant.{Constant}
use Rattle.sql_grammar.specs.declared.ast.Constant.TheVariants as c
use Rattle.sql_grammar.specs.declared.ast.Literal.{Literal}
use Rattle.sql_grammar.specs.declared.ast.Operand.{Operand}
use Rattle.sql_grammar.specs.declared.ast.Operand.TheVariants as operand
use Rattle.sp_value.specs.declared.truth.Op.{Op}
use Rattle.sp_value.specs.declared.truth.Op.TheVariants as op
use Rattle.sql_grammar.specs.declared.ast.Predicate.{Predicate}
use Rattle.sql_grammar.specs.declared.ast.Predicate.TheVariants as predicate
use Rattle.sql_grammar.specs.declared.ast.Expr.{Expr, fold-Expr}
use Rattle.sql_grammar.specs.declared.ast.Expr.TheOpen.{Expr-F}
use Rattle.sql_grammar.specs.declared.ast.Item.{Item}
use Rattle.sql_grammar.specs.declared.ast.Shown.{Shown}
use Rattle.sql_grammar.specs.declared.ast.Shown.TheVariants as shown
use Rattle.sql_grammar.specs.declared.ast.TableRef.{TableRef}
use Rattle.sql_grammar.specs.declared.ast.Join.{Join}
use Rattle.sql_grammar.specs.declared.ast.Key.{Key}
use Rattle.sql_grammar.specs.declared.ast.Statement.{Statement}

-- a token without its place
abbrev pub Bare : Type 0
Bare = Kind × Value

abbrev pub bare : Token → Bare
bare t = (t.kind, t.value)

abbrev pub bares : List Token → List Bare
bares = map bare

abbrev pub fixed : Kind → List Bare
fixed kind = (kind, v.Fixed) ∷ []

-- each with the word before it
abbrev pub each_after : Kind → List (List Bare) → List Bare
each_after kind [] = []
each_after kind (ts ∷ more) = (fixed kind ++ ts) ++ each_after kind more

abbrev pub between : Kind → List (List Bare) → List Bare
between kind [] = []
between kind (ts ∷ more) = ts ++ each_after kind more

abbrev pub said_name : Name → List Bare
said_name n = (k.Name, v.Text n.text) ∷ []

abbrev pub said_ref_by : Option Name → Name → List Bare
said_ref_by None n = said_name n
said_ref_by (Some s) n = said_name s ++ (fixed k.Dot ++ said_name n)

abbrev pub said_ref : Ref → List Bare
said_ref r = said_ref_by r.source r.column

abbrev pub constant_bare : Constant → Bare
constant_bare c.Null = (k.Null, v.Fixed)
constant_bare (c.Bool b) = (if b then k.True else k.False, v.Fixed)
constant_bare (c.Int n) = (k.Number, v.Number n)
constant_bare (c.Text t) = (k.Text, v.Text t)

abbrev pub said_constant : Constant → List Bare
said_constant constant = constant_bare constant ∷ []

abbrev pub said_literal : Literal → List Bare
said_literal l = said_constant l.constant

abbrev pub said_operand : Operand → List Bare
said_operand (operand.Ref r) = said_ref r
said_operand (operand.Literal l) = said_literal l

abbrev pub op_kind : Op → Kind
op_kind op.Eq = k.Equal
op_kind op.Ne = k.NotEqual
op_kind op.Lt = k.Less
op_kind op.Le = k.AtMost
op_kind op.Gt = k.Greater
op_kind op.Ge = k.AtLeast

abbrev pub negation : Bool → List Bare
negation true = fixed k.Not
negation false = []

abbrev pub said_literals : List Literal → List Bare
said_literals ls = between k.Comma (map said_literal ls)

abbrev pub said_predicate : Predicate → List Bare
said_predicate predicate.Truth = []
said_predicate (predicate.Compares op with) = fixed (op_kind op) ++ said_operand with
said_predicate (predicate.IsIn negated list) = negation negated ++ (fixed k.In ++ (fixed k.Open ++ (said_literals list ++ fixed k.Close)))
said_predicate (predicate.IsNull negated) = fixed k.Is ++ (negation negated ++ fixed k.Null)

abbrev pub said_test : Operand → Predicate → List Bare
said_test of predicate = said_operand of ++ said_predicate predicate

-- ---- conditions

-- What is printed of a condition that stands alone, that is a member of an `or`, and that is a member of an `and` or behind a `not`.
pub record Said : Type 0 where
  pub alone : List Bare
  pub in_or : List Bare
  pub in_and : List Bare

abbrev pub everywhere : List Bare → Said
everywhere ts = record { alone = ts; in_or = ts; in_and = ts }

abbrev pub inside : List Bare → List Bare
inside ts = fixed k.Open ++ (ts ++ fixed k.Close)

abbrev pub said_layer : Expr-F Said → Said
said_layer (Expr-F.Or xs) = let ts = between k.Or (map (λ x. x.in_or) xs) in record { alone = ts; in_or = inside ts; in_and = inside ts }
said_layer (Expr-F.And xs) = let ts = between k.And (map (λ x. x.in_and) xs) in record { alone = ts; in_or = ts; in_and = inside ts }
said_layer (Expr-F.Not x) = everywhere (fixed k.Not ++ x.in_and)
said_layer (Expr-F.Test of predicate) = everywhere (said_test of predicate)

unfoldable pub said : Expr → Said
said = fold-Expr Said said_layer

abbrev pub said_expr : Expr → List Bare
said_expr x = (said x).alone

-- ---- statements

abbrev pub said_alias : Option Name → List Bare
said_alias None = []
said_alias (Some n) = fixed k.As ++ said_name n

abbrev pub said_item : Item → List Bare
said_item i = said_ref i.of ++ said_alias i.alias

abbrev pub said_items : List Item → List Bare
said_items is = between k.Comma (map said_item is)

abbrev pub said_shown : Shown → List Bare
said_shown shown.All = fixed k.Star
said_shown (shown.Items is) = said_items is

abbrev pub said_source : TableRef → List Bare
said_source s = said_name s.connection ++ (fixed k.Dot ++ (said_name s.table ++ said_alias s.alias))

abbrev pub said_join : Join → List Bare
said_join j = fixed k.Join ++ (said_source j.source ++ (fixed k.On ++ said_expr j.on))

abbrev pub said_joins : List Join → List Bare
said_joins [] = []
said_joins (j ∷ js) = said_join j ++ said_joins js

abbrev pub said_where : Option Expr → List Bare
said_where None = []
said_where (Some x) = fixed k.Where ++ said_expr x

abbrev pub said_direction : Bool → List Bare
said_direction true = fixed k.Desc
said_direction false = []

abbrev pub said_key : Key → List Bare
said_key key = said_ref key.of ++ said_direction key.descending

abbrev pub said_keys : List Key → List Bare
said_keys keys = between k.Comma (map said_key keys)

abbrev pub said_order : List Key → List Bare
said_order [] = []
said_order (key ∷ keys) = fixed k.Order ++ (fixed k.By ++ said_keys (key ∷ keys))

abbrev pub said_limit : Option ℕ → List Bare
said_limit None = []
said_limit (Some n) = fixed k.Limit ++ ((k.Number, v.Number (pos n)) ∷ [])

abbrev pub said_statement : Statement → List Bare
said_statement s =
    fixed k.Select ++ (said_shown s.shown ++ (fixed k.From ++ (said_source s.from ++ (said_joins s.joins ++ (said_where s.test ++ (said_order s.order ++ said_limit s.limit))))))
