-- A statement with columns in place of names.
use Rattle.std.specs.Prelude.{ℕ, ◌+◌, List, [], ◌∷◌, ◌++◌, map, take, option_map}
use Rattle.std.specs.Option.{option_map_or}
use Rattle.sp_value.specs.declared.cell.Cell.{Cell}
use Rattle.sp_value.specs.declared.cell.Cell.TheVariants as c
use Rattle.sp_value.specs.declared.kind.Kind.TheVariants as kind
use Rattle.sp_model.specs.declared.declaration.ColumnDecl.{ColumnDecl}
use Rattle.sp_model.specs.declared.settings.Settings.{Settings}
use Rattle.column_tests.specs.declared.test.Operand.{Operand}
use Rattle.column_tests.specs.declared.test.Operand.TheVariants as operand
use Rattle.column_tests.specs.declared.test.Question.{Question}
use Rattle.column_tests.specs.declared.test.Question.TheVariants as question
use Rattle.column_tests.specs.declared.test.Test.{Test}
use Rattle.column_tests.specs.declared.test.Test.TheVariants as test
use Rattle.sql_grammar.specs.declared.ast.Predicate.{Predicate}
use Rattle.sql_grammar.specs.declared.ast.Predicate.TheVariants as predicate
use Rattle.sql_grammar.specs.declared.ast.Constant.{Constant}
use Rattle.sql_grammar.specs.declared.ast.Constant.TheVariants as constant
use Rattle.sql_grammar.specs.declared.ast.Expr.{Expr, fold-Expr}
use Rattle.sql_grammar.specs.declared.ast.Expr.TheOpen.{Expr-F}
use Rattle.sql_grammar.specs.declared.ast.Item.{Item}
use Rattle.sql_grammar.specs.declared.ast.Key.{Key}
use Rattle.sql_grammar.specs.declared.ast.Name.{Name}
use Rattle.sql_grammar.specs.declared.ast.Operand.{Operand as Named}
use Rattle.sql_grammar.specs.declared.ast.Operand.TheVariants as named
use Rattle.sql_grammar.specs.declared.ast.Ref.{Ref}
use Rattle.sql_grammar.specs.declared.ast.Shown.{Shown}
use Rattle.sql_grammar.specs.declared.ast.Shown.TheVariants as shown
use Rattle.sql_grammar.specs.declared.ast.Statement.{Statement}
use Rattle.sql_bind.specs.Fits.{fits_of}
use Rattle.sql_bind.specs.Members.{members_named}
use Rattle.sql_bind.specs.Sources.{Seen, alias_of}
use Rattle.sql_bind.specs.declared.bound.Bound.{Bound}
use Rattle.sql_bind.specs.declared.bound.BoundItem.{BoundItem}
use Rattle.sql_bind.specs.declared.bound.BoundKey.{BoundKey}
use Rattle.sql_bind.specs.declared.bound.BoundSource.{BoundSource}
use Rattle.sql_bind.specs.declared.bound.Column.{Column}
use Rattle.sql_bind.specs.declared.fitting.Fit.{Fit}
use Rattle.sql_bind.specs.declared.fitting.Fits.{Fits}
use Rattle.sql_bind.specs.declared.fitting.Fits.TheVariants as fit

-- ---- columns

abbrev pub column_at : ℕ → ℕ → Column
column_at source column = record { source = source; column = column }

-- the one that fits, which there is where nothing is refused
abbrev pub one_fit : Fits → Fit
one_fit (fit.One f) = f
one_fit _ = record { source = 0; column = 0; kind = kind.Json }

abbrev pub fit_of : List Seen → Ref → Fit
fit_of looked r = one_fit (fits_of looked r)

abbrev pub column_of : List Seen → Ref → Column
column_of looked r = column_at (fit_of looked r).source (fit_of looked r).column

-- ---- conditions

abbrev pub cell_of : Constant → Cell
cell_of constant.Null = c.Null
cell_of (constant.Bool b) = c.Bool b
cell_of (constant.Int n) = c.Int n
cell_of (constant.Text t) = c.Text t

abbrev pub operand_of : List Seen → Named → Operand Column
operand_of looked (named.Ref r) = operand.Column (column_of looked r)
operand_of looked (named.Literal l) = operand.Literal (cell_of l.constant)

abbrev pub question_of : List Seen → Predicate → Question Column
question_of looked predicate.Truth = question.Truth
question_of looked (predicate.Compares op with) = question.Compares op (operand_of looked with)
question_of looked (predicate.IsIn negated list) = question.IsIn negated (map (λ l. cell_of l.constant) list)
question_of looked (predicate.IsNull negated) = question.IsNull negated

abbrev pub expr_layer : List Seen → Expr-F (Test Column) → Test Column
expr_layer looked (Expr-F.Or xs) = test.Or xs
expr_layer looked (Expr-F.And xs) = test.And xs
expr_layer looked (Expr-F.Not x) = test.Not x
expr_layer looked (Expr-F.Test of predicate) = test.Asks (operand_of looked of) (question_of looked predicate)

unfoldable pub expr_of : List Seen → Expr → Test Column
expr_of looked = fold-Expr (Test Column) (expr_layer looked)

-- ---- the statement

abbrev pub source_of : Settings → List Seen → Seen → BoundSource
source_of settings looked seen = record {
  connection = seen.source.connection.text;
  members = members_named settings seen.source.connection.text;
  alias = alias_of seen.source;
  table = seen.table;
  on = option_map (expr_of looked) seen.on;
}

-- the sources from the n-th on; the condition of a join looks at no later source
abbrev pub sources_from : Settings → List Seen → ℕ → List Seen → List BoundSource
sources_from settings all n [] = []
sources_from settings all n (s ∷ ss) = source_of settings (take (n + 1) all) s ∷ sources_from settings all (n + 1) ss

-- a column under its own name
abbrev pub columns_from : ℕ → ℕ → List ColumnDecl → List BoundItem
columns_from source n [] = []
columns_from source n (d ∷ ds) = record { column = column_at source n; name = d.name; kind = d.kind } ∷ columns_from source (n + 1) ds

abbrev pub all_columns_from : ℕ → List Seen → List BoundItem
all_columns_from n [] = []
all_columns_from n (s ∷ ss) = columns_from n 0 s.table.columns ++ all_columns_from (n + 1) ss

-- an item under its alias, else its column's name
abbrev pub item_of : List Seen → Item → BoundItem
item_of all i = record {
  column = column_of all i.of;
  name = option_map_or (λ (n : Name). n.text) i.alias i.of.column.text;
  kind = (fit_of all i.of).kind;
}

abbrev pub shown_of : List Seen → Shown → List BoundItem
shown_of all shown.All = all_columns_from 0 all
shown_of all (shown.Items items) = map (item_of all) items

abbrev pub key_of : List Seen → Key → BoundKey
key_of all k = record { column = column_of all k.of; down = k.descending }

abbrev pub bound_by : Settings → List Seen → Statement → Bound
bound_by settings all s = record {
  sources = sources_from settings all 0 all;
  shown = shown_of all s.shown;
  test = option_map (expr_of all) s.test;
  order = map (key_of all) s.order;
  limit = s.limit;
}
