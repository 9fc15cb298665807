-- Where names and kinds are wrong.
use Rattle.std.specs.Prelude.{ℕ, Bool, true, false, not, List, map, bytes_eq, slice_get, is_some, Option, Some, None, option_map}
use Rattle.std.specs.List.{list_any, list_all}
use Rattle.sp_value.specs.declared.kind.Kind.{Kind}
use Rattle.sp_value.specs.declared.kind.Kind.TheVariants as kind
use Rattle.sp_model.specs.declared.declaration.Declaration.{Declaration}
use Rattle.sp_model.specs.declared.settings.Settings.{Settings}
use Rattle.sql_grammar.specs.declared.ast.Predicate.{Predicate}
use Rattle.sql_grammar.specs.declared.ast.Predicate.TheVariants as predicate
use Rattle.sql_grammar.specs.declared.ast.Constant.{Constant}
use Rattle.sql_grammar.specs.declared.ast.Constant.TheVariants as constant
use Rattle.sql_grammar.specs.declared.ast.Expr.{Expr}
use Rattle.sql_grammar.specs.declared.ast.Operand.{Operand}
use Rattle.sql_grammar.specs.declared.ast.Operand.TheVariants as operand
use Rattle.sql_grammar.specs.declared.ast.Ref.{Ref}
use Rattle.sql_grammar.specs.declared.ast.TableRef.{TableRef}
use Rattle.sql_grammar.specs.declared.ast.Statement.{Statement}
use Rattle.sql_bind.specs.First.{first_of}
use Rattle.sql_bind.specs.Fits.{fits_of}
use Rattle.sql_bind.specs.Known.{is_connection}
use Rattle.sql_bind.specs.Parts.{Part, Shows, Opens, Tests, Sorts, Test, tests_of, refs_of}
use Rattle.sql_bind.specs.Sources.{Opened, Seen, opened, alias_of, table_of}
use Rattle.sql_bind.specs.declared.fitting.Fits.{Fits}
use Rattle.sql_bind.specs.declared.fitting.Fits.TheVariants as fit
use Rattle.sql_bind.specs.declared.judging.NameRule.{NameRule}
use Rattle.sql_bind.specs.declared.judging.NameRule.TheVariants as rule

abbrev pub place_unless : Bool → ℕ → Option ℕ
place_unless true place = None
place_unless false place = Some place

-- ---- sources

abbrev pub connection_place : Settings → Opened → Option ℕ
connection_place settings o = place_unless (is_connection settings o.source.connection.text) o.source.connection.place

-- the name of the first connection that isn't in the settings
abbrev pub unknown_connection : Settings → Statement → Option ℕ
unknown_connection settings s = first_of (connection_place settings) (opened s)

abbrev pub table_place : (List ℕ → Option Declaration) → Opened → Option ℕ
table_place declarations o = place_unless (is_some (table_of declarations o.source)) o.source.table.place

-- the name of the first table that isn't declared
abbrev pub unknown_table : (List ℕ → Option Declaration) → Statement → Option ℕ
unknown_table declarations s = first_of (table_place declarations) (opened s)

-- the connection's name of the ninth source
abbrev pub ninth_source : Statement → Option ℕ
ninth_source s = option_map (λ (o : Opened). o.source.connection.place) (slice_get (opened s) 8)

-- ---- refs

abbrev pub place_of_none : Fits → ℕ → Option ℕ
place_of_none fit.None place = Some place
place_of_none (fit.One f) place = None
place_of_none fit.Several place = None

abbrev pub place_of_several : Fits → ℕ → Option ℕ
place_of_several fit.None place = None
place_of_several (fit.One f) place = None
place_of_several fit.Several place = Some place

-- a ref that fits no source
abbrev pub unknown_ref : List Seen → Ref → Option ℕ
unknown_ref looked r = place_of_none (fits_of looked r) r.place

-- a ref that fits two or more
abbrev pub ambiguous_ref : List Seen → Ref → Option ℕ
ambiguous_ref looked r = place_of_several (fits_of looked r) r.place

-- a source with the alias of one before it, at its connection's name
abbrev pub repeated_alias : List Seen → TableRef → Option ℕ
repeated_alias before s = place_unless (not (list_any (λ b. bytes_eq (alias_of b.source) (alias_of s)) before)) s.connection.place

-- ---- kinds

-- the kind of the one column that a ref fits
abbrev pub kind_of_fits : Fits → Option Kind
kind_of_fits fit.None = None
kind_of_fits (fit.One f) = Some f.kind
kind_of_fits fit.Several = None

abbrev pub ref_kind : List Seen → Ref → Option Kind
ref_kind looked r = kind_of_fits (fits_of looked r)

-- null has no kind of its own
abbrev pub constant_kind : Constant → Option Kind
constant_kind constant.Null = None
constant_kind (constant.Bool b) = Some kind.Bool
constant_kind (constant.Int n) = Some kind.Int
constant_kind (constant.Text t) = Some kind.Text

abbrev pub operand_kind : List Seen → Operand → Option Kind
operand_kind looked (operand.Ref r) = ref_kind looked r
operand_kind looked (operand.Literal l) = constant_kind l.constant

abbrev pub is_json : Option Kind → Bool
is_json (Some kind.Json) = true
is_json _ = false

-- both have one kind, or one is null; and none is of kind Json
abbrev pub may_compare : Option Kind → Option Kind → Bool
may_compare None k = not (is_json k)
may_compare (Some kind.Bool) (Some kind.Bool) = true
may_compare (Some kind.Int) (Some kind.Int) = true
may_compare (Some kind.Text) (Some kind.Text) = true
may_compare (Some kind.Json) k = false
may_compare (Some k) None = true
may_compare _ _ = false

-- an operand alone is a boolean or null
abbrev pub may_stand : Option Kind → Bool
may_stand None = true
may_stand (Some kind.Bool) = true
may_stand (Some _) = false

abbrev pub may_ask : List Seen → Option Kind → Predicate → Bool
may_ask looked k predicate.Truth = may_stand k
may_ask looked k (predicate.Compares op with) = may_compare k (operand_kind looked with)
may_ask looked k (predicate.IsIn negated list) = list_all (λ l. may_compare k (constant_kind l.constant)) list
may_ask looked k (predicate.IsNull negated) = true

abbrev pub operand_place : Operand → ℕ
operand_place (operand.Ref r) = r.place
operand_place (operand.Literal l) = l.place

-- a test whose kinds don't fit, at its first operand
abbrev pub mismatched_test : List Seen → Test → Option ℕ
mismatched_test looked t = place_unless (may_ask looked (operand_kind looked t.of) t.predicate) (operand_place t.of)

-- ---- parts

abbrev pub unknown_column : Part → Option ℕ
unknown_column (Shows looked r) = unknown_ref looked r
unknown_column (Opens before s) = None
unknown_column (Tests looked t) = first_of (unknown_ref looked) (refs_of t)
unknown_column (Sorts looked k) = unknown_ref looked k.of

abbrev pub ambiguous : Part → Option ℕ
ambiguous (Shows looked r) = ambiguous_ref looked r
ambiguous (Opens before s) = repeated_alias before s
ambiguous (Tests looked t) = first_of (ambiguous_ref looked) (refs_of t)
ambiguous (Sorts looked k) = ambiguous_ref looked k.of

abbrev pub type_mismatch : Part → Option ℕ
type_mismatch (Shows looked r) = None
type_mismatch (Opens before s) = None
type_mismatch (Tests looked t) = mismatched_test looked t
type_mismatch (Sorts looked k) = place_unless (not (is_json (ref_kind looked k.of))) k.of.place

-- where a part breaks a rule
abbrev pub broken : NameRule → Part → Option ℕ
broken rule.UnknownColumn part = unknown_column part
broken rule.Ambiguous part = ambiguous part
broken rule.TypeMismatch part = type_mismatch part

-- where the tests of a condition break a rule first
unfoldable pub broken_in : NameRule → List Seen → Expr → Option ℕ
broken_in rule looked e = first_of (broken rule) (map (Tests looked) (tests_of e))
