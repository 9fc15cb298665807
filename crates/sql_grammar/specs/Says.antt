-- What a token says, and what a phrase says by its parts.
use Rattle.std.specs.Prelude.{ℕ, ℤ, pos, negsuc, Bool, true, false, if◌then◌else◌, nat_lt, List, [], ◌∷◌, Option, Some, None}
use Rattle.sql_lex.specs.declared.token.Kind.{Kind}
use Rattle.sql_lex.specs.declared.token.Kind.TheVariants as k
use Rattle.sql_lex.specs.declared.token.Value.{Value}
use Rattle.sql_lex.specs.declared.token.Value.TheVariants as v
use Rattle.sql_lex.specs.declared.token.Token.{Token}
use Rattle.sql_grammar.specs.declared.ast.Name.{Name}
use Rattle.sql_grammar.specs.declared.ast.Ref.{Ref}
use Rattle.sql_grammar.specs.declared.ast.Constant.{Constant}
use Rattle.sql_grammar.specs.declared.ast.Constant.TheVariants as c
use Rattle.sql_grammar.specs.declared.ast.Literal.{Literal}
use Rattle.sql_grammar.specs.declared.ast.Operand.{Operand}
use Rattle.sp_value.specs.declared.truth.Op.{Op}
use Rattle.sp_value.specs.declared.truth.Op.TheVariants as op
use Rattle.sql_grammar.specs.declared.ast.Predicate.{Predicate}
use Rattle.sql_grammar.specs.declared.ast.Predicate.TheVariants as predicate
use Rattle.sql_grammar.specs.declared.ast.Expr.{Expr}
use Rattle.sql_grammar.specs.declared.ast.Expr.TheVariants as e
use Rattle.sql_grammar.specs.declared.ast.Item.{Item}
use Rattle.sql_grammar.specs.declared.ast.Shown.{Shown}
use Rattle.sql_grammar.specs.declared.ast.TableRef.{TableRef}
use Rattle.sql_grammar.specs.declared.ast.Join.{Join}
use Rattle.sql_grammar.specs.declared.ast.Key.{Key}
use Rattle.sql_grammar.specs.declared.ast.Statement.{Statement}
use Rattle.sql_lex.specs.Lex.{limit}
use Rattle.sql_grammar.specs.Reading.{same}

-- a reserved word or a sign
abbrev pub word : Kind → Token → Option (Unit {0})
word kind t = if same t.kind kind then Some tt else None

-- a name is not empty
abbrev pub name_by : Value → ℕ → Option Name
name_by v.Fixed place = None
name_by (v.Text []) place = None
name_by (v.Text (b ∷ bytes)) place = Some (record { text = b ∷ bytes; place = place })
name_by (v.Number n) place = None

abbrev pub name : Token → Option Name
name t = if same t.kind k.Name then name_by t.value t.place else None

-- the number of a limit is not negative
abbrev pub limit_by : Value → Option ℕ
limit_by v.Fixed = None
limit_by (v.Text bytes) = None
limit_by (v.Number (pos n)) = if nat_lt n limit then Some n else None
limit_by (v.Number (negsuc n)) = None

abbrev pub number : Token → Option ℕ
number t = if same t.kind k.Number then limit_by t.value else None

-- a number of 64 bits
abbrev pub in_range : ℤ → Bool
in_range (pos n) = nat_lt n limit
in_range (negsuc n) = nat_lt n limit

abbrev pub int_by : Value → Option Constant
int_by v.Fixed = None
int_by (v.Text bytes) = None
int_by (v.Number n) = if in_range n then Some (c.Int n) else None

abbrev pub text_by : Value → Option Constant
text_by v.Fixed = None
text_by (v.Text bytes) = Some (c.Text bytes)
text_by (v.Number n) = None

abbrev pub constant_by : Kind → Value → Option Constant
constant_by k.Null value = Some c.Null
constant_by k.True value = Some (c.Bool true)
constant_by k.False value = Some (c.Bool false)
constant_by k.Number value = int_by value
constant_by k.Text value = text_by value
constant_by _ value = None

abbrev pub constant_literal : ℕ → Option Constant → Option Literal
constant_literal place None = None
constant_literal place (Some x) = Some (record { constant = x; place = place })

abbrev pub literal : Token → Option Literal
literal t = constant_literal t.place (constant_by t.kind t.value)

abbrev pub op_by : Kind → Option Op
op_by k.Equal = Some op.Eq
op_by k.NotEqual = Some op.Ne
op_by k.Less = Some op.Lt
op_by k.AtMost = Some op.Le
op_by k.Greater = Some op.Gt
op_by k.AtLeast = Some op.Ge
op_by _ = None

abbrev pub operator : Token → Option Op
operator t = op_by t.kind

-- ---- phrases

abbrev pub first : {A B : Type 0} → A × B → A
first p = p.0

abbrev pub second : {A B : Type 0} → A × B → B
second p = p.1

abbrev pub listed : {A : Type 0} → A × List A → List A
listed p = p.0 ∷ p.1

abbrev pub is_there : {A : Type 0} → Option A → Bool
is_there None = false
is_there (Some x) = true

abbrev pub ref_by : Name → Option Name → Ref
ref_by a None = record { source = None; column = a; place = a.place }
ref_by a (Some b) = record { source = Some a; column = b; place = a.place }

abbrev pub ref : Name × Option Name → Ref
ref p = ref_by p.0 p.1

abbrev pub item : Ref × Option Name → Item
item p = record { of = p.0; alias = p.1 }

abbrev pub source : Name × (Name × Option Name) → TableRef
source p = record { connection = p.0; table = p.1.0; alias = p.1.1 }

abbrev pub join : Option (Unit {0}) × (TableRef × Expr) → Join
join p = record { source = p.1.0; on = p.1.1 }

-- ascending, where nothing is said
abbrev pub descends : Option Bool → Bool
descends None = false
descends (Some b) = b

abbrev pub key : Ref × Option Bool → Key
key p = record { of = p.0; descending = descends p.1 }

abbrev pub order : Option (Key × List Key) → List Key
order None = []
order (Some keys) = listed keys

abbrev pub test_by : Operand → Option Predicate → Expr
test_by a None = e.Test a predicate.Truth
test_by a (Some q) = e.Test a q

abbrev pub test : Operand × Option Predicate → Expr
test p = test_by p.0 p.1

-- one member is that member
abbrev pub all_by : Expr → List Expr → Expr
all_by a [] = a
all_by a (b ∷ more) = e.And (a ∷ b ∷ more)

abbrev pub all : Expr × List Expr → Expr
all p = all_by p.0 p.1

abbrev pub any_by : Expr → List Expr → Expr
any_by a [] = a
any_by a (b ∷ more) = e.Or (a ∷ b ∷ more)

abbrev pub any : Expr × List Expr → Expr
any p = any_by p.0 p.1

abbrev pub statement : Shown × (TableRef × (List Join × (Option Expr × (List Key × (Option ℕ × Option (Unit {0})))))) → Statement
statement p = record { shown = p.0; from = p.1.0; joins = p.1.1.0; test = p.1.1.1.0; order = p.1.1.1.1.0; limit = p.1.1.1.1.1.0 }
