-- What is printed of a statement is one again, with the same value but for places.
use Rattle.std.proofs.Common.{◌≡◌, ℕ, pos, negsuc, Bool, true, false, cond, List, [], ◌∷◌, ◌++◌, map, inr, Option, Some, None, refl, sym, ap, subst, append-nil, eq-eqb, ltb}
use Rattle.std.specs.Prelude.{option_map}
use Rattle.sql_lex.specs.declared.token.Kind.{Kind}
use Rattle.sql_lex.specs.declared.token.Kind.TheVariants as k
use Rattle.sql_lex.specs.declared.token.Value.{Value}
use Rattle.sql_lex.specs.declared.token.Value.TheVariants as v
use Rattle.sql_lex.specs.declared.token.Token.{Token}
use Rattle.sql_lex.specs.Lex.{limit}
use Rattle.sql_grammar.specs.declared.ast.Name.{Name}
use Rattle.sql_grammar.specs.declared.ast.Ref.{Ref}
use Rattle.sql_grammar.specs.declared.ast.Constant.{Constant}
use Rattle.sql_grammar.specs.declared.ast.Constant.TheVariants as c
use Rattle.sql_grammar.specs.declared.ast.Literal.{Literal}
use Rattle.sql_grammar.specs.declared.ast.Operand.{Operand}
use Rattle.sql_grammar.specs.declared.ast.Operand.TheVariants as operand
use Rattle.sp_value.specs.declared.truth.Op.{Op}
use Rattle.sp_value.specs.declared.truth.Op.TheVariants as op
use Rattle.sql_grammar.specs.declared.ast.Predicate.{Predicate}
use Rattle.sql_grammar.specs.declared.ast.Predicate.TheVariants as predicate
use Rattle.sql_grammar.specs.declared.ast.Expr.{Expr}
use Rattle.sql_grammar.specs.declared.ast.Shown.{Shown}
use Rattle.sql_grammar.specs.declared.ast.Shown.TheVariants as shown
use Rattle.sql_grammar.specs.declared.ast.TableRef.{TableRef}
use Rattle.sql_grammar.specs.declared.ast.Join.{Join}
use Rattle.sql_grammar.specs.declared.ast.Key.{Key}
use Rattle.sql_grammar.specs.declared.ast.Statement.{Statement}
use Rattle.sql_grammar.specs.Language.{Lang, One, Made, Maybe, Many, Either}
use Rattle.sql_grammar.specs.Reading.{same}
use Rattle.sql_grammar.specs.Says as say
use Rattle.sql_grammar.specs.Grammar.{Word, After, Listed, RefPhrase, ItemPhrase, ShownPhrase, OperandPhrase, ComparesPhrase, ListPhrase, NullPhrase, PredicatePhrase, TestPhrase, ExprPhrase, SinglePhrase, AliasPhrase, SourcePhrase, JoinPhrase, KeyPhrase, WherePhrase, OrderPhrase, LimitPhrase, StatementPhrase}
use Rattle.sql_print.specs.Said.{Bare, bare, bares, fixed, said_name, said_ref, constant_bare, said_literal, said_operand, op_kind, said_literals, said_predicate, said, said_expr, said_alias, said_item, said_shown, said_source, said_join, said_joins, said_where, said_direction, said_key, said_keys, said_order, said_limit, said_statement}
use Rattle.sql_print.specs.Placeless as less
use Rattle.sql_print.proofs.SaidLaws.{said_test_is, expr_test}
use Rattle.sql_print.proofs.Sayable.{AllSayable, sayable, has_text}
use Rattle.sql_print.proofs.Again.{Says, Again, OneSays, cut, again_one, again_joined, again_made, again_as, again_maybe, again_many, again_absent, again_either, again_word, again_after, again_before, again_listed, word_again, said_maybe, said_many}
use Rattle.sql_print.proofs.Trip.{again_expr}

-- ---- tokens

same_refl : (kind : Kind) → same kind kind ≡ true
same_refl kind = eq-eqb _ _ refl

both_held : {A : Type 0} (b : Bool) (o : Option A) (y : A) → cond b o None ≡ Some y → (b ≡ true) × (o ≡ Some y)
both_held true o y h = (refl, h)
both_held false o y h = absurd cc

-- a token is its bare form at its place
name_value : (value : Value) (place : ℕ) (x : Name) → say.name_by value place ≡ Some x → (value ≡ v.Text x.text) × (has_text k.Name x.text ≡ true)
name_value v.Fixed place x h = absurd cc
name_value (v.Text []) place x h = absurd cc
name_value (v.Text (b ∷ bs)) place x h = let is : record { text = b ∷ bs; place = place } ≡ x = cc in (ap (λ (n : Name). v.Text n.text) is, ap (λ (n : Name). has_text k.Name n.text) (sym is))
name_value (v.Number n) place x h = absurd cc

name_says : (bs : List ℕ) (place : ℕ) → has_text k.Name bs ≡ true → say.name_by (v.Text bs) place ≡ Some (record { text = bs; place = place })
name_says [] place h = absurd cc
name_says (b ∷ bs) place h = refl

name_each : (t : Token) (x : Name) → say.name t ≡ Some x → (u : Token) → bare u ≡ (k.Name, v.Text x.text) → OneSays say.name less.name u x
name_each t x h u is =
    let a = both_held (same t.kind k.Name) (say.name_by t.value t.place) x h in
    let text = (name_value t.value t.place x a.1).1 in
    let kind : u.kind ≡ k.Name = ap (λ (b : Bare). b.0) is in
    let value : u.value ≡ v.Text x.text = ap (λ (b : Bare). b.1) is in
    let says : say.name u ≡ Some (record { text = x.text; place = u.place }) = rw (kind, value) (name_says x.text u.place text) in
    record { value = record { text = x.text; place = u.place }; says = says; same = refl }

name_spelled : (t : Token) (x : Name) → say.name t ≡ Some x → has_text k.Name x.text ≡ true
name_spelled t x h = let a = both_held (same t.kind k.Name) (say.name_by t.value t.place) x h in (name_value t.value t.place x a.1).1

name : Again (One say.name) said_name less.name
name = again_one say.name (λ n. (k.Name, v.Text n.text)) less.name name_each name_spelled

-- numbers of limits
limit_value : (value : Value) (n : ℕ) → say.limit_by value ≡ Some n → (value ≡ v.Number (pos n)) × (ltb n limit ≡ true)
limit_value v.Fixed n h = absurd cc
limit_value (v.Text bs) n h = absurd cc
limit_value (v.Number (pos m)) n h = let a = both_held (ltb m limit) (Some m) n h in let is : m ≡ n = some_is m n a.1 in (ap (λ x. v.Number (pos x)) is, subst (λ x. ltb x limit ≡ true) is a.0) where
  some_is : (x y : ℕ) → Some x ≡ Some y → x ≡ y
  some_is x y e = cc
limit_value (v.Number (negsuc m)) n h = absurd cc

number_each : (t : Token) (n : ℕ) → say.number t ≡ Some n → (u : Token) → bare u ≡ (k.Number, v.Number (pos n)) → OneSays say.number (λ (m : ℕ). m) u n
number_each t n h u is =
    let a = both_held (same t.kind k.Number) (say.limit_by t.value) n h in
    let below = (limit_value t.value n a.1).1 in
    let kind : u.kind ≡ k.Number = ap (λ (b : Bare). b.0) is in
    let value : u.value ≡ v.Number (pos n) = ap (λ (b : Bare). b.1) is in
    record { value = n; says = rw (kind, value) (rw below refl); same = refl }

number_spelled : (t : Token) (n : ℕ) → say.number t ≡ Some n → sayable (k.Number, v.Number (pos n)) ≡ true
number_spelled t n h = let a = both_held (same t.kind k.Number) (say.limit_by t.value) n h in (limit_value t.value n a.1).1

number : Again (One say.number) (λ n. (k.Number, v.Number (pos n)) ∷ []) (λ n. n)
number = again_one say.number (λ n. (k.Number, v.Number (pos n))) (λ n. n) number_each number_spelled

-- constants
constant_sayable : (kind : Kind) (value : Value) (x : Constant) → say.constant_by kind value ≡ Some x → sayable (constant_bare x) ≡ true
constant_sayable k.Null value x h = subst (λ z. sayable (constant_bare z) ≡ true) (some_is c.Null x h) refl where
  some_is : (x y : Constant) → Some x ≡ Some y → x ≡ y
  some_is x y e = cc
constant_sayable k.True value x h = subst (λ z. sayable (constant_bare z) ≡ true) (some_is (c.Bool true) x h) refl where
  some_is : (x y : Constant) → Some x ≡ Some y → x ≡ y
  some_is x y e = cc
constant_sayable k.False value x h = subst (λ z. sayable (constant_bare z) ≡ true) (some_is (c.Bool false) x h) refl where
  some_is : (x y : Constant) → Some x ≡ Some y → x ≡ y
  some_is x y e = cc
constant_sayable k.Number v.Fixed x h = absurd cc
constant_sayable k.Number (v.Text bs) x h = absurd cc
constant_sayable k.Number (v.Number n) x h = let a = both_held (say.in_range n) (Some (c.Int n)) x h in subst (λ z. sayable (constant_bare z) ≡ true) (some_is (c.Int n) x a.1) a.0 where
  some_is : (x y : Constant) → Some x ≡ Some y → x ≡ y
  some_is x y e = cc
constant_sayable k.Text v.Fixed x h = absurd cc
constant_sayable k.Text (v.Text bs) x h = subst (λ z. sayable (constant_bare z) ≡ true) (some_is (c.Text bs) x h) refl where
  some_is : (x y : Constant) → Some x ≡ Some y → x ≡ y
  some_is x y e = cc
constant_sayable k.Text (v.Number n) x h = absurd cc
constant_sayable _ value x h = absurd cc

-- a constant's token says it again
constant_says : (x : Constant) → sayable (constant_bare x) ≡ true → say.constant_by (constant_bare x).0 (constant_bare x).1 ≡ Some x
constant_says c.Null h = refl
constant_says (c.Bool true) h = refl
constant_says (c.Bool false) h = refl
constant_says (c.Int n) h = rw h refl
constant_says (c.Text bs) h = refl

constant_literal_is : (place : ℕ) (o : Option Constant) (x : Literal) → say.constant_literal place o ≡ Some x → o ≡ Some x.constant
constant_literal_is place None x h = absurd cc
constant_literal_is place (Some y) x h = ap Some (by (record { constant = y; place = place }) x h) where
  by : (a b : Literal) → Some a ≡ Some b → a.constant ≡ b.constant
  by a b e = let is : a ≡ b = cc in ap (λ (l : Literal). l.constant) is

literal_spelled : (t : Token) (x : Literal) → say.literal t ≡ Some x → sayable (constant_bare x.constant) ≡ true
literal_spelled t x h = constant_sayable t.kind t.value x.constant (constant_literal_is t.place (say.constant_by t.kind t.value) x h)

literal_each : (t : Token) (x : Literal) → say.literal t ≡ Some x → (u : Token) → bare u ≡ constant_bare x.constant → OneSays say.literal less.literal u x
literal_each t x h u is =
    let kind : u.kind ≡ (constant_bare x.constant).0 = ap (λ (b : Bare). b.0) is in
    let value : u.value ≡ (constant_bare x.constant).1 = ap (λ (b : Bare). b.1) is in
    let says : say.constant_by u.kind u.value ≡ Some x.constant = rw (kind, value) (constant_says x.constant (literal_spelled t x h)) in
    record { value = record { constant = x.constant; place = u.place }; says = ap (say.constant_literal u.place) says; same = refl }

literal : Again (One say.literal) said_literal less.literal
literal = again_one say.literal (λ l. constant_bare l.constant) less.literal literal_each literal_spelled

-- operators
op_says : (x : Op) → say.op_by (op_kind x) ≡ Some x
op_says op.Eq = refl
op_says op.Ne = refl
op_says op.Lt = refl
op_says op.Le = refl
op_says op.Gt = refl
op_says op.Ge = refl

op_spelled : (t : Token) (x : Op) → say.operator t ≡ Some x → sayable (op_kind x, v.Fixed) ≡ true
op_spelled t op.Eq h = refl
op_spelled t op.Ne h = refl
op_spelled t op.Lt h = refl
op_spelled t op.Le h = refl
op_spelled t op.Gt h = refl
op_spelled t op.Ge h = refl

op_each : (t : Token) (x : Op) → say.operator t ≡ Some x → (u : Token) → bare u ≡ (op_kind x, v.Fixed) → OneSays say.operator (λ (o : Op). o) u x
op_each t x h u is =
    let kind : u.kind ≡ op_kind x = ap (λ (b : Bare). b.0) is in
    record { value = x; says = rw kind (op_says x); same = refl }

operator : Again (One say.operator) (λ o. fixed (op_kind o)) (λ o. o)
operator = again_one say.operator (λ o. (op_kind o, v.Fixed)) (λ o. o) op_each op_spelled

-- ---- columns and tests

ref_said : (a : Name) (o : Option Name) → said_ref (say.ref_by a o) ≡ said_name a ++ said_maybe (again_after k.Dot refl name) o
ref_said a None = refl
ref_said a (Some b) = refl

ref_less : (a : Name) (o : Option Name) → less.ref (say.ref_by a o) ≡ say.ref_by (less.name a) (option_map less.name o)
ref_less a None = refl
ref_less a (Some b) = refl

ref : Again RefPhrase said_ref less.ref
ref = again_made say.ref said_ref less.ref say.ref (λ p. ref_said p.0 p.1) (λ p. ref_less p.0 p.1) (again_joined name (again_maybe (again_after k.Dot refl name)))

operand_again : Again OperandPhrase said_operand less.operand_of
operand_again = again_either
    (again_made operand.Ref said_operand less.operand_of operand.Ref (λ r. refl) (λ r. refl) ref)
    (again_made operand.Literal said_operand less.operand_of operand.Literal (λ l. refl) (λ l. refl) literal)

compares : Again ComparesPhrase said_predicate less.predicate_of
compares = again_made (λ p. predicate.Compares p.0 p.1) said_predicate less.predicate_of (λ p. predicate.Compares p.0 p.1) (λ p. refl) (λ p. refl) (again_joined operator operand_again)

listing : Again ListPhrase (λ ls. fixed k.In ++ (fixed k.Open ++ (said_literals ls ++ fixed k.Close))) (map less.literal)
listing = again_after k.In refl (again_after k.Open refl (again_before k.Close refl (again_made say.listed said_literals (map less.literal) say.listed (λ p. refl) (λ p. refl) (again_listed k.Comma refl literal))))

null_said : (n : Option (Unit {0})) → said_predicate (predicate.IsNull (say.is_there n)) ≡ fixed k.Is ++ (said_maybe (again_word k.Not refl) n ++ fixed k.Null)
null_said None = refl
null_said (Some u) = refl

null_less : (n : Option (Unit {0})) → less.predicate_of (predicate.IsNull (say.is_there n)) ≡ predicate.IsNull (say.is_there (option_map (λ (u : Unit {0}). u) n))
null_less None = refl
null_less (Some u) = refl

null : Again NullPhrase said_predicate less.predicate_of
null = again_made (λ n. predicate.IsNull (say.is_there n)) said_predicate less.predicate_of (λ n. predicate.IsNull (say.is_there n)) null_said null_less (again_after k.Is refl (again_before k.Null refl (again_maybe (again_word k.Not refl))))

asked_again : Again PredicatePhrase said_predicate less.predicate_of
asked_again = again_either compares (again_either
    (again_made (predicate.IsIn false) said_predicate less.predicate_of (predicate.IsIn false) (λ l. refl) (λ l. refl) listing)
    (again_either (again_made (predicate.IsIn true) said_predicate less.predicate_of (predicate.IsIn true) (λ l. refl) (λ l. refl) (again_after k.Not refl listing)) null))

test_said : (of : Operand) (o : Option Predicate) → (said (say.test_by of o)).in_and ≡ said_operand of ++ said_maybe asked_again o
test_said of None = ap (λ z. z.in_and) (said_test_is of predicate.Truth)
test_said of (Some q) = ap (λ z. z.in_and) (said_test_is of q)

test_less : (of : Operand) (o : Option Predicate) → less.expr (say.test_by of o) ≡ say.test_by (less.operand_of of) (option_map less.predicate_of o)
test_less of None = expr_test of predicate.Truth
test_less of (Some q) = expr_test of q

test : Again TestPhrase (λ x. (said x).in_and) less.expr
test = again_made say.test (λ x. (said x).in_and) less.expr say.test (λ p. test_said p.0 p.1) (λ p. test_less p.0 p.1) (again_joined operand_again (again_maybe asked_again))

condition : (n : ℕ) → Again (ExprPhrase (SinglePhrase n)) said_expr less.expr
condition n = again_expr test n

-- ---- items and sources

alias_said : (o : Option Name) → said_alias o ≡ said_maybe (again_after k.As refl name) o
alias_said None = refl
alias_said (Some n) = refl

item : Again ItemPhrase said_item less.item
item = again_made say.item said_item less.item say.item (λ p. ap (λ (ts : List Bare). said_ref p.0 ++ ts) (alias_said p.1)) (λ p. refl) (again_joined ref (again_maybe (again_after k.As refl name)))

shown_again : Again ShownPhrase said_shown less.shown_of
shown_again = again_either
    (again_made (λ u. shown.All) said_shown less.shown_of (λ u. shown.All) (λ u. refl) (λ u. refl) (again_word k.Star refl))
    (again_made (λ p. shown.Items (say.listed p)) said_shown less.shown_of (λ p. shown.Items (say.listed p)) (λ p. refl) (λ p. refl) (again_listed k.Comma refl item))

-- a source's name is written with `as`
alias_word : (ts : List Token) (n : Name) → AliasPhrase ts n → (us : List Token) → bares us ≡ fixed k.As ++ said_name n → Says AliasPhrase less.name us n
alias_word ts n m us h =
    let cut_at = cut us (fixed k.As) (said_name n) h in
    let a : One say.name m.is.back n = subst (λ (z : Name). One say.name m.is.back z) (sym m.says) m.is.second in
    let r = name.again m.is.back n a cut_at.back cut_at.second in
    record { value = r.value; is = record { inner = (Some tt, r.value); is = record { front = cut_at.front; back = cut_at.back; parts = cut_at.parts; first = word_again k.As cut_at.front cut_at.first; second = r.is }; says = refl }; same = r.same }

alias : Again AliasPhrase (λ n. fixed k.As ++ said_name n) less.name
alias = record { again = alias_word; fits = λ ts n m. (refl, name.fits m.is.back n (subst (λ (z : Name). One say.name m.is.back z) (sym m.says) m.is.second)) }

source_alias : (o : Option Name) → said_alias o ≡ said_maybe alias o
source_alias None = refl
source_alias (Some n) = refl

source : Again SourcePhrase said_source less.source
source = again_made say.source said_source less.source say.source (λ p. ap (λ (ts : List Bare). said_name p.0 ++ (fixed k.Dot ++ (said_name p.1.0 ++ ts))) (source_alias p.1.1)) (λ p. refl)
    (again_joined name (again_joined (again_after k.Dot refl name) (again_maybe alias)))

join : (n : ℕ) → Again (JoinPhrase (SinglePhrase n)) said_join less.join
join n = again_made say.join said_join less.join (λ (p : Unit {0} × (TableRef × Expr)). record { source = p.1.0; on = p.1.1 }) (λ p. refl) (λ p. refl)
    (again_joined (again_absent (Word k.Inner)) (again_after k.Join refl (again_joined source (again_after k.On refl (condition n)))))

joins_said : (n : ℕ) (js : List Join) → said_joins js ≡ said_many (join n) js
joins_said n [] = refl
joins_said n (j ∷ js) = ap (λ (ts : List Bare). said_join j ++ ts) (joins_said n js)

joins : (n : ℕ) → Again (Many (JoinPhrase (SinglePhrase n))) said_joins (map less.join)
joins n = again_as said_joins (map less.join) (λ js. js) (joins_said n) (λ js. refl) (again_many (join n))

-- ---- the end

where_said : (n : ℕ) (o : Option Expr) → said_where o ≡ said_maybe (again_after k.Where refl (condition n)) o
where_said n None = refl
where_said n (Some x) = refl

test_of : (n : ℕ) → Again (WherePhrase (SinglePhrase n)) said_where (option_map less.expr)
test_of n = again_as said_where (option_map less.expr) (λ o. o) (where_said n) (λ o. refl) (again_maybe (again_after k.Where refl (condition n)))

-- ascending is not written
abbrev Direction : Lang Bool
Direction = Either (Made (λ u. false) (Word k.Asc)) (Made (λ u. true) (Word k.Desc))

direction_by : (ts : List Token) (o : Option Bool) → Maybe Direction ts o → (us : List Token) → bares us ≡ said_direction (say.descends o) → Says (Maybe Direction) say.descends us o
direction_by ts None m [] h = record { value = None; is = refl; same = refl }
direction_by ts None m (u ∷ us) h = absurd cc
direction_by ts (Some false) m [] h = record { value = None; is = refl; same = refl }
direction_by ts (Some false) m (u ∷ us) h = absurd cc
direction_by ts (Some true) m us h = record { value = Some true; is = inr (record { inner = tt; is = word_again k.Desc us h; says = refl }); same = refl }

direction_fits : (ts : List Token) (o : Option Bool) → Maybe Direction ts o → AllSayable (said_direction (say.descends o))
direction_fits ts None m = tt
direction_fits ts (Some false) m = tt
direction_fits ts (Some true) m = (refl, tt)

direction : Again (Maybe Direction) (λ o. said_direction (say.descends o)) say.descends
direction = record { again = direction_by; fits = direction_fits }

key : Again KeyPhrase said_key less.key
key = again_made say.key said_key less.key (λ (p : Ref × Bool). record { of = p.0; descending = p.1 }) (λ p. refl) (λ p. refl) (again_joined ref direction)

keyed : Again {E = Key × List Key} (After k.Order (After k.By (Listed k.Comma KeyPhrase))) (λ p. fixed k.Order ++ (fixed k.By ++ said_keys (p.0 ∷ p.1))) (λ p. (less.key p.0, map less.key p.1))
keyed = again_after k.Order refl (again_after k.By refl (again_listed k.Comma refl key))

order_said : (o : Option (Key × List Key)) → said_order (say.order o) ≡ said_maybe keyed o
order_said None = refl
order_said (Some p) = refl

order_less : (o : Option (Key × List Key)) → map less.key (say.order o) ≡ say.order (option_map (λ (p : Key × List Key). (less.key p.0, map less.key p.1)) o)
order_less None = refl
order_less (Some p) = refl

order : Again OrderPhrase said_order (map less.key)
order = again_made say.order said_order (map less.key) say.order order_said order_less (again_maybe keyed)

limit_said : (o : Option ℕ) → said_limit o ≡ said_maybe (again_after k.Limit refl number) o
limit_said None = refl
limit_said (Some n) = refl

limit_less : (o : Option ℕ) → o ≡ option_map (λ (n : ℕ). n) o
limit_less None = refl
limit_less (Some n) = refl

limit_again : Again LimitPhrase said_limit (λ o. o)
limit_again = again_as said_limit (λ o. o) (λ o. o) limit_said limit_less (again_maybe (again_after k.Limit refl number))

-- ---- statements

abbrev Bared : Type 0
Bared = Shown × (TableRef × (List Join × (Option Expr × (List Key × (Option ℕ × Unit {0})))))

abbrev rebuilt : Bared → Statement
rebuilt p = record { shown = p.0; from = p.1.0; joins = p.1.1.0; test = p.1.1.1.0; order = p.1.1.1.1.0; limit = p.1.1.1.1.1.0 }

abbrev Parts : Type 0
Parts = Shown × (TableRef × (List Join × (Option Expr × (List Key × (Option ℕ × Option (Unit {0}))))))

statement_said : (p : Parts) → said_statement (say.statement p) ≡ fixed k.Select ++ (said_shown p.0 ++ ((fixed k.From ++ said_source p.1.0) ++ (said_joins p.1.1.0 ++ (said_where p.1.1.1.0 ++ (said_order p.1.1.1.1.0 ++ (said_limit p.1.1.1.1.1.0 ++ []))))))
statement_said p = ap (λ (ts : List Bare). fixed k.Select ++ (said_shown p.0 ++ (fixed k.From ++ (said_source p.1.0 ++ (said_joins p.1.1.0 ++ (said_where p.1.1.1.0 ++ (said_order p.1.1.1.1.0 ++ ts))))))) (sym (append-nil (said_limit p.1.1.1.1.1.0)))

pub statement_again : (n : ℕ) → Again (StatementPhrase n) said_statement less.statement
unfolding StatementPhrase
statement_again n = again_made say.statement said_statement less.statement rebuilt statement_said (λ p. refl)
    (again_after k.Select refl (again_joined shown_again (again_joined (again_after k.From refl source) (again_joined (joins n) (again_joined (test_of n) (again_joined order (again_joined limit_again (again_absent (Word k.Semi)))))))))
