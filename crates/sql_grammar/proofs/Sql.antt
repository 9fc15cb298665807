-- The rules of the grammar.
use Rattle.std.proofs.Common.{◌≡◌, ℕ, pos, zero, suc, Bool, true, false, cond, List, [], ◌∷◌, ◌++◌, ◌⊎◌, inl, inr, Option, Some, None, refl, subst, eq-eqb}
use Rattle.sql_lex.specs.declared.token.Kind.{Kind}
use Rattle.sql_lex.specs.declared.token.Kind.TheVariants as k
use Rattle.sql_lex.specs.declared.token.Value.{Value}
use Rattle.sql_lex.specs.declared.token.Value.TheVariants as v
use Rattle.sql_lex.specs.declared.token.Token.{Token}
use Rattle.sql_grammar.specs.declared.ast.Name.{Name}
use Rattle.sql_grammar.specs.declared.ast.Ref.{Ref}
use Rattle.sql_grammar.specs.declared.ast.Constant.TheVariants as c
use Rattle.sql_grammar.specs.declared.ast.Literal.{Literal}
use Rattle.sql_grammar.specs.declared.ast.Operand.{Operand}
use Rattle.sql_grammar.specs.declared.ast.Operand.TheVariants as operands
use Rattle.sp_value.specs.declared.truth.Op.{Op}
use Rattle.sp_value.specs.declared.truth.Op.TheVariants as op
use Rattle.sql_grammar.specs.declared.ast.Predicate.{Predicate}
use Rattle.sql_grammar.specs.declared.ast.Predicate.TheVariants as asking
use Rattle.sql_grammar.specs.declared.ast.Expr.{Expr}
use Rattle.sql_grammar.specs.declared.ast.Expr.TheVariants as e
use Rattle.sql_grammar.specs.declared.ast.Item.{Item}
use Rattle.sql_grammar.specs.declared.ast.Shown.{Shown}
use Rattle.sql_grammar.specs.declared.ast.Shown.TheVariants as showing
use Rattle.sql_grammar.specs.declared.ast.TableRef.{TableRef}
use Rattle.sql_grammar.specs.declared.ast.Key.{Key}
use Rattle.sql_grammar.specs.Says as say
use Rattle.sql_grammar.specs.Language.{Lang, Viable, One, Maybe, Many, Made, Either}
use Rattle.sql_grammar.specs.Reading.{Parser, has, same, one_at}
use Rattle.sql_grammar.specs.Grammar.{Word, After, Before, RefPhrase, ItemPhrase, ShownPhrase, OperandPhrase, ComparesPhrase, ListPhrase, NullPhrase, PredicatePhrase, TestPhrase, BothPhrase, ExprPhrase, NestedPhrase, SinglePhrase, AliasPhrase, SourcePhrase, JoinPhrase, KeyPhrase, WherePhrase, OrderPhrase, LimitPhrase, StatementPhrase}
use Rattle.sql_grammar.specs.Parser.{word_at, name_at, literal_at, more_at, word_name_at, ref_at, item_at, shown_at, operand_at, ops, compares_at, list_at, null_at, predicate_at, askings, test_at, both_at, expr_at, nested_at, single_at, where_at, alias_at, source_at, inner_at, join_at, joinings, joins_at, direction_at, key_at, order_at, limit_at, semi_at, statement_at}
use Rattle.sql_grammar.proofs.Sets.{split, same_is, disjoint}
use Rattle.sql_grammar.proofs.Rules.{Rule}
use Rattle.sql_grammar.proofs.Laws.{Laws, named, laws_of}
use Rattle.sql_grammar.proofs.Basic.{one, made, shut}
use Rattle.sql_grammar.proofs.Then.{both}
use Rattle.sql_grammar.proofs.Choice.{maybe, either}
use Rattle.sql_grammar.proofs.Repeat.{many}

-- ---- tokens

same_refl : (kind : Kind) → same kind kind ≡ true
same_refl kind = eq-eqb _ _ refl

word_accepts : (kind : Kind) → say.word kind (record { kind = kind; value = v.Fixed; place = 0 }) ≡ Some tt
word_accepts kind = rw (same_refl kind) refl

same_sym : (a b : Kind) → same a b ≡ true → same b a ≡ true
same_sym a b h = subst (λ (z : Kind). same z a ≡ true) (same_is a b h) (same_refl a)

has_one : (kind : Kind) (t : Token) → same t.kind kind ≡ true → has (kind ∷ []) t.kind ≡ true
has_one kind t h = rw (same_sym t.kind kind h) refl

accepted_kind : {A : Type 0} (b : Bool) (o : Option A) (y : A) → cond b o None ≡ Some y → b ≡ true
accepted_kind true o y h = refl
accepted_kind false o y h = absurd cc

pub word_laws : (kind : Kind) → Laws (Word kind) (Word kind) (word_at kind) (kind ∷ []) [] false
word_laws kind = laws_of (one (say.word kind) (kind ∷ []) (record { kind = kind; value = v.Fixed; place = 0 }) tt (word_accepts kind) (λ t x h. has_one kind t (accepted_kind (same t.kind kind) (Some tt) x h))) (kind ∷ []) [] (rw (same_refl kind) refl) refl

abbrev word : Kind → Rule (Unit {0})
word kind = named (word_laws kind)

-- the name x
name_laws : Laws (One say.name) (One say.name) name_at (k.Name ∷ []) [] false
name_laws = laws_of (one say.name (k.Name ∷ []) (record { kind = k.Name; value = v.Text (120 ∷ []); place = 0 }) (record { text = 120 ∷ []; place = 0 }) refl (λ t x h. has_one k.Name t (accepted_kind (same t.kind k.Name) (say.name_by t.value t.place) x h))) _ _ refl refl

abbrev name : Rule Name
name = named name_laws

limit_number_laws : Laws (One say.number) (One say.number) (one_at say.number) (k.Number ∷ []) [] false
limit_number_laws = laws_of (one say.number (k.Number ∷ []) (record { kind = k.Number; value = v.Number (pos 0); place = 0 }) 0 refl (λ t x h. has_one k.Number t (accepted_kind (same t.kind k.Number) (say.limit_by t.value) x h))) _ _ refl refl

abbrev limit_number : Rule ℕ
limit_number = named limit_number_laws

abbrev literals : List Kind
literals = k.Null ∷ k.True ∷ k.False ∷ k.Number ∷ k.Text ∷ []

literal_kind : (kind : Kind) (value : Value) (place : ℕ) (x : Literal) → say.constant_literal place (say.constant_by kind value) ≡ Some x → has literals kind ≡ true
literal_kind k.Null value place x h = refl
literal_kind k.True value place x h = refl
literal_kind k.False value place x h = refl
literal_kind k.Number value place x h = refl
literal_kind k.Text value place x h = refl
literal_kind _ value place x h = absurd cc

pub literal_laws : Laws (One say.literal) (One say.literal) literal_at literals [] false
literal_laws = laws_of (one say.literal literals (record { kind = k.Null; value = v.Fixed; place = 0 }) (record { constant = c.Null; place = 0 }) refl (λ t x h. literal_kind t.kind t.value t.place x h)) _ _ refl refl

abbrev literal : Rule Literal
literal = named literal_laws

op_kind : (kind : Kind) (x : Op) → say.op_by kind ≡ Some x → has ops kind ≡ true
op_kind k.Equal x h = refl
op_kind k.NotEqual x h = refl
op_kind k.Less x h = refl
op_kind k.AtMost x h = refl
op_kind k.Greater x h = refl
op_kind k.AtLeast x h = refl
op_kind _ x h = absurd cc

op_laws : Laws (One say.operator) (One say.operator) (one_at say.operator) ops [] false
op_laws = laws_of (one say.operator ops (record { kind = k.Less; value = v.Fixed; place = 0 }) op.Lt refl (λ t x h. op_kind t.kind x h)) _ _ refl refl

abbrev operator : Rule Op
operator = named op_laws

-- ---- phrases

abbrev after : {A : Type 0} (kind : Kind) (p : Rule A) → Rule A
after kind p = made say.second (both (word kind) p refl)

abbrev before : {A : Type 0} (p : Rule A) (kind : Kind) → disjoint p.goes_on (kind ∷ []) ≡ true → Rule A
before p kind d = made say.first (both p (word kind) d)

word_name_laws : (kind : Kind) → Laws (Maybe (After kind (One say.name))) (Maybe (After kind (One say.name))) (word_name_at kind) (kind ∷ []) (kind ∷ []) true
unfolding word_name_at
word_name_laws kind = laws_of (maybe (after kind name) refl) (kind ∷ []) (kind ∷ []) (rw (same_refl kind) refl) (rw (same_refl kind) refl)

abbrev word_name : Kind → Rule (Option Name)
word_name kind = named (word_name_laws kind)

ref_laws : Laws RefPhrase RefPhrase ref_at (k.Name ∷ []) (k.Dot ∷ []) false
unfolding ref_at
ref_laws = laws_of (made say.ref (both name (word_name k.Dot) refl)) _ _ refl refl

abbrev ref : Rule Ref
ref = named ref_laws

pub item_laws : Laws ItemPhrase ItemPhrase item_at (k.Name ∷ []) (k.Dot ∷ k.As ∷ []) false
unfolding item_at
item_laws = laws_of (made say.item (both ref (word_name k.As) refl)) _ _ refl refl

abbrev item : Rule Item
item = named item_laws

-- phrase { word phrase }
abbrev list : {A : Type 0} (kind : Kind) (p : Rule A) → disjoint p.goes_on (kind ∷ []) ≡ true → disjoint (p.goes_on ++ cond p.empty [] []) (kind ∷ []) ≡ true → Rule (A × List A)
list kind p d more = both p (many (after kind p) refl more) d

shown_laws : Laws ShownPhrase ShownPhrase shown_at (k.Star ∷ k.Name ∷ []) (k.Dot ∷ k.As ∷ k.Comma ∷ []) false
unfolding shown_at more_at
shown_laws = laws_of (either (made (λ u. showing.All) (word k.Star)) (made (λ p. showing.Items (say.listed p)) (list k.Comma item refl refl)) refl refl refl) _ _ refl refl

abbrev shown : Rule Shown
shown = named shown_laws

operand_laws : Laws OperandPhrase OperandPhrase operand_at (k.Name ∷ literals) (k.Dot ∷ []) false
unfolding operand_at
operand_laws = laws_of (either (made operands.Ref ref) (made operands.Literal literal) refl refl refl) _ _ refl refl

abbrev operand : Rule Operand
operand = named operand_laws

compares_laws : Laws ComparesPhrase ComparesPhrase compares_at ops (k.Dot ∷ []) false
unfolding compares_at
compares_laws = laws_of (made (λ p. asking.Compares p.0 p.1) (both operator operand refl)) _ _ refl refl

abbrev compares : Rule Predicate
compares = named compares_laws

list_laws : Laws ListPhrase ListPhrase list_at (k.In ∷ []) [] false
unfolding list_at more_at
list_laws = laws_of (after k.In (after k.Open (before (made say.listed (list k.Comma literal refl refl)) k.Close refl))) _ _ refl refl

abbrev listing : Rule (List Literal)
listing = named list_laws

null_laws : Laws NullPhrase NullPhrase null_at (k.Is ∷ []) [] false
unfolding null_at
null_laws = laws_of (made (λ n. asking.IsNull (say.is_there n)) (after k.Is (before (maybe (word k.Not) refl) k.Null refl))) _ _ refl refl

abbrev null : Rule Predicate
null = named null_laws

predicate_laws : Laws PredicatePhrase PredicatePhrase predicate_at askings (k.Dot ∷ []) false
unfolding predicate_at
predicate_laws = laws_of (either compares (either (made (asking.IsIn false) listing) (either (made (asking.IsIn true) (after k.Not listing)) null refl refl refl) refl refl refl) refl refl refl) _ _ refl refl

abbrev predicate : Rule Predicate
predicate = named predicate_laws

abbrev test_goes_on : List Kind
test_goes_on = k.Dot ∷ askings

test_laws : Laws TestPhrase TestPhrase test_at (k.Name ∷ literals) test_goes_on false
unfolding test_at
test_laws = laws_of (made say.test (both operand (maybe predicate refl) refl)) _ _ refl refl

abbrev test : Rule Expr
test = named test_laws

-- ---- levels

abbrev single_begins : List Kind
single_begins = k.Not ∷ k.Open ∷ k.Name ∷ literals

abbrev both_goes_on : List Kind
both_goes_on = k.And ∷ test_goes_on

abbrev expr_goes_on : List Kind
expr_goes_on = k.Or ∷ both_goes_on

abbrev Single : Lang Expr → Lang Expr → Parser Expr → Type 0
Single L W read = Laws L W read single_begins test_goes_on false

module _ {L W : List Token → Expr → Type 0} {read : Parser Expr} (s : Single L W read) where
  pub both_laws : Laws (BothPhrase L) (BothPhrase W) (both_at read) single_begins both_goes_on false
  unfolding both_at more_at
  both_laws = laws_of (made say.all (list k.And (named s) refl refl)) _ _ refl refl

  pub expr_laws : Laws (ExprPhrase L) (ExprPhrase W) (expr_at read) single_begins expr_goes_on false
  unfolding expr_at more_at
  expr_laws = laws_of (made say.any (list k.Or (named both_laws) refl refl)) _ _ refl refl

  pub nested_laws : Single (NestedPhrase L) (NestedPhrase W) (nested_at read)
  unfolding nested_at
  nested_laws = laws_of (either (made e.Not (after k.Not (named s))) (either (after k.Open (before (named expr_laws) k.Close refl)) test refl refl refl) refl refl refl) _ _ refl refl

says_word : (kind : Kind) (t : Token) → same kind t.kind ≡ true → say.word kind t ≡ Some tt
says_word kind t h = rw (same_sym kind t.kind h) refl

word_phrase : (kind : Kind) (t : Token) → same kind t.kind ≡ true → Word kind (t ∷ []) tt
word_phrase kind t h = record { token = t; alone = refl; says = says_word kind t h }

after_phrase : {A : Type 0} (L : Lang A) (kind : Kind) (t : Token) (ts : List Token) (x : A) → same kind t.kind ≡ true → L ts x → After kind L (t ∷ ts) x
after_phrase L kind t ts x h a = record { inner = (tt, x); is = record { front = t ∷ []; back = ts; parts = refl; first = word_phrase kind t h; second = a }; says = refl }

abbrev close : Token
close = record { kind = k.Close; value = v.Fixed; place = 0 }

before_phrase : {A : Type 0} (L : Lang A) (ts : List Token) (x : A) → L ts x → Before L k.Close (ts ++ close ∷ []) x
before_phrase L ts x a = record { inner = (x, tt); is = record { front = ts; back = close ∷ []; parts = refl; first = a; second = word_phrase k.Close close refl }; says = refl }

deeper_not : (t : Token) → same k.Not t.kind ≡ true → Viable (NestedPhrase TestPhrase) (t ∷ [])
deeper_not t h = let a = test_laws.some in
    record { more = a.0; value = e.Not a.1; is = inl (record { inner = a.1; is = after_phrase TestPhrase k.Not t a.0 a.1 h a.2; says = refl }) }

test_single : Single TestPhrase TestPhrase test_at
test_single = laws_of test _ _ refl refl

deeper_open : (t : Token) → same k.Open t.kind ≡ true → Viable (NestedPhrase TestPhrase) (t ∷ [])
deeper_open t h = let a = (expr_laws test_single).some in
    record { more = a.0 ++ close ∷ []; value = a.1; is = inr (inl (after_phrase (Before (ExprPhrase TestPhrase) k.Close) k.Open t (a.0 ++ close ∷ []) a.1 h (before_phrase (ExprPhrase TestPhrase) a.0 a.1 a.2))) }

one_of_two : (t : Token) → has (k.Not ∷ k.Open ∷ []) t.kind ≡ true → (same k.Not t.kind ≡ true) ⊎ (same k.Open t.kind ≡ true)
one_of_two t h =
    elim (split (same k.Not t.kind)) [
      | inl x ↦ inl x
      | inr x ↦ elim (split (same k.Open t.kind)) [
        | inl y ↦ inr y
        | inr y ↦ absurd (let z = rw (x, y) at h in cc)
      ]
    ]

goes_deeper : (t : Token) → has (k.Not ∷ k.Open ∷ []) t.kind ≡ true → Viable (NestedPhrase TestPhrase) (t ∷ [])
goes_deeper t h = elim (one_of_two t h) [ inl x ↦ deeper_not t x | inr y ↦ deeper_open t y ]

lowest_laws : Single TestPhrase (NestedPhrase TestPhrase) (single_at 0)
unfolding single_at
lowest_laws = laws_of (shut (k.Not ∷ k.Open ∷ []) test (NestedPhrase TestPhrase) refl refl (λ ts x a. inr (inr a)) (λ ts v. record { more = v.more; value = v.value; is = inr (inr v.is) }) goes_deeper) _ _ refl refl

pub single_laws : (n : ℕ) → Single (SinglePhrase n) (SinglePhrase (suc n)) (single_at n)
unfolding single_at SinglePhrase
single_laws zero = lowest_laws
single_laws (suc n) = nested_laws (single_laws n)

-- ---- the statement

alias_laws : Laws (Maybe AliasPhrase) (Maybe AliasPhrase) alias_at (k.As ∷ k.Name ∷ []) (k.As ∷ k.Name ∷ []) true
unfolding alias_at
alias_laws = laws_of (maybe (made say.second (both (maybe (word k.As) refl) name refl)) refl) _ _ refl refl

pub source_laws : Laws SourcePhrase SourcePhrase source_at (k.Name ∷ []) (k.As ∷ k.Name ∷ []) false
unfolding source_at
source_laws = laws_of (made say.source (both name (both (after k.Dot name) (named alias_laws) refl) refl)) _ _ refl refl

abbrev source : Rule TableRef
source = named source_laws

inner_laws : Laws (Maybe (Word k.Inner)) (Maybe (Word k.Inner)) inner_at (k.Inner ∷ []) (k.Inner ∷ []) true
unfolding inner_at
inner_laws = laws_of (maybe (word k.Inner) refl) _ _ refl refl

pub join_laws : (n : ℕ) → Laws (JoinPhrase (SinglePhrase n)) (JoinPhrase (SinglePhrase (suc n))) (join_at n) joinings expr_goes_on false
unfolding join_at
join_laws n = laws_of (made say.join (both (named inner_laws) (after k.Join (both source (after k.On (named (expr_laws (single_laws n)))) refl)) refl)) _ _ refl refl

abbrev joins_goes_on : List Kind
joins_goes_on = k.Inner ∷ k.Join ∷ expr_goes_on

joins_laws : (n : ℕ) → Laws (Many (JoinPhrase (SinglePhrase n))) (Many (JoinPhrase (SinglePhrase (suc n)))) (joins_at n) joinings joins_goes_on true
unfolding joins_at
joins_laws n = laws_of (many (named (join_laws n)) refl refl) _ _ refl refl

where_laws : (n : ℕ) → Laws (WherePhrase (SinglePhrase n)) (WherePhrase (SinglePhrase (suc n))) (where_at n) (k.Where ∷ []) (k.Where ∷ expr_goes_on) true
unfolding where_at
where_laws n = laws_of (maybe (after k.Where (named (expr_laws (single_laws n)))) refl) _ _ refl refl

abbrev Direction : Lang Bool
Direction = Either (Made (λ u. false) (Word k.Asc)) (Made (λ u. true) (Word k.Desc))

direction_laws : Laws (Maybe Direction) (Maybe Direction) direction_at (k.Asc ∷ k.Desc ∷ []) (k.Asc ∷ k.Desc ∷ []) true
unfolding direction_at
direction_laws = laws_of (maybe (either (made (λ u. false) (word k.Asc)) (made (λ u. true) (word k.Desc)) refl refl refl) refl) _ _ refl refl

pub key_laws : Laws KeyPhrase KeyPhrase key_at (k.Name ∷ []) (k.Dot ∷ k.Asc ∷ k.Desc ∷ []) false
unfolding key_at
key_laws = laws_of (made say.key (both ref (named direction_laws) refl)) _ _ refl refl

abbrev key : Rule Key
key = named key_laws

order_laws : Laws OrderPhrase OrderPhrase order_at (k.Order ∷ []) (k.Order ∷ k.Comma ∷ k.Dot ∷ k.Asc ∷ k.Desc ∷ []) true
unfolding order_at more_at
order_laws = laws_of (made say.order (maybe (after k.Order (after k.By (list k.Comma key refl refl))) refl)) _ _ refl refl

limit_laws : Laws LimitPhrase LimitPhrase limit_at (k.Limit ∷ []) (k.Limit ∷ []) true
unfolding limit_at
limit_laws = laws_of (maybe (after k.Limit limit_number) refl) _ _ refl refl

semi_laws : Laws (Maybe (Word k.Semi)) (Maybe (Word k.Semi)) semi_at (k.Semi ∷ []) (k.Semi ∷ []) true
unfolding semi_at
semi_laws = laws_of (maybe (word k.Semi) refl) _ _ refl refl

abbrev statement_goes_on : List Kind
statement_goes_on = k.Semi ∷ k.Limit ∷ k.Order ∷ k.Comma ∷ k.Asc ∷ k.Desc ∷ k.Where ∷ k.As ∷ k.Name ∷ joins_goes_on

pub statement_laws : (n : ℕ) → Laws (StatementPhrase n) (StatementPhrase (suc n)) (statement_at n) (k.Select ∷ []) statement_goes_on false
unfolding statement_at StatementPhrase
statement_laws n =
    laws_of (made say.statement (after k.Select (both shown (both (after k.From source) (both (named (joins_laws n)) (both (named (where_laws n)) (both (named order_laws) (both (named limit_laws) (named semi_laws) refl) refl) refl) refl) refl) refl))) _ _ refl refl
