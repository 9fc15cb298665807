-- The grammar. { } is Many, [ ] is Maybe, | is Either, one after the other is Joined; Made says what the phrase says.
use Rattle.std.specs.Prelude.{ℕ, zero, suc, true, false, List, Option}
use Rattle.sql_lex.specs.declared.token.Kind.{Kind}
use Rattle.sql_lex.specs.declared.token.Kind.TheVariants as k
use Rattle.sql_grammar.specs.declared.ast.Name.{Name}
use Rattle.sql_grammar.specs.declared.ast.Ref.{Ref}
use Rattle.sql_grammar.specs.declared.ast.Literal.{Literal}
use Rattle.sql_grammar.specs.declared.ast.Operand.{Operand}
use Rattle.sql_grammar.specs.declared.ast.Operand.TheVariants as operand
use Rattle.sql_grammar.specs.declared.ast.Predicate.{Predicate}
use Rattle.sql_grammar.specs.declared.ast.Predicate.TheVariants as predicate
use Rattle.sql_grammar.specs.declared.ast.Expr.{Expr}
use Rattle.sql_grammar.specs.declared.ast.Expr.TheVariants as e
use Rattle.sql_grammar.specs.declared.ast.Item.{Item}
use Rattle.sql_grammar.specs.declared.ast.Shown.{Shown}
use Rattle.sql_grammar.specs.declared.ast.Shown.TheVariants as shown
use Rattle.sql_grammar.specs.declared.ast.TableRef.{TableRef}
use Rattle.sql_grammar.specs.declared.ast.Join.{Join}
use Rattle.sql_grammar.specs.declared.ast.Key.{Key}
use Rattle.sql_grammar.specs.declared.ast.Statement.{Statement}
use Rattle.sql_grammar.specs.Language.{Lang, One, Joined, Made, Maybe, Many, Either}
use Rattle.sql_grammar.specs.Says as say

abbrev pub Word : Kind → Lang (Unit {0})
Word kind = One (say.word kind)

-- a word, and then a phrase
abbrev pub After : {A : Type 0} → Kind → Lang A → Lang A
After kind L = Made say.second (Joined (Word kind) L)

-- a phrase, and then a word
abbrev pub Before : {A : Type 0} → Lang A → Kind → Lang A
Before L kind = Made say.first (Joined L (Word kind))

-- phrase { word phrase }
abbrev pub Listed : {A : Type 0} → Kind → Lang A → Lang (A × List A)
Listed kind L = Joined L (Many (After kind L))

-- ref = name [ . name ]
abbrev pub RefPhrase : Lang Ref
RefPhrase = Made say.ref (Joined (One say.name) (Maybe (After k.Dot (One say.name))))

-- item = ref [ as name ]
abbrev pub ItemPhrase : Lang Item
ItemPhrase = Made say.item (Joined RefPhrase (Maybe (After k.As (One say.name))))

-- items = * | item { , item }
abbrev pub ShownPhrase : Lang Shown
ShownPhrase = Either (Made (λ u. shown.All) (Word k.Star)) (Made (λ p. shown.Items (say.listed p)) (Listed k.Comma ItemPhrase))

-- operand = ref | literal
abbrev pub OperandPhrase : Lang Operand
OperandPhrase = Either (Made operand.Ref RefPhrase) (Made operand.Literal (One say.literal))

-- op operand
abbrev pub ComparesPhrase : Lang Predicate
ComparesPhrase = Made (λ p. predicate.Compares p.0 p.1) (Joined (One say.operator) OperandPhrase)

-- in ( literal { , literal } )
abbrev pub ListPhrase : Lang (List Literal)
ListPhrase = After k.In (After k.Open (Before (Made say.listed (Listed k.Comma (One say.literal))) k.Close))

-- is [ not ] null
abbrev pub NullPhrase : Lang Predicate
NullPhrase = Made (λ n. predicate.IsNull (say.is_there n)) (After k.Is (Before (Maybe (Word k.Not)) k.Null))

-- op operand | in list | not in list | is [ not ] null
abbrev pub PredicatePhrase : Lang Predicate
PredicatePhrase = Either ComparesPhrase (Either (Made (predicate.IsIn false) ListPhrase) (Either (Made (predicate.IsIn true) (After k.Not ListPhrase)) NullPhrase))

-- test = operand [ predicate ]
abbrev pub TestPhrase : Lang Expr
TestPhrase = Made say.test (Joined OperandPhrase (Maybe PredicatePhrase))

-- both = single { and single }
abbrev pub BothPhrase : Lang Expr → Lang Expr
BothPhrase Single = Made say.all (Listed k.And Single)

-- expr = both { or both }
abbrev pub ExprPhrase : Lang Expr → Lang Expr
ExprPhrase Single = Made say.any (Listed k.Or (BothPhrase Single))

-- not single | ( expr ) | test
abbrev pub NestedPhrase : Lang Expr → Lang Expr
NestedPhrase Single = Either (Made e.Not (After k.Not Single)) (Either (After k.Open (Before (ExprPhrase Single) k.Close)) TestPhrase)

-- single, with so many open parentheses and unfinished nots at most
unfoldable pub SinglePhrase : ℕ → Lang Expr
SinglePhrase zero = TestPhrase
SinglePhrase (suc n) = NestedPhrase (SinglePhrase n)

-- [as] name
abbrev pub AliasPhrase : Lang Name
AliasPhrase = Made say.second (Joined (Maybe (Word k.As)) (One say.name))

-- source = name . name [ [as] name ]
abbrev pub SourcePhrase : Lang TableRef
SourcePhrase = Made say.source (Joined (One say.name) (Joined (After k.Dot (One say.name)) (Maybe AliasPhrase)))

-- [inner] join source on expr
abbrev pub JoinPhrase : Lang Expr → Lang Join
JoinPhrase Single = Made say.join (Joined (Maybe (Word k.Inner)) (After k.Join (Joined SourcePhrase (After k.On (ExprPhrase Single)))))

-- key = ref [ asc | desc ]
abbrev pub KeyPhrase : Lang Key
KeyPhrase = Made say.key (Joined RefPhrase (Maybe (Either (Made (λ u. false) (Word k.Asc)) (Made (λ u. true) (Word k.Desc)))))

-- [ where expr ]
abbrev pub WherePhrase : Lang Expr → Lang (Option Expr)
WherePhrase Single = Maybe (After k.Where (ExprPhrase Single))

-- [ order by key { , key } ]
abbrev pub OrderPhrase : Lang (List Key)
OrderPhrase = Made say.order (Maybe (After k.Order (After k.By (Listed k.Comma KeyPhrase))))

-- [ limit number ]
abbrev pub LimitPhrase : Lang (Option ℕ)
LimitPhrase = Maybe (After k.Limit (One say.number))

-- statement = select items from source { [inner] join source on expr } [ where expr ] [ order by key { , key } ] [ limit number ] [ ; ]
unfoldable pub StatementPhrase : ℕ → Lang Statement
StatementPhrase n =
    Made say.statement (After k.Select (Joined ShownPhrase (Joined (After k.From SourcePhrase) (Joined (Many (JoinPhrase (SinglePhrase n)))
    (Joined (WherePhrase (SinglePhrase n)) (Joined OrderPhrase (Joined LimitPhrase (Maybe (Word k.Semi)))))))))
