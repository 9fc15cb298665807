-- The grammar, read from left to right.
use Rattle.std.specs.Prelude.{ℕ, zero, suc, Bool, true, false, List, [], ◌∷◌, ◌++◌, Option, Result, Ok, Err}
use Rattle.sql_lex.specs.declared.token.Kind.{Kind}
use Rattle.sql_lex.specs.declared.token.Kind.TheVariants as k
use Rattle.sql_lex.specs.declared.token.Token.{Token}
use Rattle.sql_grammar.specs.declared.ast.Name.{Name}
use Rattle.sql_grammar.specs.declared.ast.Ref.{Ref}
use Rattle.sql_grammar.specs.declared.ast.Literal.{Literal}
use Rattle.sql_grammar.specs.declared.ast.Operand.{Operand}
use Rattle.sql_grammar.specs.declared.ast.Operand.TheVariants as operand
use Rattle.sql_grammar.specs.declared.ast.Predicate.{Predicate}
use Rattle.sql_grammar.specs.declared.ast.Predicate.TheVariants as predicate
use Rattle.sql_grammar.specs.declared.ast.Expr.{Expr}
use Rattle.sql_grammar.specs.declared.ast.Expr.TheVariants as e
use Rattle.sql_grammar.specs.declared.ast.Item.{Item}
use Rattle.sql_grammar.specs.declared.ast.Shown.{Shown}
use Rattle.sql_grammar.specs.declared.ast.Shown.TheVariants as shown
use Rattle.sql_grammar.specs.declared.ast.TableRef.{TableRef}
use Rattle.sql_grammar.specs.declared.ast.Join.{Join}
use Rattle.sql_grammar.specs.declared.ast.Key.{Key}
use Rattle.sql_grammar.specs.declared.ast.Statement.{Statement}
use Rattle.sql_grammar.specs.Reading.{Parser, Fault, wrong, one_at, then_at, made_at, maybe_at, either_at, many_at, shut_at, ◌>>=◌}
use Rattle.sql_grammar.specs.Says as say

abbrev pub word_at : Kind → Parser (Unit {0})
word_at kind = one_at (say.word kind)

abbrev pub name_at : Parser Name
name_at = one_at say.name

abbrev pub literal_at : Parser Literal
literal_at = one_at say.literal

abbrev pub after_at : {A : Type 0} → Kind → Parser A → Parser A
after_at kind p = made_at say.second (then_at (word_at kind) p)

abbrev pub before_at : {A : Type 0} → Parser A → Kind → Parser A
before_at p kind = made_at say.first (then_at p (word_at kind))

-- after the first member
unfoldable pub more_at : {A : Type 0} → Kind → Parser A → Parser (List A)
more_at kind p = many_at (kind ∷ []) (after_at kind p)

-- those so far, and those to come
abbrev pub with_front : {A : Type 0} → List A → Result (List A × List Token) Fault → Result (List A × List Token) Fault
with_front front r = r >>= λ b. Ok (front ++ b.0, b.1)

abbrev pub listed_at : {A : Type 0} → Kind → Parser A → Parser (A × List A)
listed_at kind p = then_at p (more_at kind p)

-- [ word name ]
unfoldable pub word_name_at : Kind → Parser (Option Name)
word_name_at kind = maybe_at (kind ∷ []) (after_at kind name_at)

unfoldable pub ref_at : Parser Ref
ref_at = made_at say.ref (then_at name_at (word_name_at k.Dot))

unfoldable pub item_at : Parser Item
item_at = made_at say.item (then_at ref_at (word_name_at k.As))

unfoldable pub items_at : Parser (List Item)
items_at = made_at say.listed (listed_at k.Comma item_at)

unfoldable pub shown_at : Parser Shown
shown_at = either_at (k.Star ∷ []) (made_at (λ u. shown.All) (word_at k.Star)) (made_at (λ p. shown.Items (say.listed p)) (listed_at k.Comma item_at))

unfoldable pub operand_at : Parser Operand
operand_at = either_at (k.Name ∷ []) (made_at operand.Ref ref_at) (made_at operand.Literal literal_at)

abbrev pub ops : List Kind
ops = k.Equal ∷ k.NotEqual ∷ k.Less ∷ k.AtMost ∷ k.Greater ∷ k.AtLeast ∷ []

unfoldable pub compares_at : Parser Predicate
compares_at = made_at (λ p. predicate.Compares p.0 p.1) (then_at (one_at say.operator) operand_at)

unfoldable pub list_at : Parser (List Literal)
list_at = after_at k.In (after_at k.Open (before_at (made_at say.listed (listed_at k.Comma literal_at)) k.Close))

unfoldable pub null_at : Parser Predicate
null_at = made_at (λ n. predicate.IsNull (say.is_there n)) (after_at k.Is (before_at (maybe_at (k.Not ∷ []) (word_at k.Not)) k.Null))

unfoldable pub predicate_at : Parser Predicate
predicate_at = either_at ops compares_at (either_at (k.In ∷ []) (made_at (predicate.IsIn false) list_at) (either_at (k.Not ∷ []) (made_at (predicate.IsIn true) (after_at k.Not list_at)) null_at))

abbrev pub askings : List Kind
askings = k.Equal ∷ k.NotEqual ∷ k.Less ∷ k.AtMost ∷ k.Greater ∷ k.AtLeast ∷ k.In ∷ k.Not ∷ k.Is ∷ []

unfoldable pub test_at : Parser Expr
test_at = made_at say.test (then_at operand_at (maybe_at askings predicate_at))

unfoldable pub both_at : Parser Expr → Parser Expr
both_at single = made_at say.all (listed_at k.And single)

unfoldable pub expr_at : Parser Expr → Parser Expr
expr_at single = made_at say.any (listed_at k.Or (both_at single))

unfoldable pub nested_at : Parser Expr → Parser Expr
nested_at single = either_at (k.Not ∷ []) (made_at e.Not (after_at k.Not single)) (either_at (k.Open ∷ []) (after_at k.Open (before_at (expr_at single) k.Close)) test_at)

unfoldable pub single_at : ℕ → Parser Expr
single_at zero = shut_at (k.Not ∷ k.Open ∷ []) test_at
single_at (suc n) = nested_at (single_at n)

unfoldable pub where_at : ℕ → Parser (Option Expr)
where_at n = maybe_at (k.Where ∷ []) (after_at k.Where (expr_at (single_at n)))

unfoldable pub alias_at : Parser (Option Name)
alias_at = maybe_at (k.As ∷ k.Name ∷ []) (made_at say.second (then_at (maybe_at (k.As ∷ []) (word_at k.As)) name_at))

unfoldable pub source_at : Parser TableRef
source_at = made_at say.source (then_at name_at (then_at (after_at k.Dot name_at) alias_at))

unfoldable pub inner_at : Parser (Option (Unit {0}))
inner_at = maybe_at (k.Inner ∷ []) (word_at k.Inner)

unfoldable pub join_at : ℕ → Parser Join
join_at n = made_at say.join (then_at inner_at (after_at k.Join (then_at source_at (after_at k.On (expr_at (single_at n))))))

abbrev pub joinings : List Kind
joinings = k.Inner ∷ k.Join ∷ []

unfoldable pub joins_at : ℕ → Parser (List Join)
joins_at n = many_at joinings (join_at n)

unfoldable pub direction_at : Parser (Option Bool)
direction_at = maybe_at (k.Asc ∷ k.Desc ∷ []) (either_at (k.Asc ∷ []) (made_at (λ u. false) (word_at k.Asc)) (made_at (λ u. true) (word_at k.Desc)))

unfoldable pub key_at : Parser Key
key_at = made_at say.key (then_at ref_at direction_at)

unfoldable pub order_at : Parser (List Key)
order_at = made_at say.order (maybe_at (k.Order ∷ []) (after_at k.Order (after_at k.By (listed_at k.Comma key_at))))

unfoldable pub limit_at : Parser (Option ℕ)
limit_at = maybe_at (k.Limit ∷ []) (after_at k.Limit (one_at say.number))

unfoldable pub semi_at : Parser (Option (Unit {0}))
semi_at = maybe_at (k.Semi ∷ []) (word_at k.Semi)

unfoldable pub statement_at : ℕ → Parser Statement
statement_at n =
    made_at say.statement (after_at k.Select (then_at shown_at (then_at (after_at k.From source_at) (then_at (joins_at n)
    (then_at (where_at n) (then_at order_at (then_at limit_at semi_at)))))))

-- all of the tokens
abbrev pub ended : {A : Type 0} → A → List Token → Result A Fault
ended x [] = Ok x
ended x (t ∷ ts) = Err (wrong (t ∷ ts))

abbrev pub ended_by : {A : Type 0} → Result (A × List Token) Fault → Result A Fault
ended_by (Ok a) = ended a.0 a.1
ended_by (Err f) = Err f

abbrev pub whole : {A : Type 0} → Parser A → List Token → Result A Fault
whole p ts = ended_by (p ts)
