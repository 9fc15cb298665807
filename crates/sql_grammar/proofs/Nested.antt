-- Lists of ands and ors, and the level below.
use Rattle.std.proofs.Common.{◌≡◌, ℕ, zero, suc, ◌-◌, ◌<◌, true, false, List, [], ◌∷◌, Ok, Err, refl, ap, arith}
use Rattle.sql_lex.specs.declared.token.Kind.TheVariants as k
use Rattle.sql_lex.specs.declared.token.Token.{Token}
use Rattle.sql_grammar.specs.declared.ast.Expr.{Expr}
use Rattle.sql_grammar.specs.declared.ast.Expr.TheVariants as e
use Rattle.sql_grammar.specs.declared.stop.Stop.{Stop}
use Rattle.sql_grammar.specs.Reading.{Outcome, Parser, next_in, many_at}
use Rattle.sql_grammar.specs.Says as say
use Rattle.sql_grammar.specs.Gives.{Fails}
use Rattle.sql_grammar.specs.Parser.{more_at, both_at, expr_at, nested_at, single_at, with_front, join_at, joins_at, joinings}
use Rattle.sql_grammar.proofs.Loops.{Shrinks, shrinks, gathered_one, gathers, first_stops, gathered_stops}
use Rattle.sql_grammar.proofs.Sql.{single_laws, both_laws, join_laws}

pub single_down : (n : ℕ) → 0 < n → single_at n ≡ nested_at (single_at (n - 1))
unfolding single_at
single_down zero h = absurd (omega arith)
single_down (suc n) h = ap (λ m. nested_at (single_at m)) (omega arith)

pub single_shrinks : (n : ℕ) → Shrinks (single_at n)
single_shrinks n = shrinks (single_laws n)

pub both_shrinks : (n : ℕ) → Shrinks (both_at (single_at n))
both_shrinks n = shrinks (both_laws (single_laws n))

module _ (p : Parser Expr) (s : Shrinks p) where
  pub both_one : (ts rest : List Token) (x : Expr) → p ts ≡ Ok (x, rest) → next_in (k.And ∷ []) rest ≡ false → both_at p ts ≡ Ok (x, rest)
  unfolding both_at
  both_one ts rest x h next = gathered_one say.all k.And p s ts rest x h next

  pub both_list : (ts rest left : List Token) (x : Expr) (found : List Expr) → p ts ≡ Ok (x, rest) → next_in (k.And ∷ []) rest ≡ true → with_front (x ∷ []) (more_at k.And p rest) ≡ Ok (found, left) → both_at p ts ≡ Ok (e.And found, left)
  unfolding both_at
  both_list ts rest left x found h next g = gathers say.all e.And (λ a b more. refl) k.And p ts rest left x found h next g

  pub both_stops : (ts : List Token) (d : Stop) → Fails d (p ts) → Fails d (both_at p ts)
  unfolding both_at
  both_stops ts d h = first_stops say.all k.And p ts d h

  pub both_stops_later : (ts rest : List Token) (x : Expr) (d : Stop) → p ts ≡ Ok (x, rest) → Fails d (with_front (x ∷ []) (more_at k.And p rest)) → Fails d (both_at p ts)
  unfolding both_at
  both_stops_later ts rest x d h g = gathered_stops say.all k.And p ts rest x d h g

module _ (p : Parser Expr) (s : Shrinks (both_at p)) where
  pub expr_one : (ts rest : List Token) (x : Expr) → both_at p ts ≡ Ok (x, rest) → next_in (k.Or ∷ []) rest ≡ false → expr_at p ts ≡ Ok (x, rest)
  unfolding expr_at
  expr_one ts rest x h next = gathered_one say.any k.Or (both_at p) s ts rest x h next

  pub expr_list : (ts rest left : List Token) (x : Expr) (found : List Expr) → both_at p ts ≡ Ok (x, rest) → next_in (k.Or ∷ []) rest ≡ true → with_front (x ∷ []) (more_at k.Or (both_at p) rest) ≡ Ok (found, left) → expr_at p ts ≡ Ok (e.Or found, left)
  unfolding expr_at
  expr_list ts rest left x found h next g = gathers say.any e.Or (λ a b more. refl) k.Or (both_at p) ts rest left x found h next g

  pub expr_stops : (ts : List Token) (d : Stop) → Fails d (both_at p ts) → Fails d (expr_at p ts)
  unfolding expr_at
  expr_stops ts d h = first_stops say.any k.Or (both_at p) ts d h

  pub expr_stops_later : (ts rest : List Token) (x : Expr) (d : Stop) → both_at p ts ≡ Ok (x, rest) → Fails d (with_front (x ∷ []) (more_at k.Or (both_at p) rest)) → Fails d (expr_at p ts)
  unfolding expr_at
  expr_stops_later ts rest x d h g = gathered_stops say.any k.Or (both_at p) ts rest x d h g

-- ---- joins

with_nothing : {A : Type 0} (r : Outcome (List A)) → with_front [] r ≡ r
with_nothing (Ok b) = refl
with_nothing (Err f) = refl

pub joins_is : (n : ℕ) (ts : List Token) → with_front [] (many_at joinings (join_at n) ts) ≡ joins_at n ts
unfolding joins_at
joins_is n ts = with_nothing (many_at joinings (join_at n) ts)

pub join_shrinks : (n : ℕ) → Shrinks (join_at n)
join_shrinks n = shrinks (join_laws n)
