-- A reader of less depth answers as one of more, unless it stops for the depth.
use Rattle.std.proofs.Common.{◌≡◌, ℕ, zero, suc, ◌≤◌, Bool, true, false, cond, List, [], ◌∷◌, length, inl, inr, Option, Some, None, Ok, Err, refl, arith}
use Rattle.sql_lex.specs.declared.token.Kind.{Kind}
use Rattle.sql_lex.specs.declared.token.Kind.TheVariants as k
use Rattle.sql_lex.specs.declared.token.Token.{Token}
use Rattle.sql_grammar.specs.declared.ast.Expr.{Expr}
use Rattle.sql_grammar.specs.declared.ast.Expr.TheVariants as e
use Rattle.sql_grammar.specs.declared.ast.TableRef.{TableRef}
use Rattle.sql_grammar.specs.declared.ast.Join.{Join}
use Rattle.sql_grammar.specs.declared.ast.Key.{Key}
use Rattle.sql_grammar.specs.Reading.{Outcome, Parser, same, next_in, then_at, made_at, maybe_at, either_at, turns_at, shut_at, ◌>>=◌}
use Rattle.sql_grammar.specs.Says as say
use Rattle.sql_grammar.specs.Parser.{word_at, after_at, before_at, more_at, listed_at, shown_at, test_at, both_at, expr_at, nested_at, single_at, where_at, source_at, inner_at, join_at, joinings, joins_at, order_at, limit_at, semi_at, statement_at}
use Rattle.sql_grammar.proofs.Sets.{split}

abbrev pub AgreesAt : {A : Type 0} → Outcome A → Outcome A → Type 0
AgreesAt (Ok a) y = y ≡ Ok a
AgreesAt (Err f) y = f.deep ≡ false → y ≡ Err f

abbrev pub Agrees : {A : Type 0} → Parser A → Parser A → Type 0
Agrees p q = (ts : List Token) → AgreesAt (p ts) (q ts)

itself : {A : Type 0} (r : Outcome A) → AgreesAt r r
itself (Ok a) = refl
itself (Err f) = λ d. refl

pub agrees_itself : {A : Type 0} (p : Parser A) → Agrees p p
agrees_itself p ts = itself (p ts)

agrees_bind : {A B : Type 0} (r s : Outcome A) (f g : A × List Token → Outcome B) → AgreesAt r s → ((x : A × List Token) → AgreesAt (f x) (g x)) → AgreesAt (r >>= f) (s >>= g)
agrees_bind (Ok x) s f g h each = rw h (each x)
agrees_bind (Err d) s f g h each = λ is. rw (h is) refl

agrees_made : {A B : Type 0} (f : A → B) (p q : Parser A) → Agrees p q → Agrees (made_at f p) (made_at f q)
agrees_made f p q h ts = agrees_bind (p ts) (q ts) (λ a. Ok (f a.0, a.1)) (λ a. Ok (f a.0, a.1)) (h ts) (λ a. refl)

agrees_then : {A B : Type 0} (p q : Parser A) (p' q' : Parser B) → Agrees p q → Agrees p' q' → Agrees (then_at p p') (then_at q q')
agrees_then p q p' q' h h' ts = agrees_bind (p ts) (q ts) (λ a. p' a.1 >>= λ b. Ok ((a.0, b.0), b.1)) (λ a. q' a.1 >>= λ b. Ok ((a.0, b.0), b.1)) (h ts)
    (λ a. agrees_bind (p' a.1) (q' a.1) (λ b. Ok ((a.0, b.0), b.1)) (λ b. Ok ((a.0, b.0), b.1)) (h' a.1) (λ b. refl))

agrees_cond : {A : Type 0} (b : Bool) (r s r' s' : Outcome A) → AgreesAt r s → AgreesAt r' s' → AgreesAt (cond b r r') (cond b s s')
agrees_cond true r s r' s' h h' = h
agrees_cond false r s r' s' h h' = h'

agrees_maybe : {A : Type 0} (ks : List Kind) (p q : Parser A) → Agrees p q → Agrees (maybe_at ks p) (maybe_at ks q)
agrees_maybe ks p q h ts = agrees_cond (next_in ks ts) (p ts >>= λ a. Ok (Some a.0, a.1)) (q ts >>= λ a. Ok (Some a.0, a.1)) (Ok (None, ts)) (Ok (None, ts))
    (agrees_bind (p ts) (q ts) (λ a. Ok (Some a.0, a.1)) (λ a. Ok (Some a.0, a.1)) (h ts) (λ a. refl)) refl

agrees_either : {A : Type 0} (ks : List Kind) (p q p' q' : Parser A) → Agrees p q → Agrees p' q' → Agrees (either_at ks p p') (either_at ks q q')
agrees_either ks p q p' q' h h' ts = agrees_cond (next_in ks ts) (p ts) (q ts) (p' ts) (q' ts) (h ts) (h' ts)

agrees_turns : {A : Type 0} (ks : List Kind) (p q : Parser A) → Agrees p q → (n : ℕ) → Agrees (turns_at ks p n) (turns_at ks q n)
unfolding turns_at
agrees_turns ks p q h zero ts = refl
agrees_turns ks p q h (suc n) ts = agrees_cond (next_in ks ts) (p ts >>= λ a. turns_at ks p n a.1 >>= λ b. Ok (a.0 ∷ b.0, b.1)) (q ts >>= λ a. turns_at ks q n a.1 >>= λ b. Ok (a.0 ∷ b.0, b.1)) (Ok ([], ts)) (Ok ([], ts))
    (agrees_bind (p ts) (q ts) (λ a. turns_at ks p n a.1 >>= λ b. Ok (a.0 ∷ b.0, b.1)) (λ a. turns_at ks q n a.1 >>= λ b. Ok (a.0 ∷ b.0, b.1)) (h ts)
    (λ a. agrees_bind (turns_at ks p n a.1) (turns_at ks q n a.1) (λ b. Ok (a.0 ∷ b.0, b.1)) (λ b. Ok (a.0 ∷ b.0, b.1)) (agrees_turns ks p q h n a.1) (λ b. refl)))
    refl

agrees_after : {A : Type 0} (kind : Kind) (p q : Parser A) → Agrees p q → Agrees (after_at kind p) (after_at kind q)
agrees_after kind p q h = agrees_made say.second (then_at (word_at kind) p) (then_at (word_at kind) q) (agrees_then (word_at kind) (word_at kind) p q (agrees_itself (word_at kind)) h)

agrees_before : {A : Type 0} (p q : Parser A) (kind : Kind) → Agrees p q → Agrees (before_at p kind) (before_at q kind)
agrees_before p q kind h = agrees_made say.first (then_at p (word_at kind)) (then_at q (word_at kind)) (agrees_then p q (word_at kind) (word_at kind) h (agrees_itself (word_at kind)))

agrees_more : {A : Type 0} (kind : Kind) (p q : Parser A) → Agrees p q → Agrees (more_at kind p) (more_at kind q)
unfolding more_at
agrees_more kind p q h ts = agrees_turns (kind ∷ []) (after_at kind p) (after_at kind q) (agrees_after kind p q h) (length ts) ts

agrees_listed : {A : Type 0} (kind : Kind) (p q : Parser A) → Agrees p q → Agrees (listed_at kind p) (listed_at kind q)
agrees_listed kind p q h = agrees_then p q (more_at kind p) (more_at kind q) h (agrees_more kind p q h)

-- ---- the grammar's

agrees_both : (p q : Parser Expr) → Agrees p q → Agrees (both_at p) (both_at q)
unfolding both_at
agrees_both p q h = agrees_made say.all (listed_at k.And p) (listed_at k.And q) (agrees_listed k.And p q h)

agrees_expr : (p q : Parser Expr) → Agrees p q → Agrees (expr_at p) (expr_at q)
unfolding expr_at
agrees_expr p q h = agrees_made say.any (listed_at k.Or (both_at p)) (listed_at k.Or (both_at q)) (agrees_listed k.Or (both_at p) (both_at q) (agrees_both p q h))

agrees_nested : (p q : Parser Expr) → Agrees p q → Agrees (nested_at p) (nested_at q)
unfolding nested_at
agrees_nested p q h = agrees_either (k.Not ∷ []) (made_at e.Not (after_at k.Not p)) (made_at e.Not (after_at k.Not q)) (either_at (k.Open ∷ []) (after_at k.Open (before_at (expr_at p) k.Close)) test_at) (either_at (k.Open ∷ []) (after_at k.Open (before_at (expr_at q) k.Close)) test_at)
    (agrees_made e.Not (after_at k.Not p) (after_at k.Not q) (agrees_after k.Not p q h))
    (agrees_either (k.Open ∷ []) (after_at k.Open (before_at (expr_at p) k.Close)) (after_at k.Open (before_at (expr_at q) k.Close)) test_at test_at
    (agrees_after k.Open (before_at (expr_at p) k.Close) (before_at (expr_at q) k.Close) (agrees_before (expr_at p) (expr_at q) k.Close (agrees_expr p q h)))
    (agrees_itself test_at))

-- what is neither not nor a parenthesis is a test
test_is : (p : Parser Expr) (ts : List Token) → next_in (k.Not ∷ k.Open ∷ []) ts ≡ false → nested_at p ts ≡ test_at ts
unfolding nested_at
test_is p [] h = refl
test_is p (t ∷ ts) h =
    elim (split (same k.Not t.kind)) [
      | inl x ↦ absurd (let z = rw x at h in cc)
      | inr x ↦ elim (split (same k.Open t.kind)) [
        | inl y ↦ absurd (let z = rw (x, y) at h in cc)
        | inr y ↦ rw (x, y) refl
      ]
    ]

agrees_lowest : (p : Parser Expr) → Agrees (shut_at (k.Not ∷ k.Open ∷ []) test_at) (nested_at p)
agrees_lowest p ts =
    elim (split (next_in (k.Not ∷ k.Open ∷ []) ts)) [
      | inl h ↦ rw h (λ (d : true ≡ false). absurd cc)
      | inr h ↦ rw (h, test_is p ts h) (itself (test_at ts))
    ]

pub agrees_single : (n m : ℕ) → n ≤ m → Agrees (single_at n) (single_at m)
unfolding single_at
agrees_single zero zero h = agrees_itself (shut_at (k.Not ∷ k.Open ∷ []) test_at)
agrees_single zero (suc m) h = agrees_lowest (single_at m)
agrees_single (suc n) zero h = absurd (omega arith)
agrees_single (suc n) (suc m) h = agrees_nested (single_at n) (single_at m) (agrees_single n m (omega arith))

agrees_where : (n m : ℕ) → n ≤ m → Agrees (where_at n) (where_at m)
unfolding where_at
agrees_where n m h = agrees_maybe (k.Where ∷ []) (after_at k.Where (expr_at (single_at n))) (after_at k.Where (expr_at (single_at m))) (agrees_after k.Where (expr_at (single_at n)) (expr_at (single_at m)) (agrees_expr (single_at n) (single_at m) (agrees_single n m h)))

agrees_join : (n m : ℕ) → n ≤ m → Agrees (join_at n) (join_at m)
unfolding join_at
agrees_join n m h =
    let after_on = agrees_after k.On (expr_at (single_at n)) (expr_at (single_at m)) (agrees_expr (single_at n) (single_at m) (agrees_single n m h)) in
    let after_join = agrees_after k.Join (then_at source_at (after_at k.On (expr_at (single_at n)))) (then_at source_at (after_at k.On (expr_at (single_at m))))
    (agrees_then source_at source_at (after_at k.On (expr_at (single_at n))) (after_at k.On (expr_at (single_at m))) (agrees_itself source_at) after_on) in
    agrees_made say.join (then_at inner_at (after_at k.Join (then_at source_at (after_at k.On (expr_at (single_at n)))))) (then_at inner_at (after_at k.Join (then_at source_at (after_at k.On (expr_at (single_at m))))))
    (agrees_then inner_at inner_at (after_at k.Join (then_at source_at (after_at k.On (expr_at (single_at n))))) (after_at k.Join (then_at source_at (after_at k.On (expr_at (single_at m))))) (agrees_itself inner_at) after_join)

agrees_joins : (n m : ℕ) → n ≤ m → Agrees (joins_at n) (joins_at m)
unfolding joins_at
agrees_joins n m h ts = agrees_turns joinings (join_at n) (join_at m) (agrees_join n m h) (length ts) ts

abbrev end_at : Parser (List Key × (Option ℕ × Option (Unit {0})))
end_at = then_at order_at (then_at limit_at semi_at)

abbrev tests_at : ℕ → Parser (List Join × (Option Expr × (List Key × (Option ℕ × Option (Unit {0})))))
tests_at n = then_at (joins_at n) (then_at (where_at n) end_at)

agrees_tests : (n m : ℕ) → n ≤ m → Agrees (tests_at n) (tests_at m)
agrees_tests n m h = agrees_then (joins_at n) (joins_at m) (then_at (where_at n) end_at) (then_at (where_at m) end_at) (agrees_joins n m h)
    (agrees_then (where_at n) (where_at m) end_at end_at (agrees_where n m h) (agrees_itself end_at))

abbrev from_at : Parser TableRef
from_at = after_at k.From source_at

pub agrees_statement : (n m : ℕ) → n ≤ m → Agrees (statement_at n) (statement_at m)
unfolding statement_at
agrees_statement n m h = agrees_made say.statement (after_at k.Select (then_at shown_at (then_at from_at (tests_at n)))) (after_at k.Select (then_at shown_at (then_at from_at (tests_at m))))
    (agrees_after k.Select (then_at shown_at (then_at from_at (tests_at n))) (then_at shown_at (then_at from_at (tests_at m)))
    (agrees_then shown_at shown_at (then_at from_at (tests_at n)) (then_at from_at (tests_at m)) (agrees_itself shown_at)
    (agrees_then from_at from_at (tests_at n) (tests_at m) (agrees_itself from_at) (agrees_tests n m h))))
