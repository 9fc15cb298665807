-- { word phrase }, a turn at a time.
use Rattle.std.proofs.Common.{◌≡◌, ℕ, zero, suc, ◌<◌, ◌≤◌, true, false, cond, List, [], ◌∷◌, ◌++◌, length, Ok, Err, refl, sym, ap, subst, ◌∙◌, append_assoc, append-nil, arith}
use Rattle.sql_lex.specs.declared.token.Kind.{Kind}
use Rattle.sql_lex.specs.declared.token.Token.{Token}
use Rattle.sql_grammar.specs.Reading.{Fault, Outcome, Parser, next_in, made_at, turns_at, many_at, ◌>>=◌}
use Rattle.sql_grammar.specs.Parser.{word_at, after_at, more_at, listed_at, with_front}
use Rattle.sql_grammar.proofs.Sets.{bind_ok, ok_is}
use Rattle.sql_grammar.proofs.Repeat.{longer}
use Rattle.sql_grammar.specs.declared.stop.Stop.{Stop}
use Rattle.sql_grammar.specs.declared.stop.Stop.TheVariants as stop
use Rattle.sql_grammar.specs.Gives.{Fails}
use Rattle.sql_grammar.proofs.Laws.{Laws}
use Rattle.sql_grammar.proofs.Sql.{word_laws}

-- a reader that takes a token at least
abbrev pub Shrinks : {A : Type 0} → Parser A → Type 0
Shrinks {A = A} p = (ts : List Token) (x : A) (rest : List Token) → p ts ≡ Ok (x, rest) → length rest < length ts

pub shrinks : {A : Type 0} {L W : List Token → A → Type 0} {read : Parser A} {B G : List Kind} → Laws L W read B G false → Shrinks read
shrinks {L = L} l ts x rest e =
    let t = l.taken ts x rest e in
    let filled : t.front ≡ [] → ⊥ = (λ h. let a : L [] x = subst (λ us. L us x) h t.is in let f = l.filled x a in cc) in
    let lt = longer t.front rest filled in
    let same = ap length t.parts in
    omega arith

nothing_left : {A : Type 0} (ks : List Kind) (p : Parser A) (n : ℕ) → turns_at ks p n [] ≡ Ok ([], [])
unfolding turns_at
nothing_left ks p zero = refl
nothing_left ks p (suc n) = refl

same_turn : {A : Type 0} (ks : List Kind) (p : Parser A) (n m : ℕ) (r : Outcome A) → ((x : A) (mid : List Token) → r ≡ Ok (x, mid) → turns_at ks p n mid ≡ turns_at ks p m mid) → (r >>= λ a. turns_at ks p n a.1 >>= λ b. Ok (a.0 ∷ b.0, b.1)) ≡ (r >>= λ a. turns_at ks p m a.1 >>= λ b. Ok (a.0 ∷ b.0, b.1))
same_turn ks p n m (Ok a) h = ap (λ r. r >>= λ b. Ok (a.0 ∷ b.0, b.1)) (h a.0 a.1 refl)
same_turn ks p n m (Err f) h = refl

-- fuel that is enough is enough
enough : {A : Type 0} (ks : List Kind) (p : Parser A) → Shrinks p → (n m : ℕ) (ts : List Token) → length ts ≤ n → length ts ≤ m → turns_at ks p n ts ≡ turns_at ks p m ts
unfolding turns_at
enough ks p s n m [] h g = nothing_left ks p n ∙ sym (nothing_left ks p m)
enough ks p s zero m (t ∷ ts) h g = absurd (omega arith)
enough ks p s (suc n) zero (t ∷ ts) h g = absurd (omega arith)
enough ks p s (suc n) (suc m) (t ∷ ts) h g =
    ap (λ r. cond (next_in ks (t ∷ ts)) r (Ok ([], t ∷ ts)))
    (same_turn ks p n m (p (t ∷ ts)) (λ x mid e. let lt = s (t ∷ ts) x mid e in enough ks p s n m mid (omega arith) (omega arith)))

goes_by : {A : Type 0} (ks : List Kind) (p : Parser A) → Shrinks p → (n : ℕ) (ts mid : List Token) (x : A) → length ts ≤ n → next_in ks ts ≡ true → p ts ≡ Ok (x, mid) → turns_at ks p n ts ≡ (many_at ks p mid >>= λ b. Ok (x ∷ b.0, b.1))
unfolding turns_at
goes_by ks p s zero [] mid x h next e = absurd cc
goes_by ks p s zero (t ∷ ts) mid x h next e = absurd (omega arith)
goes_by ks p s (suc n) ts mid x h next e =
    let lt = s ts x mid e in
    rw (next, e) (ap (λ r. r >>= λ b. Ok (x ∷ b.0, b.1)) (enough ks p s n (length mid) mid (omega arith) (omega arith)))

fails_by : {A : Type 0} (ks : List Kind) (p : Parser A) (n : ℕ) (ts : List Token) (f : Fault) → length ts ≤ n → next_in ks ts ≡ true → p ts ≡ Err f → turns_at ks p n ts ≡ Err f
unfolding turns_at
fails_by ks p zero [] f h next e = absurd cc
fails_by ks p zero (t ∷ ts) f h next e = absurd (omega arith)
fails_by ks p (suc n) ts f h next e = rw (next, e) refl

ends_by : {A : Type 0} (ks : List Kind) (p : Parser A) (n : ℕ) (ts : List Token) → next_in ks ts ≡ false → turns_at ks p n ts ≡ Ok ([], ts)
unfolding turns_at
ends_by ks p zero ts next = refl
ends_by ks p (suc n) ts next = rw next refl

after_ok : {A : Type 0} (kind : Kind) (p : Parser A) (ts mid rest : List Token) (u : Unit {0}) (x : A) → word_at kind ts ≡ Ok (u, mid) → p mid ≡ Ok (x, rest) → after_at kind p ts ≡ Ok (x, rest)
after_ok kind p ts mid rest u x e f = rw (e, f) refl

after_word : {A : Type 0} (kind : Kind) (p : Parser A) (ts : List Token) (f : Fault) → word_at kind ts ≡ Err f → after_at kind p ts ≡ Err f
after_word kind p ts f e = rw e refl

after_phrase : {A : Type 0} (kind : Kind) (p : Parser A) (ts mid : List Token) (u : Unit {0}) (f : Fault) → word_at kind ts ≡ Ok (u, mid) → p mid ≡ Err f → after_at kind p ts ≡ Err f
after_phrase kind p ts mid u f e g = rw (e, g) refl

rest_length : {A : Type 0} (r : Outcome A) (x y : A) (us vs : List Token) → r ≡ Ok (x, us) → r ≡ Ok (y, vs) → length us ≡ length vs
rest_length r x y us vs e f = let a : _ × List Token = (x, us) in let b : _ × List Token = (y, vs) in ap (λ p. length p.1) (ok_is a b (sym e ∙ f))

-- a phrase that takes a token, after a word that takes one
shrinks_after : {A : Type 0} (kind : Kind) (p : Parser A) → Shrinks p → Shrinks (after_at kind p)
shrinks_after kind p s ts x rest e = by_word (word_at kind ts) refl where
  by_phrase : (u : Unit {0}) (mid : List Token) → word_at kind ts ≡ Ok (u, mid) → (r : Outcome _) → p mid ≡ r → length rest < length ts
  by_phrase u mid e1 (Ok (y, left)) e2 =
      let one = shrinks (word_laws kind) ts u mid e1 in
      let two = s mid y left e2 in
      let f = after_ok kind p ts mid left u y e1 e2 in
      omega (arith, rest_length (after_at kind p ts) y x left rest f e)
  by_phrase u mid e1 (Err f) e2 = absurd (let g = after_phrase kind p ts mid u f e1 e2 in cc)

  by_word : (r : Outcome (Unit {0})) → word_at kind ts ≡ r → length rest < length ts
  by_word (Ok (u, mid)) e1 = by_phrase u mid e1 (p mid) refl
  by_word (Err f) e1 = absurd (let g = after_word kind p ts f e1 in cc)

-- ---- the loop

regroup : {A : Type 0} (front : List A) (x : A) (r : Outcome (List A)) → with_front (front ++ x ∷ []) r ≡ with_front front (r >>= λ b. Ok (x ∷ b.0, b.1))
regroup front x (Ok b) = ap (λ xs. Ok (xs, b.1)) (append_assoc front (x ∷ []) b.0)
regroup front x (Err f) = refl

module _ {A : Type 0} (kind : Kind) (p : Parser A) (s : Shrinks p) where
  pub turn_goes : (front : List A) (rest mid after : List Token) (u : Unit {0}) (x : A) → next_in (kind ∷ []) rest ≡ true → word_at kind rest ≡ Ok (u, mid) → p mid ≡ Ok (x, after)
      → with_front (front ++ x ∷ []) (more_at kind p after) ≡ with_front front (more_at kind p rest)
  unfolding more_at
  turn_goes front rest mid after u x next e f =
      regroup front x (more_at kind p after) ∙ ap (with_front front) (sym (goes_by (kind ∷ []) (after_at kind p) (shrinks_after kind p s) (length rest) rest after x (omega arith) next (after_ok kind p rest mid after u x e f)))

  pub turn_fails_word : (front : List A) (rest : List Token) (f : Fault) → next_in (kind ∷ []) rest ≡ true → word_at kind rest ≡ Err f → with_front front (more_at kind p rest) ≡ Err f
  unfolding more_at
  turn_fails_word front rest f next e = ap (with_front front) (fails_by (kind ∷ []) (after_at kind p) (length rest) rest f (omega arith) next (after_word kind p rest f e))

  pub turn_fails : (front : List A) (rest mid : List Token) (u : Unit {0}) (f : Fault) → next_in (kind ∷ []) rest ≡ true → word_at kind rest ≡ Ok (u, mid) → p mid ≡ Err f → with_front front (more_at kind p rest) ≡ Err f
  unfolding more_at
  turn_fails front rest mid u f next e g = ap (with_front front) (fails_by (kind ∷ []) (after_at kind p) (length rest) rest f (omega arith) next (after_phrase kind p rest mid u f e g))

  pub turn_ends : (front : List A) (rest : List Token) → next_in (kind ∷ []) rest ≡ false → with_front front (more_at kind p rest) ≡ Ok (front, rest)
  unfolding more_at
  turn_ends front rest next = rw (ends_by (kind ∷ []) (after_at kind p) (length rest) rest next) (ap (λ xs. Ok (xs, rest)) (append-nil front))

  -- the tokens left are fewer
  pub turn_shrinks : (rest mid after : List Token) (u : Unit {0}) (x : A) → word_at kind rest ≡ Ok (u, mid) → p mid ≡ Ok (x, after) → length after < length rest
  turn_shrinks rest mid after u x e f = shrinks_after kind p s rest x after (after_ok kind p rest mid after u x e f)

  -- what stops a phrase stops the whole
  pub turn_stops : (front : List A) (rest mid : List Token) (u : Unit {0}) (e : Stop) (all : Outcome (List A)) → next_in (kind ∷ []) rest ≡ true → word_at kind rest ≡ Ok (u, mid) → Fails e (p mid) → with_front front (more_at kind p rest) ≡ all → Fails e all
  turn_stops front rest mid u stop.Memory all next w h is = tt
  turn_stops front rest mid u (stop.Fault deep left) all next w h is = sym is ∙ turn_fails front rest mid u (record { deep = deep; rest = left.now }) next w h

-- ---- { phrase }, a turn at a time

module _ {A : Type 0} (ks : List Kind) (p : Parser A) (s : Shrinks p) where
  pub run_goes : (front : List A) (rest after : List Token) (x : A) → next_in ks rest ≡ true → p rest ≡ Ok (x, after) → with_front (front ++ x ∷ []) (many_at ks p after) ≡ with_front front (many_at ks p rest)
  run_goes front rest after x next e = regroup front x (many_at ks p after) ∙ ap (with_front front) (sym (goes_by ks p s (length rest) rest after x (omega arith) next e))

  pub run_ends : (front : List A) (rest : List Token) → next_in ks rest ≡ false → with_front front (many_at ks p rest) ≡ Ok (front, rest)
  run_ends front rest next = rw (ends_by ks p (length rest) rest next) (ap (λ xs. Ok (xs, rest)) (append-nil front))

  pub run_stops : (front : List A) (rest : List Token) (e : Stop) (all : Outcome (List A)) → next_in ks rest ≡ true → Fails e (p rest) → with_front front (many_at ks p rest) ≡ all → Fails e all
  run_stops front rest stop.Memory all next h is = tt
  run_stops front rest (stop.Fault deep left) all next h is = sym is ∙ ap (with_front front) (fails_by ks p (length rest) rest (record { deep = deep; rest = left.now }) (omega arith) next h)

-- ---- a list that is its only member where it has one

more_by : {A : Type 0} (r : Outcome A) (k : A × List Token → Outcome (List A)) (ys : List A) (left : List Token) → (r >>= λ a. k a >>= λ b. Ok (a.0 ∷ b.0, b.1)) ≡ Ok (ys, left) → (z : A) × (zs : List A) × (ys ≡ z ∷ zs)
more_by r k ys left e =
    let a = bind_ok r (λ a. k a >>= λ b. Ok (a.0 ∷ b.0, b.1)) (ys, left) e in
    let b = bind_ok (k a.0) (λ b. Ok (a.0.0 ∷ b.0, b.1)) (ys, left) a.2 in
    let made : List _ × List Token = (a.0.0 ∷ b.0.0, b.0.1) in
    let other : List _ × List Token = (ys, left) in
    (a.0.0, b.0.0, sym (ap (λ p. p.0) (ok_is made other b.2)))

turns_more : {A : Type 0} (ks : List Kind) (p : Parser A) (n : ℕ) (ts : List Token) (ys : List A) (left : List Token) → length ts ≤ n → next_in ks ts ≡ true → turns_at ks p n ts ≡ Ok (ys, left) → (z : A) × (zs : List A) × (ys ≡ z ∷ zs)
unfolding turns_at
turns_more ks p zero [] ys left h next e = absurd cc
turns_more ks p zero (t ∷ ts) ys left h next e = absurd (omega arith)
turns_more ks p (suc n) ts ys left h next e = more_by (p ts) (λ a. turns_at ks p n a.1) ys left (rw next at e)

pub at_least_one : {A : Type 0} (kind : Kind) (p : Parser A) (ts : List Token) (ys : List A) (left : List Token) → next_in (kind ∷ []) ts ≡ true → more_at kind p ts ≡ Ok (ys, left) → (z : A) × (zs : List A) × (ys ≡ z ∷ zs)
unfolding more_at
at_least_one kind p ts ys left next e = turns_more (kind ∷ []) (after_at kind p) (length ts) ts ys left (omega arith) next e

abbrev gathered : {A B : Type 0} (f : A × List A → B) (kind : Kind) (p : Parser A) → Parser B
gathered f kind p = made_at f (listed_at kind p)

gathered_ok : {A B : Type 0} (f : A × List A → B) (kind : Kind) (p : Parser A) (ts rest left : List Token) (x : A) (ys : List A) → p ts ≡ Ok (x, rest) → more_at kind p rest ≡ Ok (ys, left) → gathered f kind p ts ≡ Ok (f (x, ys), left)
gathered_ok f kind p ts rest left x ys e g = rw (e, g) refl

no_more : {A : Type 0} (r : Outcome (List A)) (rest : List Token) → with_front [] r ≡ Ok ([], rest) → r ≡ Ok ([], rest)
no_more (Ok b) rest h = h
no_more (Err d) rest h = absurd cc

pub gathered_one : {A B : Type 0} (f : A × List A → B) (kind : Kind) (p : Parser A) (s : Shrinks p) (ts rest : List Token) (x : A) → p ts ≡ Ok (x, rest) → next_in (kind ∷ []) rest ≡ false → gathered f kind p ts ≡ Ok (f (x, []), rest)
gathered_one f kind p s ts rest x e next = gathered_ok f kind p ts rest rest x [] e (no_more (more_at kind p rest) rest (turn_ends kind p s [] rest next))

gathered_by : {A B : Type 0} (f : A × List A → B) (g : List A → B) → ((a b : A) (more : List A) → f (a, b ∷ more) ≡ g (a ∷ b ∷ more)) → (kind : Kind) (p : Parser A) (ts rest left : List Token) (x : A) (found : List A) → p ts ≡ Ok (x, rest) → next_in (kind ∷ []) rest ≡ true
    → (r : Outcome (List A)) → more_at kind p rest ≡ r → with_front (x ∷ []) r ≡ Ok (found, left) → gathered f kind p ts ≡ Ok (g found, left)
gathered_by f g same kind p ts rest left x found e next (Ok (ys, us)) m h =
    let made : List _ × List Token = (x ∷ ys, us) in
    let other : List _ × List Token = (found, left) in
    let is : made ≡ other = ok_is made other h in
    let one = at_least_one kind p rest ys us next m in
    gathered_ok f kind p ts rest us x ys e m ∙ ap (λ z. Ok (z, us)) (ap (λ (zs : List _). f (x, zs)) one.2 ∙ same x one.0 one.1 ∙ ap (λ (zs : List _). g (x ∷ zs)) (sym one.2)) ∙ ap (λ (z : List _ × List Token). Ok (g z.0, z.1)) is
gathered_by f g same kind p ts rest left x found e next (Err d) m h = absurd cc

pub gathers : {A B : Type 0} (f : A × List A → B) (g : List A → B) → ((a b : A) (more : List A) → f (a, b ∷ more) ≡ g (a ∷ b ∷ more)) → (kind : Kind) (p : Parser A) (ts rest left : List Token) (x : A) (found : List A) → p ts ≡ Ok (x, rest) → next_in (kind ∷ []) rest ≡ true
    → with_front (x ∷ []) (more_at kind p rest) ≡ Ok (found, left) → gathered f kind p ts ≡ Ok (g found, left)
gathers f g same kind p ts rest left x found e next h = gathered_by f g same kind p ts rest left x found e next (more_at kind p rest) refl h

more_err : {A : Type 0} (front : List A) (r : Outcome (List A)) (d : Fault) → with_front front r ≡ Err d → r ≡ Err d
more_err front (Ok b) d h = absurd cc
more_err front (Err e) d h = h

gathered_err : {A B : Type 0} (f : A × List A → B) (kind : Kind) (p : Parser A) (ts rest : List Token) (x : A) (d : Fault) → p ts ≡ Ok (x, rest) → more_at kind p rest ≡ Err d → gathered f kind p ts ≡ Err d
gathered_err f kind p ts rest x d e g = rw (e, g) refl

pub gathered_stops : {A B : Type 0} (f : A × List A → B) (kind : Kind) (p : Parser A) (ts rest : List Token) (x : A) (e : Stop) → p ts ≡ Ok (x, rest) → Fails e (with_front (x ∷ []) (more_at kind p rest)) → Fails e (gathered f kind p ts)
gathered_stops f kind p ts rest x stop.Memory is h = tt
gathered_stops f kind p ts rest x (stop.Fault deep left) is h = gathered_err f kind p ts rest x (record { deep = deep; rest = left.now }) is (more_err (x ∷ []) (more_at kind p rest) _ h)

-- what stops the first member stops the whole
pub first_stops : {A B : Type 0} (f : A × List A → B) (kind : Kind) (p : Parser A) (ts : List Token) (e : Stop) → Fails e (p ts) → Fails e (gathered f kind p ts)
first_stops f kind p ts stop.Memory h = tt
first_stops f kind p ts (stop.Fault deep left) h = rw h refl
