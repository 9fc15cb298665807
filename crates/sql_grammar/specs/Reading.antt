-- Reading from left to right: a value and the tokens after it, or the tokens from the first fault on.
use Rattle.std.specs.Prelude.{ℕ, zero, suc, Bool, true, false, if◌then◌else◌, List, [], ◌∷◌, length, Option, Some, None, Result, Ok, Err}
use denote.Enum.Bare.{sameb}
use Rattle.sql_lex.specs.contracts.token.Kind.{the_type}
use Rattle.sql_lex.specs.declared.token.Kind.{Kind}
use Rattle.sql_lex.specs.declared.token.Token.{Token}

-- where reading stopped, and whether by the depth
pub record Fault : Type 0 where
  pub deep : Bool
  pub rest : List Token

abbrev pub wrong : List Token → Fault
wrong ts = record { deep = false; rest = ts }

abbrev pub too_deep : List Token → Fault
too_deep ts = record { deep = true; rest = ts }

abbrev pub Outcome : Type 0 → Type 0
Outcome A = Result (A × List Token) Fault

abbrev pub Parser : Type 0 → Type 0
Parser A = List Token → Outcome A

infixl 10 ◌>>=◌
abbrev pub ◌>>=◌ : {A B : Type 0} → Outcome A → (A × List Token → Outcome B) → Outcome B
(Ok x) >>= f = f x
(Err e) >>= f = Err e

abbrev pub same : Kind → Kind → Bool
same = sameb the_type

abbrev pub has : List Kind → Kind → Bool
has [] k = false
has (x ∷ xs) k = if same x k then true else has xs k

abbrev pub next_in : List Kind → List Token → Bool
next_in ks [] = false
next_in ks (t ∷ ts) = has ks t.kind

abbrev pub first_as : {A : Type 0} → Option A → Token → List Token → Outcome A
first_as (Some x) t ts = Ok (x, ts)
first_as None t ts = Err (wrong (t ∷ ts))

abbrev pub one_at : {A : Type 0} → (Token → Option A) → Parser A
one_at accept [] = Err (wrong [])
one_at accept (t ∷ ts) = first_as (accept t) t ts

abbrev pub then_at : {A B : Type 0} → Parser A → Parser B → Parser (A × B)
then_at p q ts = p ts >>= λ a. q a.1 >>= λ b. Ok ((a.0, b.0), b.1)

abbrev pub made_at : {A B : Type 0} → (A → B) → Parser A → Parser B
made_at f p ts = p ts >>= λ a. Ok (f a.0, a.1)

abbrev pub maybe_at : {A : Type 0} → List Kind → Parser A → Parser (Option A)
maybe_at ks p ts = if next_in ks ts then (p ts >>= λ a. Ok (Some a.0, a.1)) else Ok (None, ts)

abbrev pub either_at : {A : Type 0} → List Kind → Parser A → Parser A → Parser A
either_at ks p q ts = if next_in ks ts then p ts else q ts

-- at most so many turns
unfoldable pub turns_at : {A : Type 0} → List Kind → Parser A → ℕ → Parser (List A)
turns_at ks p zero ts = Ok ([], ts)
turns_at ks p (suc n) ts = if next_in ks ts then (p ts >>= λ a. turns_at ks p n a.1 >>= λ b. Ok (a.0 ∷ b.0, b.1)) else Ok ([], ts)

abbrev pub many_at : {A : Type 0} → List Kind → Parser A → Parser (List A)
many_at ks p ts = turns_at ks p (length ts) ts

-- tokens that would go too deep
abbrev pub shut_at : {A : Type 0} → List Kind → Parser A → Parser A
shut_at ks p ts = if next_in ks ts then Err (too_deep ts) else p ts
