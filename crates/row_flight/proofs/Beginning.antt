-- Attempts of which nothing came.
use Rattle.std.proofs.Common.{ℕ, zero, suc, List, ◌∷◌, replicate, arith}
use Rattle.std.specs.Prelude.{All}
use Rattle.row_flight.specs.Attempts.{fresh, IsAttempt}
use Rattle.row_flight.specs.declared.attempt.Attempt.{Attempt}

fresh_is : IsAttempt fresh
fresh_is = record { room = omega arith; first = λ l. absurd (omega (arith, l)) }

all_more : (attempts : List Attempt) → All IsAttempt attempts → All IsAttempt (fresh ∷ attempts)
all_more attempts all zero d l = fresh_is
all_more attempts all (suc k) d l = all k d (omega (arith, l))

pub all_fresh : (n : ℕ) → All IsAttempt (replicate n fresh)
all_fresh zero = λ k d l. absurd (omega (arith, l))
all_fresh (suc n) = all_more (replicate n fresh) (all_fresh n)
