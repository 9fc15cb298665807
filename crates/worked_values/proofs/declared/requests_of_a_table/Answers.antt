use Rattle.std.proofs.Common.{◌≡◌, ℕ, true, false, List, [], ◌∷◌, length, refl, sym, ap, arith, true≢false}
use Rattle.sp_value.proofs.Computing.{cells}
use Rattle.sp_model.specs.Requests.{keys_for, subset_for, are_sent}
use Rattle.worked_values.proofs.declared.requests_of_a_table.Goals as goal

-- how long the first name is
first : List (List ℕ) → ℕ
first [] = 0
first (name ∷ names) = length name

pub returns-clause-requests_are_of_the_table : goal.returns-clause-requests_are_of_the_table
unfolding cells keys_for subset_for are_sent
returns-clause-requests_are_of_the_table c =
    (record { name = refl; columns = refl; sent = refl; subset = refl; limit = refl }, record { name = refl; columns = refl; sent = refl; subset = refl; limit = refl })

pub returns-clause-odd_requests_are_not : goal.returns-clause-odd_requests_are_not
unfolding cells first keys_for subset_for are_sent
returns-clause-odd_requests_are_not c = (
  (λ made. let e : false ≡ true = made.limit in absurd (true≢false (sym e)), λ made. let e : false ≡ true = made.sent in absurd (true≢false (sym e))),
  (λ made. let e : 4 ≡ 2 = ap first made.columns in absurd (omega (arith, e)), λ made. let e : 0 ≡ 1 = ap length made.subset in absurd (omega (arith, e))),
)
