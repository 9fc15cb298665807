-- Calls that were counted.
use Rattle.std.proofs.Common.{◌≡◌, ℕ, ◌+◌, ◌-◌, ◌^◌, ◌<◌, List, [], ◌∷◌, ◌++◌, length, map, take, get_or, refl, sym, ap, ◌∙◌, arith}
use Rattle.std.specs.Prelude.{min}
use Rattle.std.specs.List.{sum_by}
use Rattle.std.proofs.lemmas.List.{take_more}
use Rattle.std.proofs.lemmas.List.Sums.{sum_by-append, sum_by-cons}
use Rattle.run_lines.specs.Calls.{calls_of}

-- one child more
pub one_more : {K : Type 0} (sends : K → ℕ) (ks : List K) (i : ℕ) (k : K) (calls : ℕ) → i < length ks → k ≡ get_or ks i k → calls ≡ calls_of sends (take i ks)
    → min (calls + sends k) (2 ^ 64 - 1) ≡ calls_of sends (take (i + 1) ks)
one_more sends ks i k calls within is counted =
    let more : sum_by sends (take (i + 1) ks) ≡ sum_by sends (take i ks) + (0 + sends k) =
    ap (sum_by sends) (take_more ks i k within ∙ ap (λ x. take i ks ++ x ∷ []) (sym is)) ∙ sum_by-append sends (take i ks) (k ∷ []) in
    omega (arith, counted, more)

-- the children of slots
module _ {S K : Type 0} (child : S → K) (sends : K → ℕ) where
  sums : (ss : List S) → sum_by (λ s. sends (child s)) ss ≡ sum_by sends (map child ss)
  sums [] = refl
  sums (s ∷ ss) = sum_by-cons (λ x. sends (child x)) s ss ∙ ap (λ n. sends (child s) + n) (sums ss) ∙ sym (sum_by-cons sends (child s) (map child ss))

  pub of_children : (slots : List S) → calls_of (λ s. sends (child s)) slots ≡ calls_of sends (map child slots)
  of_children slots = ap (λ n. min n (2 ^ 64 - 1)) (sums slots)
