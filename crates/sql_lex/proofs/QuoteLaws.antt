-- What is quoted is read again.
use Rattle.std.proofs.Common.{◌≡◌, ℕ, suc, ◌+◌, Bool, true, false, eqb, List, [], ◌∷◌, ◌++◌, length, Option, Some, None, subst, refl, sym, ap, ◌∙◌, append_assoc, ◌⊎◌, inl, inr, arith, eq-eqb, eqb-true}
use Rattle.std.proofs.Common.{take_while}
use Rattle.std.proofs.lemmas.List.Sums.{take_while-cons}
use Rattle.sql_lex.specs.Quotes.{closed, more, more_bytes, doubled, NoQuote, ClosesAt, Closes}
use Rattle.sql_lex.specs.Lex.{all_pass}

split : (b : Bool) → (b ≡ true) ⊎ (b ≡ false)
split true = inl refl
split false = inr refl

self : (q : ℕ) → eqb q q ≡ true
self q = eq-eqb q q refl

closes : (quote : ℕ) (rest : List ℕ) → NoQuote quote rest → closed true quote rest ≡ Some ([], 0)
closes quote [] h = refl
closes quote (c ∷ rest) h = rw h refl

doubled_quote : (quote : ℕ) (z : List ℕ) → closed false quote (quote ∷ quote ∷ z) ≡ more_bytes 1 (more quote 1 (closed false quote z))
doubled_quote quote z = rw (self quote) refl

pub closed_again : (quote : ℕ) (bs rest : List ℕ) → NoQuote quote rest → closed false quote (doubled quote bs ++ quote ∷ rest) ≡ Some (bs, length (doubled quote bs) + 1)
closed_again quote [] rest h = rw (self quote, closes quote rest h) refl
closed_again quote (b ∷ bs) rest h =
    elim (split (eqb b quote)) [
      | inl same ↦ let is : b ≡ quote = eqb-true b quote same in
          let n = length (doubled quote bs) in
          let len : 1 + (1 + (n + 1)) ≡ suc (suc n) + 1 = omega arith in
          rw same (doubled_quote quote (doubled quote bs ++ quote ∷ rest) ∙ ap (λ o. more_bytes 1 (more quote 1 o)) (closed_again quote bs rest h) ∙ ap (λ m. Some (quote ∷ bs, m)) len ∙ ap (λ x. Some (x ∷ bs, suc (suc n) + 1)) (sym is))
      | inr other ↦ rw (other, other, closed_again quote bs rest h) (ap (λ n. Some (b ∷ bs, n)) (omega arith))
    ]

-- ---- words and digits

-- the text does not go on with a byte that passes
abbrev pub Past : (ℕ → Bool) → List ℕ → Type 0
Past p [] = Unit {0}
Past p (c ∷ rest) = p c ≡ false

-- a word is the longest run of its bytes again, whatever follows that is none of them
pub run_again : (p : ℕ → Bool) (word rest : List ℕ) → all_pass p word ≡ true → Past p rest → take_while p (word ++ rest) ≡ word
run_again p [] [] h past = refl
run_again p [] (c ∷ rest) h past = rw (take_while-cons, past) refl
run_again p (b ∷ bs) rest h past =
    elim (split (p b)) [
      | inl passes ↦ rw (take_while-cons, passes) (ap (λ (ys : List ℕ). b ∷ ys) (run_again p bs rest (rw passes at h) past))
      | inr fails ↦ absurd (let f = rw fails at h in cc)
    ]

-- ---- where a quote closes

-- behind a quote
record Behind (quote : ℕ) (z content : List ℕ) (len : ℕ) : Type 0 where
  rest : List ℕ
  parts : quote ∷ z ≡ (doubled quote content ++ quote ∷ []) ++ rest
  size : 1 + len ≡ length (doubled quote content ++ quote ∷ [])
  past : NoQuote quote rest

Found : (ℕ → List ℕ → List ℕ → ℕ → Type 0) → ℕ → List ℕ → Option (List ℕ × ℕ) → Type 0
Found P quote z None = Unit {0}
Found P quote z (Some found) = P quote z found.0 found.1

more_found : (quote b : ℕ) (z : List ℕ) (o : Option (List ℕ × ℕ)) → eqb b quote ≡ false → Found ClosesAt quote z o → Found ClosesAt quote (b ∷ z) (more b 1 o)
unfolding Found
more_found quote b z None other h = tt
more_found quote b z (Some found) other h = record {
  rest = h.rest;
  parts = rw other (ap (λ (bs : List ℕ). b ∷ bs) h.parts);
  size = rw other (let s = h.size in omega arith);
  past = h.past;
}

opened : (quote b : ℕ) (z : List ℕ) (o : Option (List ℕ × ℕ)) → b ≡ quote → Found Behind quote z o → Found ClosesAt quote (b ∷ z) (more_bytes 1 o)
unfolding Found
opened quote b z None same h = tt
opened quote b z (Some found) same h = record { rest = h.rest; parts = ap (λ c. c ∷ z) same ∙ h.parts; size = h.size; past = h.past }

twice : (quote b : ℕ) (z : List ℕ) (o : Option (List ℕ × ℕ)) → b ≡ quote → Found ClosesAt quote z o → Found Behind quote (b ∷ z) (more quote 1 o)
unfolding Found
twice quote b z None same h = tt
twice quote b z (Some found) same h = record {
  rest = h.rest;
  parts = rw (self quote) (ap (λ (bs : List ℕ). quote ∷ bs) (ap (λ c. c ∷ z) same ∙ ap (λ (bs : List ℕ). quote ∷ bs) h.parts));
  size = rw (self quote) (let s = h.size in omega arith);
  past = h.past;
}

ends : (quote : ℕ) (z : List ℕ) → NoQuote quote z → Found Behind quote z (Some ([], 0))
unfolding Found
ends quote z h = record { rest = z; parts = refl; size = refl; past = h }

nothing : (quote : ℕ) → Found ClosesAt quote [] None
unfolding Found
nothing quote = tt

found_closed : (quote : ℕ) (z : List ℕ) → Found ClosesAt quote z (closed false quote z) × Found Behind quote z (closed true quote z)
found_closed quote [] = (nothing quote, ends quote [] tt)
found_closed quote (b ∷ z) =
    let p = found_closed quote z in
    elim (split (eqb b quote)) [
      | inl same ↦ rw same (opened quote b z (closed true quote z) (eqb-true b quote same) p.1, twice quote b z (closed false quote z) (eqb-true b quote same) p.0)
      | inr other ↦ rw other (more_found quote b z (closed false quote z) other p.0, ends quote (b ∷ z) other)
    ]

closes_by : (quote : ℕ) (z : List ℕ) (o : Option (List ℕ × ℕ)) → closed false quote z ≡ o → Found ClosesAt quote z o → Closes quote z o
unfolding Found
closes_by quote z None e h = λ content len at.
    let again = closed_again quote content at.rest at.past in
    let same : z ≡ doubled quote content ++ quote ∷ at.rest = at.parts ∙ append_assoc (doubled quote content) (quote ∷ []) at.rest in
    let found : closed false quote z ≡ Some (content, length (doubled quote content) + 1) = ap (closed false quote) same ∙ again in
    cc
closes_by quote z (Some found) e h = h

pub closes_so : (quote : ℕ) (z : List ℕ) → Closes quote z (closed false quote z)
closes_so quote z = closes_by quote z (closed false quote z) refl (found_closed quote z).0

pub closes_is : (quote : ℕ) (z : List ℕ) (o : Option (List ℕ × ℕ)) → o ≡ closed false quote z → Closes quote z o
closes_is quote z o e = subst (λ (x : Option (List ℕ × ℕ)). Closes quote z x) (sym e) (closes_so quote z)
