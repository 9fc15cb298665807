-- What is quoted in a text is text.
use Rattle.std.proofs.Common.{◌≡◌, ℕ, zero, suc, ◌+◌, ◌-◌, ◌<◌, ◌≤◌, ◌/◌, Bool, true, false, ◌&&◌, cond, eqb, ltb, List, [], ◌∷◌, ◌++◌, length, drop, take, get_or, Option, Some, None, refl, sym, ap, subst, append_assoc, append-nil, arith, ◌⊎◌, inl, inr, eqb-true, take_all, length-drop}
use Rattle.std.proofs.lemmas.Bool.{le-ltb, lt-ltb, ne_eqb}
use Rattle.std.specs.Str.{IsUtf8}
use Rattle.std.proofs.lemmas.Str.{IsUtf8-nil, IsUtf8-drop, IsCharBoundary-after_ascii, encode_ascii}
use Rattle.std.proofs.Math.Utf8.{encode, encodes, scalar, scalars, next}
use Rattle.sql_lex.specs.Quotes.{closed, more, more_bytes, doubled, quoted}

-- no byte is ASCII
abbrev AllHigh : List ℕ → Type 0
AllHigh [] = Unit {0}
AllHigh (b ∷ bs) = (128 ≤ b) × AllHigh bs

high : (c : ℕ) → 128 ≤ c → AllHigh (encode c)
unfolding encode
high c h = rw (le-ltb c 128 h) (by (ltb c 2048) (ltb c 65536)) where
  by : (a b : Bool) → AllHigh (cond a ((192 + c / 64) ∷ next c ∷ []) (cond b ((224 + c / 4096) ∷ next (c / 64) ∷ next c ∷ []) ((240 + c / 262144) ∷ next (c / 4096) ∷ next (c / 64) ∷ next c ∷ [])))
  by true b = (omega arith, (omega arith, tt))
  by false true = (omega arith, (omega arith, (omega arith, tt)))
  by false false = (omega arith, (omega arith, (omega arith, (omega arith, tt))))

-- the content that was found is text
abbrev HasText : Option (List ℕ × ℕ) → Type 0
HasText None = Unit {0}
HasText (Some found) = IsUtf8 found.0

abbrev Joins : List ℕ → Option (List ℕ × ℕ) → Type 0
Joins w None = Unit {0}
Joins w (Some found) = IsUtf8 (w ++ found.0)

with_char : (c : ℕ) (o : Option (List ℕ × ℕ)) → scalar c ≡ true → HasText o → Joins (encode c) o
with_char c None s h = tt
with_char c (Some found) s h = (c ∷ h.0, (rw s h.1.0, ap (λ (bs : List ℕ). encode c ++ bs) h.1.1))

joins_ascii : (b : ℕ) (o : Option (List ℕ × ℕ)) → Joins (b ∷ []) o → HasText (more b 1 o)
joins_ascii b None h = tt
joins_ascii b (Some found) h = h

joins_bytes : (n : ℕ) (o : Option (List ℕ × ℕ)) → HasText o → HasText (more_bytes n o)
joins_bytes n None h = tt
joins_bytes n (Some found) h = h

joins_more : (front : List ℕ) (b : ℕ) (o : Option (List ℕ × ℕ)) → Joins (front ++ b ∷ []) o → Joins front (more b 1 o)
joins_more front b None j = tt
joins_more front b (Some found) j = subst IsUtf8 (append_assoc front (b ∷ []) found.0) j

not_quote : (quote b : ℕ) → quote < 128 → 128 ≤ b → eqb b quote ≡ false
not_quote quote b q h = ne_eqb b quote (λ (e : b ≡ quote). omega arith)

-- bytes that are no quote are passed
passed : (quote : ℕ) (front w rest : List ℕ) → quote < 128 → AllHigh w → Joins (front ++ w) (closed false quote rest) → Joins front (closed false quote (w ++ rest))
passed quote front [] rest q h j = subst (λ (bs : List ℕ). Joins bs (closed false quote rest)) (append-nil front) j
passed quote front (b ∷ w) rest q h j =
    rw (not_quote quote b q h.0)
    (joins_more front b (closed false quote (w ++ rest)) (passed quote (front ++ b ∷ []) w rest q h.1 (subst (λ (bs : List ℕ). Joins bs (closed false quote rest)) (sym (append_assoc front (b ∷ []) w)) j)))

joins_text : (o : Option (List ℕ × ℕ)) → Joins [] o → HasText o
joins_text None j = tt
joins_text (Some found) j = j

-- behind a quote, another byte closes
closes : (quote b : ℕ) (z : List ℕ) → eqb b quote ≡ false → HasText (closed true quote (b ∷ z))
closes quote b z h = rw h IsUtf8-nil

closes_before : (quote : ℕ) (w rest : List ℕ) → quote < 128 → AllHigh w → HasText (closed true quote rest) → HasText (closed true quote (w ++ rest))
closes_before quote [] rest q h text = text
closes_before quote (b ∷ w) rest q h text = closes quote b (w ++ rest) (not_quote quote b q h.0)

and_parts : (a b : Bool) → (a && b) ≡ true → (a ≡ true) × (b ≡ true)
and_parts true b h = (refl, h)
and_parts false b h = absurd cc

order : (m n : ℕ) → (m < n) ⊎ (n ≤ m)
order m zero = inr (omega arith)
order zero (suc n) = inl (omega arith)
order (suc m) (suc n) = elim (order m n) [ inl h ↦ inl (omega arith) | inr h ↦ inr (omega arith) ]

split : (b : Bool) → (b ≡ true) ⊎ (b ≡ false)
split true = inl refl
split false = inr refl

module _ (quote : ℕ) (q : quote < 128) where
  closed_chars : (second : Bool) (cs : List ℕ) → scalars cs ≡ true → HasText (closed second quote (encodes cs))
  closed_chars false [] s = tt
  closed_chars true [] s = IsUtf8-nil
  closed_chars false (c ∷ cs) s =
      let p = and_parts (scalar c) (scalars cs) s in
      elim (order c 128) [
        | inl low ↦ rw (encode_ascii c low) (elim (split (eqb c quote)) [
          | inl same ↦ rw same (joins_bytes 1 (closed true quote (encodes cs)) (closed_chars true cs p.1))
          | inr other ↦ rw other (joins_ascii c (closed false quote (encodes cs)) (let j = with_char c (closed false quote (encodes cs)) p.0 (closed_chars false cs p.1) in rw (encode_ascii c low) at j))
        ])
        | inr up ↦ joins_text (closed false quote (encode c ++ encodes cs)) (passed quote [] (encode c) (encodes cs) q (high c up) (with_char c (closed false quote (encodes cs)) p.0 (closed_chars false cs p.1)))
      ]
  closed_chars true (c ∷ cs) s =
      let p = and_parts (scalar c) (scalars cs) s in
      elim (order c 128) [
        | inl low ↦ rw (encode_ascii c low) (elim (split (eqb c quote)) [
          | inl same ↦ let is : c ≡ quote = eqb-true c quote same in
              rw same (joins_ascii quote (closed false quote (encodes cs)) (let j = with_char c (closed false quote (encodes cs)) p.0 (closed_chars false cs p.1) in subst (λ b. Joins (b ∷ []) (closed false quote (encodes cs))) is (rw (encode_ascii c low) at j)))
          | inr other ↦ closes quote c (encodes cs) other
        ])
        | inr up ↦ closes_before quote (encode c) (encodes cs) q (high c up) (closed_chars true cs p.1)
      ]

  pub closed_text : (z : List ℕ) → IsUtf8 z → HasText (closed false quote z)
  closed_text z u = subst (λ (bs : List ℕ). HasText (closed false quote bs)) u.1.1 (closed_chars false u.0 u.1.0)

-- the content that was found is text
pub found_text : (quote : ℕ) (z content : List ℕ) (n : ℕ) → quote < 128 → IsUtf8 z → Some (content, n) ≡ closed false quote z → IsUtf8 content
found_text quote z content n q u e = subst HasText (sym e) (closed_text quote q z u)

-- what follows a quote is text
pub after_quote : (z : List ℕ) (b : ℕ) → 0 < length z → IsUtf8 z → get_or z 0 0 ≡ b → b < 128 → IsUtf8 (take (length z - 1) (drop 1 z))
after_quote z b lt u is low =
    let boundary = IsCharBoundary-after_ascii z 0 u lt (omega (arith, is)) in
    let text : IsUtf8 (drop 1 z) = IsUtf8-drop z 1 u boundary in
    let same : take (length z - 1) (drop 1 z) ≡ drop 1 z = rw (← length-drop 1 z) (take_all (length (drop 1 z)) (drop 1 z) (omega arith)) in
    subst IsUtf8 (sym same) text

-- ---- what is put between quotes

doubled_high : (quote : ℕ) (w rest : List ℕ) → quote < 128 → AllHigh w → doubled quote (w ++ rest) ≡ w ++ doubled quote rest
doubled_high quote [] rest q h = refl
doubled_high quote (b ∷ w) rest q h = rw (not_quote quote b q h.0) (ap (λ (bs : List ℕ). b ∷ bs) (doubled_high quote w rest q h.1))

add_char : (c : ℕ) (bs : List ℕ) → scalar c ≡ true → IsUtf8 bs → IsUtf8 (encode c ++ bs)
add_char c bs s u = (c ∷ u.0, (rw s u.1.0, ap (λ (xs : List ℕ). encode c ++ xs) u.1.1))

low_scalar : (b : ℕ) → b < 128 → scalar b ≡ true
low_scalar b low = rw (lt-ltb b 55296 (omega arith)) refl

add_low : (b : ℕ) (bs : List ℕ) → b < 128 → IsUtf8 bs → IsUtf8 (b ∷ bs)
add_low b bs low u = let j = add_char b bs (low_scalar b low) u in rw (encode_ascii b low) at j

module _ (quote : ℕ) (q : quote < 128) where
  doubled_chars : (cs : List ℕ) → scalars cs ≡ true → IsUtf8 (doubled quote (encodes cs) ++ quote ∷ [])
  doubled_chars [] s = add_low quote [] q IsUtf8-nil
  doubled_chars (c ∷ cs) s =
      let p = and_parts (scalar c) (scalars cs) s in
      let more = doubled_chars cs p.1 in
      elim (order c 128) [
        | inl low ↦ rw (encode_ascii c low) (elim (split (eqb c quote)) [
          | inl same ↦ rw same (add_low quote (quote ∷ (doubled quote (encodes cs) ++ quote ∷ [])) q (add_low quote (doubled quote (encodes cs) ++ quote ∷ []) q more))
          | inr other ↦ rw other (add_low c (doubled quote (encodes cs) ++ quote ∷ []) low more)
        ])
        | inr up ↦ subst (λ (bs : List ℕ). IsUtf8 (bs ++ quote ∷ [])) (sym (doubled_high quote (encode c) (encodes cs) q (high c up)))
            (subst IsUtf8 (sym (append_assoc (encode c) (doubled quote (encodes cs)) (quote ∷ []))) (add_char c (doubled quote (encodes cs) ++ quote ∷ []) p.0 more))
      ]

  pub quoted_is_text : (z : List ℕ) → IsUtf8 z → IsUtf8 (quoted quote z)
  quoted_is_text z u = add_low quote (doubled quote z ++ quote ∷ []) q (subst (λ (bs : List ℕ). IsUtf8 (doubled quote bs ++ quote ∷ [])) u.1.1 (doubled_chars u.0 u.1.0))
