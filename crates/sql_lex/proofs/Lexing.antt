-- Lemmas on the tokens of a text.
use Rattle.std.proofs.Common.{◌≡◌, ℕ, zero, suc, ◌+◌, ◌*◌, ◌-◌, ◌<◌, ◌≤◌, Bool, true, false, ◌&&◌, ◌||◌, cond, leb, List, [], ◌∷◌, ◌++◌, length, drop, Option, Some, None, refl, sym, ap, subst, ◌∙◌, append_assoc, append-nil, arith, ◌⊎◌, inl, inr, add-zero, add_assoc}
use Rattle.std.proofs.lemmas.Bool.{ne_eqb}
use Rattle.std.proofs.Common.{get_or, drop-cons}
use Rattle.std.proofs.lemmas.Bool.{le-ltb, lt-leb, leb-true}
use Rattle.std.proofs.Common.{add-one, take, map, take_all, length-drop, drop-drop, drop_of_length-le, take_while}
use Rattle.std.proofs.lemmas.List.Sums.{take_while-cons}
use Rattle.sql_lex.specs.declared.token.Token.{Token}
use Rattle.sql_lex.specs.declared.lexer.Front.{Front}
use Rattle.std.specs.Str.{IsUtf8, IsAscii}
use Rattle.std.proofs.lemmas.Str.{IsUtf8-from_ascii, IsUtf8-drop, IsCharBoundary-before_ascii}
use Rattle.sql_lex.specs.Quotes.{more, more_bytes}
use Rattle.sql_lex.specs.Lex.{is_word, is_upper, lower, value_from, limit, signed, front, front_by, is_blank, is_bad, token_at, tokens_from}

-- what was read, before what is to come
abbrev pub joined : List ℕ → ℕ → Option (List ℕ × ℕ) → Option (List ℕ × ℕ)
joined content read None = None
joined content read (Some found) = Some (content ++ found.0, read + found.1)

pub joined_nothing : (o : Option (List ℕ × ℕ)) → joined [] 0 o ≡ o
joined_nothing None = refl
joined_nothing (Some found) = ap (λ n. Some (found.0, n)) (omega arith)

pub joined_more : (content : List ℕ) (read b : ℕ) (o : Option (List ℕ × ℕ)) → joined (content ++ b ∷ []) (read + 1) o ≡ joined content read (more b 1 o)
joined_more content read b None = refl
joined_more content read b (Some found) = rw (append_assoc content (b ∷ []) found.0, add_assoc read 1 found.1) refl

pub joined_quote : (content : List ℕ) (read : ℕ) (o : Option (List ℕ × ℕ)) → joined content (read + 1) o ≡ joined content read (more_bytes 1 o)
joined_quote content read None = refl
joined_quote content read (Some found) = rw (add_assoc read 1 found.1) refl

pub joined_end : (content : List ℕ) (read : ℕ) → joined content read (Some ([], 0)) ≡ Some (content, read)
joined_end content read = rw (append-nil, add-zero) refl

pub ruleset steps = (joined_nothing, joined_more, joined_quote, joined_end)

-- values of digits grow
pub value_grows : (n : ℕ) (ds : List ℕ) → n ≤ value_from n ds
value_grows n [] = omega arith
value_grows n (d ∷ ds) = let h = value_grows (n * 10 + (d - 48)) ds in omega arith

pub too_large : (n i : ℕ) (ds : List ℕ) (total : ℕ) → i < length ds → limit < n * 10 + (get_or ds i 0 - 48) → value_from n (drop i ds) ≡ total → limit < total
too_large n i ds total lt big is =
    let e : value_from n (drop i ds) ≡ value_from (n * 10 + (get_or ds i 0 - 48)) (drop (suc i) ds) = ap (value_from n) (drop-cons ds i 0 lt) in
    let g = value_grows (n * 10 + (get_or ds i 0 - 48)) (drop (suc i) ds) in
    omega arith

pub out_of_range : (negative : Bool) (n : ℕ) → limit < n → None ≡ signed negative n
out_of_range false n h = rw (le-ltb n limit (omega arith)) refl
out_of_range true n h = rw (lt-leb n limit h) refl

-- ---- fronts

pub front_is : (z : List ℕ) → 0 < length z → front z ≡ front_by (get_or z 0 0) z
unfolding front
front_is [] h = absurd (omega arith)
front_is (b ∷ z) h = refl

-- ---- runs

pub run_le : (p : ℕ → Bool) (z : List ℕ) → length (take_while p z) ≤ length z
run_le p [] = omega arith
run_le p (b ∷ z) = let h = run_le p z in rw take_while-cons (by (p b) h) where
  by : (t : Bool) → length (take_while p z) ≤ length z → length (cond t (b ∷ take_while p z) []) ≤ length (b ∷ z)
  by true h = omega arith
  by false h = omega arith

pub run_pos : (p : ℕ → Bool) (z : List ℕ) → 0 < length z → p (get_or z 0 0) ≡ true → 1 ≤ length (take_while p z)
run_pos p [] h g = absurd (omega arith)
run_pos p (b ∷ z) h g = rw (take_while-cons, g) (omega arith)

pub ruleset runs = (run_le, run_pos)

-- ---- words are text

under : (m n : ℕ) → (m < n) ⊎ (n ≤ m)
under m zero = inr (omega arith)
under zero (suc n) = inl (omega arith)
under (suc m) (suc n) = elim (under m n) [ inl h ↦ inl (omega arith) | inr h ↦ inr (omega arith) ]

split : (b : Bool) → (b ≡ true) ⊎ (b ≡ false)
split true = inl refl
split false = inr refl

not_word : (b : ℕ) → 128 ≤ b → is_word b ≡ false
not_word b h = rw (lt-leb b 90 (omega arith), lt-leb b 122 (omega arith), lt-leb b 57 (omega arith), ne_eqb b 95 (λ (e : b ≡ 95). omega arith)) (by (leb 65 b) (leb 97 b) (leb 48 b)) where
  by : (x y z : Bool) → (((x && false) || (y && false) || false) || (z && false)) ≡ false
  by true true true = refl
  by true true false = refl
  by true false true = refl
  by true false false = refl
  by false true true = refl
  by false true false = refl
  by false false true = refl
  by false false false = refl

both_true : (a b : Bool) → (a && b) ≡ true → (a ≡ true) × (b ≡ true)
both_true true b h = (refl, h)
both_true false b h = absurd cc

low_upper : (b : ℕ) → is_upper b ≡ true → b + 32 < 128
low_upper b up = let h = leb-true b 90 ((both_true (leb 65 b) (leb b 90) up).1) in omega arith

low_below : (b : ℕ) → is_word b ≡ true → lower b < 128
low_below b h = elim (under b 128) [ inl low ↦ elim (split (is_upper b)) [ inl up ↦ rw up (low_upper b up) | inr other ↦ rw other low ] | inr big ↦ absurd (let f = not_word b big in cc) ]

words_ascii : (z : List ℕ) → IsAscii (map lower (take_while is_word z))
words_ascii [] i = omega arith
words_ascii (b ∷ z) i = rw take_while-cons (elim (split (is_word b)) [ inl h ↦ rw h (by i (low_below b h) (λ j. words_ascii z j)) | inr h ↦ rw h (omega arith) ]) where
  by : (i : ℕ) → lower b < 128 → ((j : ℕ) → get_or (map lower (take_while is_word z)) j 0 < 128) → get_or (lower b ∷ map lower (take_while is_word z)) i 0 < 128
  by zero h each = h
  by (suc i) h each = each i

pub words_are_text : (z : List ℕ) → IsUtf8 (map lower (take_while is_word z))
words_are_text z = IsUtf8-from_ascii (map lower (take_while is_word z)) (words_ascii z)

run_taken : (p : ℕ → Bool) (z : List ℕ) → take (length (take_while p z)) z ≡ take_while p z
run_taken p [] = refl
run_taken p (b ∷ z) = rw take_while-cons (elim (split (p b)) [ inl h ↦ rw h (ap (λ (bs : List ℕ). b ∷ bs) (run_taken p z)) | inr h ↦ rw h refl ])

pub word_is_text : (z : List ℕ) (n : ℕ) → n ≡ length (take_while is_word z) → IsUtf8 (map lower (take n z))
word_is_text z n e = rw e (subst (λ (bs : List ℕ). IsUtf8 (map lower bs)) (sym (run_taken is_word z)) (words_are_text z))

-- ---- the tokens after one

pub tokens_on : (left place : ℕ) (z : List ℕ) → tokens_from left place z ≡ tokens_from 0 (place + left) (drop left z)
unfolding tokens_from
tokens_on zero place [] = refl
tokens_on zero place (b ∷ z) = ap (λ p. tokens_from 0 p (b ∷ z)) (sym (add-zero place))
tokens_on (suc left) place [] = refl
tokens_on (suc left) place (b ∷ z) = tokens_on left (place + 1) z ∙ ap (λ p. tokens_from 0 p (drop left z)) (omega arith)

pub tokens_blank_at : (place b : ℕ) (z : List ℕ) → is_blank b ≡ true → tokens_from 0 place (b ∷ z) ≡ tokens_from 0 (place + 1) z
unfolding tokens_from
tokens_blank_at place b z h = rw h refl

next : (place : ℕ) (z : List ℕ) (b n : ℕ) → 1 ≤ n → tokens_from 0 (place + 1 + (n - 1)) (drop (n - 1) z) ≡ tokens_from 0 (place + n) (drop n (b ∷ z))
next place z b zero le = absurd (omega arith)
next place z b (suc m) le = let e : suc m - 1 ≡ m = omega arith in let f : place + 1 + m ≡ place + suc m = omega arith in rw (e, f) refl

pub tokens_good_at : (place b : ℕ) (z : List ℕ) → is_blank b ≡ false → is_bad (front (b ∷ z)).kind ≡ false → 1 ≤ (front (b ∷ z)).len
    → tokens_from 0 place (b ∷ z) ≡ token_at (front (b ∷ z)) place ∷ tokens_from 0 (place + (front (b ∷ z)).len) (drop (front (b ∷ z)).len (b ∷ z))
unfolding tokens_from
tokens_good_at place b z h g moves =
    let n = (front (b ∷ z)).len in
    rw (h, g) (ap (λ us. token_at (front (b ∷ z)) place ∷ us) (tokens_on (n - 1) (place + 1) z ∙ next place z b n moves))

tokens_bad_at : (place b : ℕ) (z : List ℕ) → is_blank b ≡ false → is_bad (front (b ∷ z)).kind ≡ true → tokens_from 0 place (b ∷ z) ≡ token_at (front (b ∷ z)) place ∷ []
unfolding tokens_from
tokens_bad_at place b z h g = rw (h, g) refl

module _ (text : List ℕ) (at : ℕ) (lt : at < length text) where
  opened : drop at text ≡ get_or text at 0 ∷ drop (at + 1) text
  opened = rw add-one (drop-cons text at 0 lt)

  pub tokens_blank : (found : List Token) → is_blank (get_or text at 0) ≡ true → found ++ tokens_from 0 at (drop at text) ≡ found ++ tokens_from 0 (at + 1) (drop (at + 1) text)
  tokens_blank found h = ap (λ us. found ++ us) (ap (tokens_from 0 at) opened ∙ tokens_blank_at at (get_or text at 0) (drop (at + 1) text) h)

  pub tokens_good : (found : List Token) (f : Front) → is_blank (get_or text at 0) ≡ false → f ≡ front (drop at text) → is_bad f.kind ≡ false → 1 ≤ f.len
      → found ++ tokens_from 0 at (drop at text) ≡ (found ++ token_at f at ∷ []) ++ tokens_from 0 (at + f.len) (drop (at + f.len) text)
  tokens_good found f h is g moves =
      let z = drop (at + 1) text in
      let b = get_or text at 0 in
      let f-is : f ≡ front (b ∷ z) = is ∙ ap front opened in
      let one = tokens_good_at at b z h (subst (λ x. is_bad x.kind ≡ false) f-is g) (subst (λ x. 1 ≤ x.len) f-is moves) in
      let two : tokens_from 0 at (drop at text) ≡ token_at f at ∷ tokens_from 0 (at + f.len) (drop f.len (drop at text)) =
      ap (tokens_from 0 at) opened ∙ one ∙ subst (λ x. token_at (front (b ∷ z)) at ∷ tokens_from 0 (at + (front (b ∷ z)).len) (drop (front (b ∷ z)).len (b ∷ z)) ≡ token_at x at ∷ tokens_from 0 (at + x.len) (drop x.len (b ∷ z))) (sym f-is) refl ∙ ap (λ y. token_at f at ∷ tokens_from 0 (at + f.len) (drop f.len y)) (sym opened) in
      ap (λ us. found ++ us) (two ∙ ap (λ y. token_at f at ∷ tokens_from 0 (at + f.len) y) (drop-drop f.len at text ∙ ap (λ k. drop k text) (omega arith))) ∙ sym (append_assoc found (token_at f at ∷ []) (tokens_from 0 (at + f.len) (drop (at + f.len) text)))

  pub tokens_bad : (found : List Token) (f : Front) → is_blank (get_or text at 0) ≡ false → f ≡ front (drop at text) → is_bad f.kind ≡ true
      → found ++ tokens_from 0 at (drop at text) ≡ found ++ token_at f at ∷ []
  tokens_bad found f h is g =
      let z = drop (at + 1) text in
      let b = get_or text at 0 in
      let f-is : f ≡ front (b ∷ z) = is ∙ ap front opened in
      ap (λ us. found ++ us) (ap (tokens_from 0 at) opened ∙ tokens_bad_at at b z h (subst (λ x. is_bad x.kind ≡ true) f-is g) ∙ ap (λ x. token_at x at ∷ []) (sym f-is))

pub tokens_end : (at : ℕ) (text : List ℕ) → length text ≤ at → tokens_from 0 at (drop at text) ≡ []
unfolding tokens_from
tokens_end at text h = rw (drop_of_length-le text h) refl

pub whole_rest : (text : List ℕ) (at : ℕ) → take (length text - at) (drop at text) ≡ drop at text
whole_rest text at = rw (← length-drop at text) (take_all (length (drop at text)) (drop at text) (omega arith))

-- the text from an ASCII byte on
pub rest_is_text : (text : List ℕ) (at : ℕ) → IsUtf8 text → at < length text → get_or (take (length text - at) (drop at text)) 0 0 < 128 → IsUtf8 (take (length text - at) (drop at text))
rest_is_text text at u lt low =
    let same = whole_rest text at in
    let first : get_or (drop at text) 0 0 ≡ get_or text at 0 = rw (drop-cons text at 0 lt) refl in
    let low' : get_or text at 0 < 128 = subst (λ n. n < 128) first (subst (λ (bs : List ℕ). get_or bs 0 0 < 128) same low) in
    subst IsUtf8 (sym same) (IsUtf8-drop text at u (IsCharBoundary-before_ascii text at lt low'))
