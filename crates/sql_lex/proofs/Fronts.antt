-- What is spelled is the token at the front again, whatever follows that it does not go on with.
use Rattle.std.proofs.Common.{◌≡◌, ℕ, ℤ, pos, negsuc, suc, ◌+◌, ◌<◌, ◌^◌, Bool, true, false, ◌&&◌, cond, eqb, leb, List, [], ◌∷◌, ◌++◌, length, map, Option, Some, None, refl, ap, ◌∙◌, append_assoc, length-append, arith, ◌⊎◌, inl, inr, take_while}
use Rattle.std.proofs.lemmas.Bool.{lt-ltb, lt-leb, le-leb, leb-true, ne_eqb}
use Rattle.std.specs.Fmt.{decimal}
use Rattle.std.proofs.lemmas.Fmt.{digits_decimal, digits_value-decimal, decimal_nonempty}
use Rattle.std.proofs.lemmas.Str.Parse.{IsNumeralModel, numerals_by_fold, IsDigitsTest, FoldsDigits}
use Rattle.std.proofs.Common.{rules}
use Rattle.sql_lex.specs.declared.token.Kind.{Kind}
use Rattle.sql_lex.specs.declared.token.Kind.TheVariants as k
use Rattle.sql_lex.specs.declared.token.Value.TheVariants as v
use Rattle.sql_lex.specs.Quotes.{closed, doubled, quoted, NoQuote}
use Rattle.sql_lex.specs.Lex.{is_upper, is_letter, is_digit, is_word, is_low_word, is_free, is_plain, lower, first, all_pass, reserved, word, word_by, value_from, limit, signed, number, number_by, sign_len, front_of, front, text_by, name_by, sign_of}
use Rattle.sql_lex.proofs.QuoteLaws.{Past, run_again, closed_again}

split : (b : Bool) → (b ≡ true) ⊎ (b ≡ false)
split true = inl refl
split false = inr refl

both_true : (a b : Bool) → (a && b) ≡ true → (a ≡ true) × (b ≡ true)
both_true true b h = (refl, h)
both_true false b h = absurd cc

-- ---- words

front_word : (b : ℕ) (z : List ℕ) → is_letter b ≡ true → front (b ∷ z) ≡ word (b ∷ z)
unfolding front
front_word b z begins = rw begins refl

word_is : (z w : List ℕ) → take_while is_word z ≡ w → word z ≡ word_by (reserved (map lower w)) (map lower w)
unfolding word
word_is z w run = ap (λ (bs : List ℕ). word_by (reserved (map lower bs)) (map lower bs)) run

word_front : (b : ℕ) (w rest : List ℕ) → is_letter b ≡ true → all_pass is_word (b ∷ w) ≡ true → Past is_word rest → front (b ∷ w ++ rest) ≡ word_by (reserved (map lower (b ∷ w))) (map lower (b ∷ w))
word_front b w rest begins all past = front_word b (w ++ rest) begins ∙ word_is (b ∷ w ++ rest) (b ∷ w) (run_again is_word (b ∷ w) rest all past)

map_length : {A B : Type 0} (f : A → B) (xs : List A) → length (map f xs) ≡ length xs
map_length f [] = refl
map_length f (x ∷ xs) = ap suc (map_length f xs)

pub reserved_front : (b : ℕ) (w : List ℕ) (kind : Kind) (rest : List ℕ) → is_letter b ≡ true → all_pass is_word (b ∷ w) ≡ true → reserved (map lower (b ∷ w)) ≡ Some kind → Past is_word rest → front (b ∷ w ++ rest) ≡ front_of kind v.Fixed (length (b ∷ w))
reserved_front b w kind rest begins all is past = word_front b w rest begins all past ∙ ap (λ o. word_by o (map lower (b ∷ w))) is ∙ ap (front_of kind v.Fixed) (map_length lower (b ∷ w))

not_up : (up word : Bool) → cond up false word ≡ true → (up ≡ false) × (word ≡ true)
not_up true word h = absurd cc
not_up false word h = (refl, h)

low_word : (b : ℕ) → is_low_word b ≡ true → (is_word b ≡ true) × (lower b ≡ b)
low_word b h = let p = not_up (is_upper b) (is_word b) h in (p.1, rw p.0 refl)

low_words : (w : List ℕ) → all_pass is_low_word w ≡ true → (all_pass is_word w ≡ true) × (map lower w ≡ w)
low_words [] h = (refl, refl)
low_words (b ∷ w) h =
    let p = both_true (is_low_word b) (all_pass is_low_word w) h in
    let one = low_word b p.0 in
    let more = low_words w p.1 in
    (rw (one.0, more.0) refl, rw (one.1, more.1) refl)

free_none : (o : Option Kind) → is_free o ≡ true → o ≡ None
free_none None h = refl
free_none (Some kind) h = absurd cc

pub plain_front : (w rest : List ℕ) → is_plain w ≡ true → Past is_word rest → front (w ++ rest) ≡ front_of k.Name (v.Text w) (length w)
unfolding is_plain
plain_front [] rest plain past = absurd cc
plain_front (b ∷ w) rest plain past =
    let p = both_true (is_letter b) (all_pass is_low_word (b ∷ w) && is_free (reserved (b ∷ w))) plain in
    let q = both_true (all_pass is_low_word (b ∷ w)) (is_free (reserved (b ∷ w))) p.1 in
    let words = low_words (b ∷ w) q.0 in
    let free = free_none (reserved (b ∷ w)) q.1 in
    word_front b w rest p.0 words.0 past ∙ ap (λ (bs : List ℕ). word_by (reserved bs) bs) words.1 ∙ ap (λ o. word_by o (b ∷ w)) free

-- ---- quotes

regroup : (q : ℕ) (bs rest : List ℕ) → (doubled q bs ++ q ∷ []) ++ rest ≡ doubled q bs ++ q ∷ rest
regroup q bs rest = append_assoc (doubled q bs) (q ∷ []) rest

quoted_length : (q : ℕ) (bs : List ℕ) → length (doubled q bs) + 1 + 1 ≡ length (quoted q bs)
quoted_length q bs = let e = length-append (doubled q bs) (q ∷ []) in omega arith

pub text_front : (bs rest : List ℕ) → NoQuote 39 rest → front (quoted 39 bs ++ rest) ≡ front_of k.Text (v.Text bs) (length (quoted 39 bs))
unfolding front
text_front bs rest h =
    ap (λ (z : List ℕ). text_by (closed false 39 z)) (regroup 39 bs rest) ∙ ap text_by (closed_again 39 bs rest h) ∙ ap (front_of k.Text (v.Text bs)) (quoted_length 39 bs)

not_empty : (b : ℕ) (bs : List ℕ) (n : ℕ) → name_by (Some (b ∷ bs, n)) ≡ front_of k.Name (v.Text (b ∷ bs)) (n + 1)
not_empty b bs n = rw (ne_eqb (length (b ∷ bs)) 0 (λ (e : length (b ∷ bs) ≡ 0). omega arith)) refl

pub name_front : (b : ℕ) (bs rest : List ℕ) → NoQuote 34 rest → front (quoted 34 (b ∷ bs) ++ rest) ≡ front_of k.Name (v.Text (b ∷ bs)) (length (quoted 34 (b ∷ bs)))
unfolding front
name_front b bs rest h =
    ap (λ (z : List ℕ). name_by (closed false 34 z)) (regroup 34 (b ∷ bs) rest) ∙ ap name_by (closed_again 34 (b ∷ bs) rest h) ∙ not_empty b bs (length (doubled 34 (b ∷ bs)) + 1) ∙ ap (front_of k.Name (v.Text (b ∷ bs))) (quoted_length 34 (b ∷ bs))

-- ---- numbers

own_test : IsDigitsTest (λ ds. all_pass is_digit ds ≡ true)
own_test = search rules

own_fold : FoldsDigits value_from
own_fold = search rules

own : IsNumeralModel (λ ds. all_pass is_digit ds ≡ true) (value_from 0)
own = numerals_by_fold _ own_test value_from own_fold

digit_no_letter : (b : ℕ) → is_digit b ≡ true → is_letter b ≡ false
digit_no_letter b h =
    let high = leb-true b 57 ((both_true (leb 48 b) (leb b 57) h).1) in
    rw (lt-leb 65 b (omega arith), lt-leb 97 b (omega arith), ne_eqb b 95 (λ (e : b ≡ 95). omega arith)) refl

number_again : (negative : Bool) (n : ℕ) (m : ℤ) (rest : List ℕ) → n < 2 ^ 64 → signed negative n ≡ Some m → Past is_digit rest → number negative (decimal n ++ rest) ≡ front_of k.Number (v.Number m) (sign_len negative + length (decimal n))
unfolding number
number_again negative n m rest small is past =
    let run : take_while is_digit (decimal n ++ rest) ≡ decimal n = run_again is_digit (decimal n) rest (digits_decimal own n small) past in
    let value : value_from 0 (decimal n) ≡ n = digits_value-decimal own n small in
    ap (λ (ds : List ℕ). number_by (signed negative (value_from 0 ds)) (sign_len negative + length ds)) run
    ∙ ap (λ x. number_by (signed negative x) (sign_len negative + length (decimal n))) value ∙ ap (λ o. number_by o (sign_len negative + length (decimal n))) is

front_number : (ds rest : List ℕ) → 0 < length ds → all_pass is_digit ds ≡ true → front (ds ++ rest) ≡ number false (ds ++ rest)
unfolding front
front_number [] rest h all = absurd (omega arith)
front_number (d ∷ ds) rest h all = let p = both_true (is_digit d) (all_pass is_digit ds) all in rw (digit_no_letter d p.0, p.0) refl

front_negative : (ds rest : List ℕ) → 0 < length ds → all_pass is_digit ds ≡ true → front (45 ∷ (ds ++ rest)) ≡ number true (ds ++ rest)
unfolding front
front_negative [] rest h all = absurd (omega arith)
front_negative (d ∷ ds) rest h all = let p = both_true (is_digit d) (all_pass is_digit ds) all in rw p.0 refl

decimal_digits : (n : ℕ) → n < 2 ^ 64 → all_pass is_digit (decimal n) ≡ true
decimal_digits n small = digits_decimal own n small

pub pos_front : (n : ℕ) (rest : List ℕ) → n < limit → Past is_digit rest → front (decimal n ++ rest) ≡ front_of k.Number (v.Number (pos n)) (length (decimal n))
pos_front n rest h past =
    let small : n < 2 ^ 64 = omega arith in
    let is : signed false n ≡ Some (pos n) = rw (lt-ltb n limit h) refl in
    front_number (decimal n) rest (decimal_nonempty n small) (decimal_digits n small) ∙ number_again false n (pos n) rest small is past ∙ ap (front_of k.Number (v.Number (pos n))) (omega arith)

pub neg_front : (n : ℕ) (rest : List ℕ) → n < limit → Past is_digit rest → front (45 ∷ decimal (suc n) ++ rest) ≡ front_of k.Number (v.Number (negsuc n)) (length (45 ∷ decimal (suc n)))
neg_front n rest h past =
    let small : suc n < 2 ^ 64 = omega arith in
    let is : signed true (suc n) ≡ Some (negsuc n) = rw (le-leb (suc n) limit (omega arith)) refl in
    front_negative (decimal (suc n)) rest (decimal_nonempty (suc n) small) (decimal_digits (suc n) small) ∙ number_again true (suc n) (negsuc n) rest small is past ∙ ap (front_of k.Number (v.Number (negsuc n))) (omega arith)

-- ---- signs

pub less_front : (rest : List ℕ) → eqb (first rest) 61 ≡ false → eqb (first rest) 62 ≡ false → front (60 ∷ rest) ≡ front_of k.Less v.Fixed 1
unfolding front sign_of
less_front rest h g = rw (h, g) refl

pub greater_front : (rest : List ℕ) → eqb (first rest) 61 ≡ false → front (62 ∷ rest) ≡ front_of k.Greater v.Fixed 1
unfolding front sign_of
greater_front rest h = rw h refl

pub star_front : (rest : List ℕ) → front (42 ∷ rest) ≡ front_of k.Star v.Fixed 1
unfolding front sign_of
star_front rest = refl

pub comma_front : (rest : List ℕ) → front (44 ∷ rest) ≡ front_of k.Comma v.Fixed 1
unfolding front sign_of
comma_front rest = refl

pub dot_front : (rest : List ℕ) → front (46 ∷ rest) ≡ front_of k.Dot v.Fixed 1
unfolding front sign_of
dot_front rest = refl

pub open_front : (rest : List ℕ) → front (40 ∷ rest) ≡ front_of k.Open v.Fixed 1
unfolding front sign_of
open_front rest = refl

pub close_front : (rest : List ℕ) → front (41 ∷ rest) ≡ front_of k.Close v.Fixed 1
unfolding front sign_of
close_front rest = refl

pub semi_front : (rest : List ℕ) → front (59 ∷ rest) ≡ front_of k.Semi v.Fixed 1
unfolding front sign_of
semi_front rest = refl

pub equal_front : (rest : List ℕ) → front (61 ∷ rest) ≡ front_of k.Equal v.Fixed 1
unfolding front sign_of
equal_front rest = refl

pub not_equal_front : (rest : List ℕ) → front (60 ∷ 62 ∷ rest) ≡ front_of k.NotEqual v.Fixed 2
unfolding front sign_of
not_equal_front rest = refl

pub at_most_front : (rest : List ℕ) → front (60 ∷ 61 ∷ rest) ≡ front_of k.AtMost v.Fixed 2
unfolding front sign_of
at_most_front rest = refl

pub at_least_front : (rest : List ℕ) → front (62 ∷ 61 ∷ rest) ≡ front_of k.AtLeast v.Fixed 2
unfolding front sign_of
at_least_front rest = refl
