-- The tokens of a text. A token is as long as possible.
use Rattle.std.specs.Prelude.{◌≡◌, ◌≤◌, ℕ, zero, suc, ◌+◌, ◌-◌, ◌*◌, ◌^◌, ℤ, pos, neg_ℤ, Bool, true, false, ◌&&◌, ◌||◌, if◌then◌else◌, ◌==◌, nat_le, nat_lt, List, [], ◌∷◌, length, drop, map, take_while, Option, Some, None, bytes_eq}
use Rattle.sql_lex.specs.declared.token.Kind.{Kind}
use Rattle.sql_lex.specs.declared.token.Kind.TheVariants as k
use Rattle.sql_lex.specs.declared.token.Value.{Value}
use Rattle.sql_lex.specs.declared.token.Value.TheVariants as v
use Rattle.sql_lex.specs.declared.token.Token.{Token}
use Rattle.sql_lex.specs.declared.lexer.Front.{Front}
use Rattle.sql_lex.specs.declared.lexer.TheConstants.{WORDS}
use Rattle.sql_lex.specs.Quotes.{closed}

abbrev pub is_upper : ℕ → Bool
is_upper b = nat_le 65 b && nat_le b 90

abbrev pub is_letter : ℕ → Bool
is_letter b = is_upper b || (nat_le 97 b && nat_le b 122) || b == 95

abbrev pub is_digit : ℕ → Bool
is_digit b = nat_le 48 b && nat_le b 57

abbrev pub is_word : ℕ → Bool
is_word b = is_letter b || is_digit b

abbrev pub is_blank : ℕ → Bool
is_blank b = b == 32 || b == 9

abbrev pub lower : ℕ → ℕ
lower b = if is_upper b then b + 32 else b

abbrev pub front_of : Kind → Value → ℕ → Front
front_of kind value len = record { kind = kind; value = value; len = len }

abbrev pub bad : Front
bad = front_of k.Bad v.Fixed 1

-- ---- words

abbrev pub lookup : List (List ℕ × Kind) → List ℕ → Option Kind
lookup [] word = None
lookup (w ∷ ws) word = if bytes_eq w.0 word then Some w.1 else lookup ws word

unfoldable pub reserved : List ℕ → Option Kind
reserved = lookup (map (λ w. (w.0.now, w.1)) WORDS)

abbrev pub word_by : Option Kind → List ℕ → Front
word_by None word = front_of k.Name (v.Text word) (length word)
word_by (Some kind) word = front_of kind v.Fixed (length word)

unfoldable pub word : List ℕ → Front
word z = let found = map lower (take_while is_word z) in word_by (reserved found) found

abbrev pub all_pass : (ℕ → Bool) → List ℕ → Bool
all_pass p [] = true
all_pass p (b ∷ bs) = p b && all_pass p bs

abbrev pub is_low_word : ℕ → Bool
is_low_word b = if is_upper b then false else is_word b

abbrev pub first : List ℕ → ℕ
first [] = 0
first (b ∷ z) = b

abbrev pub is_free : Option Kind → Bool
is_free None = true
is_free (Some kind) = false

-- a plain name in lower case, and no reserved word
unfoldable pub is_plain : List ℕ → Bool
is_plain z = is_letter (first z) && (all_pass is_low_word z && is_free (reserved z))

-- ---- numbers

abbrev pub value_from : ℕ → List ℕ → ℕ
value_from n [] = n
value_from n (d ∷ ds) = value_from (n * 10 + (d - 48)) ds

abbrev pub limit : ℕ
limit = 2 ^ 63

-- a value of 64 bits
abbrev pub signed : Bool → ℕ → Option ℤ
signed false n = if nat_lt n limit then Some (pos n) else None
signed true n = if nat_le n limit then Some (neg_ℤ (pos n)) else None

abbrev pub number_by : Option ℤ → ℕ → Front
number_by None len = bad
number_by (Some n) len = front_of k.Number (v.Number n) len

abbrev pub sign_len : Bool → ℕ
sign_len false = 0
sign_len true = 1

-- the number of a sign or none, and all digits that follow
unfoldable pub number : Bool → List ℕ → Front
number negative z = let digits = take_while is_digit z in number_by (signed negative (value_from 0 digits)) (sign_len negative + length digits)

-- ---- quotes

abbrev pub text_by : Option (List ℕ × ℕ) → Front
text_by None = bad
text_by (Some found) = front_of k.Text (v.Text found.0) (found.1 + 1)

-- a quoted name is not empty
abbrev pub name_by : Option (List ℕ × ℕ) → Front
name_by None = bad
name_by (Some found) = if length found.0 == 0 then bad else front_of k.Name (v.Text found.0) (found.1 + 1)

-- ---- signs, by their first bytes

-- one byte long, or two where there is a second
abbrev pub IsShort : ℕ → ℕ → Type 0
IsShort next len = (1 ≤ len) × (len ≤ 2) × (next ≡ 0 → len ≡ 1)

abbrev pub sign : Kind → ℕ → Front
sign kind len = front_of kind v.Fixed len

abbrev pub less : ℕ → Front
less next = if next == 61 then sign k.AtMost 2 else (if next == 62 then sign k.NotEqual 2 else sign k.Less 1)

abbrev pub greater : ℕ → Front
greater next = if next == 61 then sign k.AtLeast 2 else sign k.Greater 1

abbrev pub not_equal : ℕ → Front
not_equal next = if next == 61 then sign k.NotEqual 2 else bad

unfoldable pub sign_of : ℕ → List ℕ → Front
sign_of b z =
    if b == 42 then sign k.Star 1 else (if b == 44 then sign k.Comma 1 else (if b == 46 then sign k.Dot 1
    else (if b == 40 then sign k.Open 1 else (if b == 41 then sign k.Close 1 else (if b == 59 then sign k.Semi 1
    else (if b == 61 then sign k.Equal 1 else (if b == 60 then less (first z) else (if b == 62 then greater (first z)
    else (if b == 33 then not_equal (first z) else bad)))))))))

-- the token at the front, or what begins none
abbrev pub front_by : ℕ → List ℕ → Front
front_by b z =
    if is_letter b then word z
    else (if is_digit b then number false z
    else (if b == 45 && is_digit (first (drop 1 z)) then number true (drop 1 z)
    else (if b == 39 then text_by (closed false 39 (drop 1 z))
    else (if b == 34 then name_by (closed false 34 (drop 1 z))
    else sign_of b (drop 1 z)))))

unfoldable pub front : List ℕ → Front
front [] = bad
front (b ∷ z) = front_by b (b ∷ z)

abbrev pub token_at : Front → ℕ → Token
token_at f place = record { kind = f.kind; value = f.value; place = place }

abbrev pub is_bad : Kind → Bool
is_bad k.Bad = true
is_bad _ = false

-- The tokens, up to and with the first that is bad. The first number counts the bytes that are left of the token before.
unfoldable pub tokens_from : ℕ → ℕ → List ℕ → List Token
tokens_from left place [] = []
tokens_from (suc left) place (b ∷ z) = tokens_from left (place + 1) z
tokens_from zero place (b ∷ z) =
    if is_blank b then tokens_from 0 (place + 1) z
    else token_at (front (b ∷ z)) place ∷ (if is_bad (front (b ∷ z)).kind then [] else tokens_from ((front (b ∷ z)).len - 1) (place + 1) z)

-- the tokens of a text
abbrev pub tokens : List ℕ → List Token
tokens z = tokens_from 0 0 z
