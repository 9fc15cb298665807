-- Which texts may be names, and lists of names.
use Rattle.std.specs.Prelude.{ℕ, ◌==◌, Bool, true, false, ◌&&◌, ◌||◌, not, List, [], ◌∷◌, length, nat_le, bytes_eq}
use Rattle.std.specs.List.{list_any, list_all}

abbrev pub is_plain_byte : ℕ → Bool
is_plain_byte b = nat_le 32 b && (nat_le b 126 || nat_le 128 b)

-- 1 to 63 bytes, none of them a control character
abbrev pub is_name : List ℕ → Bool
is_name name = nat_le 1 (length name) && nat_le (length name) 63 && list_all is_plain_byte name

abbrev pub is_small_letter : ℕ → Bool
is_small_letter b = nat_le 97 b && nat_le b 122

-- a letter a to z, a digit or `_`
abbrev pub is_word_byte : ℕ → Bool
is_word_byte b = is_small_letter b || (nat_le 48 b && nat_le b 57) || b == 95

-- a letter a to z, and then letters a to z, digits and `_`
abbrev pub is_word : List ℕ → Bool
is_word [] = false
is_word (b ∷ bs) = is_small_letter b && list_all is_word_byte bs

-- such a word of 63 bytes at most
abbrev pub is_connection_name : List ℕ → Bool
is_connection_name name = nat_le (length name) 63 && is_word name

-- ---- lists of names

abbrev pub has_name : List (List ℕ) → List ℕ → Bool
has_name names name = list_any (bytes_eq name) names

-- each name once
abbrev pub are_distinct : List (List ℕ) → Bool
are_distinct [] = true
are_distinct (name ∷ names) = not (has_name names name) && are_distinct names
