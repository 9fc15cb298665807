-- Texts that are printed in columns.
use Rattle.std.specs.Prelude.{ℕ, ◌/◌, ◌%◌, ◌+◌, ◌-◌, ◌==◌, ◌||◌, Bool, List, [], ◌∷◌, ◌++◌, codes, nat_lt, nat_le, count_by, replicate, if◌then◌else◌}
use Rattle.sp_value.specs.declared.cell.Cell.{Cell}
use Rattle.sp_value.specs.declared.cell.Cell.TheOpen.{Cell-F}
use Rattle.sp_value.specs.declared.cell.Cell.TheViews.{out-Cell}
use Rattle.sp_value.specs.declared.kind.Kind.{Kind}
use Rattle.answer_text.specs.Spelled.{spelled}

abbrev pub hex_digit : ℕ → ℕ
hex_digit n = if nat_lt n 10 then 48 + n else 87 + n

abbrev pub is_control : ℕ → Bool
is_control b = nat_lt b 32 || b == 127

-- a control character is `\u` and four digits
abbrev pub escaped_byte : ℕ → List ℕ
escaped_byte b = if is_control b then codes "\\u00" ++ (hex_digit (b / 16) ∷ hex_digit (b % 16) ∷ []) else b ∷ []

abbrev pub escaped : List ℕ → List ℕ
escaped [] = []
escaped (b ∷ bs) = escaped_byte b ++ escaped bs

-- a byte that begins a character in UTF-8
abbrev pub is_first : ℕ → Bool
is_first b = nat_lt b 128 || nat_le 192 b

-- how many characters a text has
abbrev pub characters : List ℕ → ℕ
characters text = count_by is_first text

-- spaces on the right, up to a width in characters
abbrev pub filled : ℕ → List ℕ → List ℕ
filled width text = text ++ replicate (width - characters text) 32

-- a cell as columns show it
abbrev pub shown_at : Kind → Cell → Cell-F Cell → List ℕ
shown_at kind c Cell-F.Null = codes "<null>"
shown_at kind c _ = escaped (spelled kind c)

abbrev pub shown : Kind → Cell → List ℕ
shown kind c = shown_at kind c (out-Cell c)
