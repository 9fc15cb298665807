-- Counts, and how they are spelled.
use Rattle.std.specs.Prelude.{ℕ, Bool, ◌&&◌, not, nat_eq, nat_le, List, codes, Option, Some, None, if◌then◌else◌}
use Rattle.std.specs.List.{starts_with}
use Rattle.std.specs.Str.{all_ascii_digits}
use Rattle.std.specs.Str.Parse.{digits_value}

abbrev pub begins_with_zero : List ℕ → Bool
begins_with_zero digits = starts_with nat_eq digits (codes "0")

abbrev pub within : ℕ → ℕ → Option ℕ
within most count = if nat_le 1 count && nat_le count most then Some count else None

-- the count from 1 to `most` that these digits spell, without leading zeros
abbrev pub count_of : ℕ → List ℕ → Option ℕ
count_of most digits = if all_ascii_digits digits && not (begins_with_zero digits) then within most (digits_value 10 digits) else None
