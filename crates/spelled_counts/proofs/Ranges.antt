-- A count that is read is within its limit.
use Rattle.std.proofs.Common.{◌≡◌, ℕ, ◌≤◌, Bool, true, false, not, cond, ◌&&◌, nat_le, List, None, Some, refl, arith}
use Rattle.std.specs.Str.{all_ascii_digits}
use Rattle.std.specs.Str.Parse.{digits_value}
use Rattle.spelled_counts.specs.Counts.{begins_with_zero, within, count_of}

chosen-range : (low high : Bool) (most v count : ℕ) → nat_le 1 v ≡ low → nat_le v most ≡ high → cond (low && high) (Some v) None ≡ Some count → (1 ≤ count) × (count ≤ most)
chosen-range low high most v count l h e = grind arith

spelled-range : (spells : Bool) (most v count : ℕ) → cond spells (within most v) None ≡ Some count → (1 ≤ count) × (count ≤ most)
spelled-range true most v count e = chosen-range _ _ most v count refl refl e
spelled-range false most v count e = absurd (cc)

pub count_of-range : (most : ℕ) (digits : List ℕ) (count : ℕ) → count_of most digits ≡ Some count → (1 ≤ count) × (count ≤ most)
count_of-range most digits count e = spelled-range (all_ascii_digits digits && not (begins_with_zero digits)) most (digits_value 10 digits) count e
