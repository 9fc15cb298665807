-- Answers that may fail for want of memory.
use Rattle.std.specs.Prelude.{◌≡◌, Bool, true, false, Result, Ok, Err}

-- nothing is said of want of memory
abbrev pub IsSaid : Bool → Type 0 → Type 0
IsSaid true P = Unit {0}
IsSaid false P = P

-- the answer is this one, unless memory is wanting; `is_memory` says which faults are want of memory
abbrev pub IsUnlessMemory : {T E : Type 0} → (E → Bool) → Result T E → Result T E → Type 0
IsUnlessMemory is_memory (Ok x) answer = Ok x ≡ answer
IsUnlessMemory is_memory (Err e) answer = IsSaid (is_memory e) (Err e ≡ answer)
