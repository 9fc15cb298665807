-- Lines that were looked at.
use Rattle.std.proofs.Common.{◌≡◌, ℕ, ◌-◌, ◌^◌, ◌≤◌, nat_lt, cond, Bool, true, false, List, Some, None, Result, Ok, Err, refl, arith}
use Rattle.std.proofs.lemmas.Bool.{ltb-true, ltb-false}
use Rattle.sp_outside.specs.Causes.{up}
use Rattle.sp_outside.specs.declared.log.Loss.TheVariants as loss
use Rattle.child_link.specs.Arrived.{HasLooked}
use Rattle.child_link.specs.Open.{looked_at}
use Rattle.child_link.specs.declared.arrival.RecvEnd.{RecvEnd}
use Rattle.child_link.specs.declared.arrival.RecvEnd.TheVariants as end

waits_by : (b : Bool) (given : ℕ) → nat_lt (up given) (2 ^ 64 - 1) ≡ b → given ≤ 2 ^ 64 - 1 → given ≤ cond b (up given - 1) (up given)
waits_by true given is most = let h = ltb-true _ _ is in omega (arith, h, most)
waits_by false given is most = let h = ltb-false _ _ is in omega (arith, h, most)

-- a line more is given, and waits
pub looked_waits : (given : ℕ) (line : List ℕ) → given ≤ 2 ^ 64 - 1 → looked_at given None ≤ looked_at (up given) (Some line)
looked_waits given line most = waits_by (nat_lt (up given) (2 ^ 64 - 1)) given refl most

looked_by : (b : Bool) (given : ℕ) → nat_lt given (2 ^ 64 - 1) ≡ b → 1 ≤ given → up (cond b (given - 1) given) ≤ given
looked_by true given is some = let h = ltb-true _ _ is in omega (arith, h, some)
looked_by false given is some = let h = ltb-false _ _ is in omega (arith, h, some)

-- the line that waited is looked at
pub looked_more : (given : ℕ) (line : List ℕ) → 1 ≤ given → up (looked_at given (Some line)) ≤ looked_at given None
looked_more given line some = looked_by (nat_lt given (2 ^ 64 - 1)) given refl some

least_by : (b : Bool) (given : ℕ) → cond b (given - 1) given ≤ given
least_by true given = omega arith
least_by false given = omega arith

pub looked_least : (given : ℕ) (line : List ℕ) → looked_at given (Some line) ≤ looked_at given None
looked_least given line = least_by (nat_lt given (2 ^ 64 - 1)) given

pub looked_then : {T : Type 0} (r : Result T RecvEnd) (a b c : ℕ) → a ≤ b → HasLooked r b c → HasLooked r a c
looked_then (Ok t) a b c before h = omega (arith, before, h)
looked_then (Err end.Memory) a b c before h = omega (arith, before, h)
looked_then (Err (end.Lost loss.Fault)) a b c before h = omega (arith, before, h)
looked_then (Err (end.Lost (loss.Bad bytes rest))) a b c before h = omega (arith, before, h)
