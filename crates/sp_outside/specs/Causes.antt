-- When a fault may be answered.
use Rattle.std.specs.Prelude.{ℕ, ◌+◌, ◌-◌, ◌^◌, ◌≤◌, min, Result, OnErr}

-- a count that stands still at the end of its type
abbrev pub up : ℕ → ℕ
up n = min (n + 1) (2 ^ 64 - 1)

-- a count went up, or stands at the end of its type
abbrev pub Rose : ℕ → ℕ → Type 0
Rose before now = up before ≤ now

-- the count never falls, and a fault is answered only where it rose
pub record HasCause {T E : Type 0} (before now : ℕ) (result : Result T E) : Type 0 where
  pub later : before ≤ now
  pub failed : OnErr result (Rose before now)
