-- How long the next attempt of a call waits.
use Rattle.std.specs.Prelude.{ℕ, zero, suc, ◌+◌, ◌-◌, ◌*◌, ◌^◌, min, Option, Some, None}
use Rattle.sp_model.specs.declared.declaration.Backoff.{Backoff}
use Rattle.sp_model.specs.declared.declaration.Backoff.TheVariants.{Constant, Fibonacci, Exponential}
use Rattle.sp_model.specs.declared.declaration.Retry.{Retry}

-- 0, 1, 1, 2, 3, 5, ..
abbrev pub fibonacci : ℕ → ℕ
fibonacci zero = 0
fibonacci (suc zero) = 1
fibonacci (suc (suc n)) = fibonacci (suc n) + fibonacci n

-- how many intervals there are after an attempt, from 1
abbrev pub intervals : Backoff → ℕ → ℕ
intervals Constant attempt = 1
intervals Fibonacci attempt = fibonacci attempt
intervals Exponential attempt = 2 ^ (attempt - 1)

-- the ticks between the ending of an attempt and the next attempt: so many intervals, and at most the cap
abbrev pub delay : Retry → ℕ → ℕ
delay r attempt = min r.cap (r.interval * intervals r.backoff attempt)

-- without a rule there is none
abbrev pub delay_by : Option Retry → ℕ → ℕ
delay_by None attempt = 0
delay_by (Some r) attempt = delay r attempt
