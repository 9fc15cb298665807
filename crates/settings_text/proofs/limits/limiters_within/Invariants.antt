-- The limiters so far, followed by those that are left, are all.
use Rattle.std.proofs.Common.{◌≡◌, ◌+◌, drop}
use Rattle.settings_text.specs.Reading.{limiters_within}
use Rattle.settings_text.proofs.EntriesSoFar.{after_entries}
use Rattle.settings_text.proofs.limits.limiters_within.Given as goal

abbrev pub invariant-loop-limiter : goal.invariant-loop-limiter
invariant-loop-limiter l =
    (l.number ≡ l.limiter-index)
    × (limiters_within 1 l.limiters ≡ after_entries l.done (limiters_within (l.limiter-index + 1) (drop l.limiter-index l.limiters)))
