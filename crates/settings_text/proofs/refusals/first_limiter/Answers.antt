-- Where there is a limiter, it is the first.
use Rattle.std.proofs.Common.{◌≡◌, ◌≤◌, List, [], ◌∷◌, length, Some, refl, arith}
use Rattle.settings_text.specs.Reading.{first_limiter}
use Rattle.settings_text.specs.declared.fault.Entry.TheVariants as place
use Rattle.settings_text.specs.declared.written.WrittenLimiter.{WrittenLimiter}
use Rattle.settings_text.proofs.refusals.first_limiter.Goals as goal

some_first : (ls : List WrittenLimiter) → 1 ≤ length ls → Some (place.Limiter 1) ≡ first_limiter ls
some_first [] h = absurd (omega arith)
some_first (l ∷ ls) h = refl

pub returns-in-len1-up : goal.returns-in-len1-up
returns-in-len1-up c = some_first c.args.limiters.now (omega (arith, c.in-len1-up.len_at_least))
