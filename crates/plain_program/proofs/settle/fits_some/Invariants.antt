use Rattle.std.proofs.Common.{◌≡◌, drop}
use Rattle.sp_value.specs.Patterns.{fits_some}
use Rattle.plain_program.proofs.settle.fits_some.Given as goal

abbrev pub invariant-loop-pattern : goal.invariant-loop-pattern
invariant-loop-pattern l = fits_some l.patterns l.text ≡ fits_some (drop l.pattern-index l.patterns) l.text
