-- What an error means for its call.
use Rattle.std.specs.Prelude.{ℕ}
use Rattle.sp_model.specs.Settling as settling
use Rattle.sp_model.specs.declared.declaration.Rule.{Rule}
use Rattle.sp_model.specs.Delays.{delay_by}
use Rattle.retry_ignore.specs.declared.verdict.Verdict.{Verdict}
use Rattle.retry_ignore.specs.declared.verdict.Verdict.TheVariants.{Ignore, Again, Fail}

-- with its delay, where the call is asked again
abbrev pub verdict_of : Rule → ℕ → settling.Verdict → Verdict
verdict_of rule attempt settling.Accept = Ignore
verdict_of rule attempt settling.Again = Again (delay_by rule.retry attempt)
verdict_of rule attempt (settling.Refuse text) = Fail
verdict_of rule attempt settling.Open = Fail
