use Rattle.rate_bucket.proofs.Excess.{paid_off, pays}
use Rattle.std.proofs.Common.{sym, arith}
use Rattle.rate_bucket.proofs.debt_after.Goals as goal

pub returns-then-passed-debt : goal.returns-then-passed-debt
returns-then-passed-debt c = sym (paid_off c.args.debt c.args.fill c.args.passed c.requires c.if-passed-debt.true)

pub overflow_mul-result : goal.overflow_mul-result
overflow_mul-result c = let p = pays c.args.debt c.args.fill c.args.passed c.if-passed-debt.false in omega arith

pub overflow_sub-result : goal.overflow_sub-result
overflow_sub-result c = pays c.args.debt c.args.fill c.args.passed c.if-passed-debt.false
