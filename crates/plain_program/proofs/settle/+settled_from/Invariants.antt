use Rattle.std.proofs.Common.{◌-◌}
use Rattle.sp_model.specs.Settling.{attempts_of}
use Rattle.plain_program.proofs.settle.+settled_from.Given as goal

abbrev pub decreases-settled_from : goal.decreases-settled_from
decreases-settled_from g l = attempts_of l.rule.now.retry - l.attempt
