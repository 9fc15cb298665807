use Rattle.std.proofs.Common.{◌-◌}
use Rattle.sp_model.specs.Settling.{attempts_of}
use Rattle.plain_program.proofs.walking.+walk_from.Given as goal

abbrev pub decreases-walk_from : goal.decreases-walk_from
decreases-walk_from g l = attempts_of l.source.now.rule.retry - l.attempt
