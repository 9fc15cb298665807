use Rattle.std.proofs.Common.{◌≡◌, ◌++◌, drop}
use Rattle.sp_model.specs.Requests.{subset_names}
use Rattle.statement_plan.proofs.sources.subset_names.Given as goal

abbrev pub invariant-loop-key : goal.invariant-loop-key
invariant-loop-key l = l.names ++ subset_names (drop l.key-index l.keys) ≡ subset_names l.keys
