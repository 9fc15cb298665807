use Rattle.std.proofs.Common.{◌≡◌, ◌-◌, drop, length}
use Rattle.sp_model.specs.Hydration.{results_of, hydrate_call, hydrated_in}
use Rattle.plain_program.proofs.hydrate.+hydrated_in.Given as goal

abbrev pub decreases-hydrated_in : goal.decreases-hydrated_in
decreases-hydrated_in g l = l.depth

abbrev pub invariant-loop-index : goal.invariant-loop-index
invariant-loop-index g l =
    l.results ≡ results_of (hydrated_in (l.depth - 1) l.table.functions (hydrate_call l.table (g.R.Replies.answers l.replies) l.item)) (drop (length l.depends - l.index) l.depends)
