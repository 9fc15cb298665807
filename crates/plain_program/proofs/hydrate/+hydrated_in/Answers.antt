use Rattle.std.proofs.Common.{◌<◌, arith}
use Rattle.sp_model.specs.Hydration.{hydrate_call}
use Rattle.plain_program.proofs.Hydrating.{hydrated_step}
use Rattle.plain_program.proofs.hydrate.+hydrated_in.Goals as goal

pub returns : goal.returns
returns g t c =
    let deep : 0 < c.args.depth = omega arith in
    hydrated_step c.args.table.now.functions (hydrate_call c.args.table.now (g.R.Replies.answers c.args.replies.now) c.args.item.now) c.args.name.now c.in-Some.function.now c.args.depth c.as_slice.result.now
    c.as_slice-depends.result.now c.loop-index.index c.loop-index.results c.in_ok-outcome-2.outcome deep c.in-Some.ensures c.as_slice.ensures c.as_slice-depends.ensures c.loop-index-test.false
    c.loop-index.invariant c.in_ok-outcome-2.ensures
