use Rattle.std.proofs.Common.{◌<◌, length, get_or, refl, arith}
use Rattle.row_flight.proofs.ListedCalls.{ready_at}
use Rattle.row_flight.proofs.Naming.{get_within}
use Rattle.row_flight.proofs.row.RowCalls.due.Goals as goal

pub waits_until-requires-clause-ready : goal.waits_until-requires-clause-ready
waits_until-requires-clause-ready c =
    let items = c.as_slice-function-items.result.now in
    let l : c.loop-function.function-index < length items = omega (arith, c.loop-function-test.true) in
    ready_at c.args.self.now c.args.self.now items refl c.loop-function.invariant.items c.loop-function.function-index (get_or items c.loop-function.function-index 0) (get_within items c.loop-function.function-index 0 l)
