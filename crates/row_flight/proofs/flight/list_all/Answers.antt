use Rattle.std.proofs.Common.{◌<◌, length, arith}
use Rattle.hydrate_graph.proofs.Rows.{get_is}
use Rattle.row_flight.proofs.ListedRows.{lists_none, listed_more, shown_more, pool_then}
use Rattle.row_flight.specs.Pooled.{seated}
use Rattle.row_flight.proofs.flight.list_all.Goals as goal

pub loop-place-init : goal.loop-place-init
loop-place-init c = record {
  shows = c.requires;
  lists = λ plan window number f. (f, lists_none c.args.scan (record { plan = plan; frame = c.args.frame.now; window = window; rows = seated c.args.pool.now c.args.order.now.items }) c.args.into.now);
  done = λ place key row l at is. absurd (omega (arith, l));
}

pub list_at-requires : goal.list_at-requires
list_at-requires c =
    let n = c.args.order.now.ok.0 in
    let l : c.loop-place.place < length c.args.order.now.items = omega (arith, n, c.loop-place-test.true) in
    c.loop-place.invariant.shows c.loop-place.place c.index.result.now (get_is c.args.order.now.items c.loop-place.place c.index.result.now l c.index.ensures)

pub returns-in_err-list_at-clause-lists : goal.returns-in_err-list_at-clause-lists
returns-in_err-list_at-clause-lists c = λ plan window number f.
    let n = c.args.order.now.ok.0 in
    let l : c.loop-place.place < length c.args.order.now.items = omega (arith, n, c.loop-place-test.true) in
    let at = get_is c.args.order.now.items c.loop-place.place c.index.result.now l c.index.ensures in
    let row = c.loop-place.invariant.shows c.loop-place.place c.index.result.now at in
    let next = c.list_at.ensures row.0 row.1 in
    pool_then plan c.args.frame.now window number c.args.scan c.args.order.now.items c.args.pool.now c.loop-place.pool c.list_at.new.pool c.loop-place.place c.index.result.now row.0 next.0 c.args.into.now c.loop-place.into
    c.list_at.new.into f (c.loop-place.invariant.lists plan window number f) at row.1 next.1 next.2

pub loop-place-preserved : goal.loop-place-preserved
loop-place-preserved c =
    let n = c.args.order.now.ok.0 in
    let l : c.loop-place.place < length c.args.order.now.items = omega (arith, n, c.loop-place-test.true) in
    let at = get_is c.args.order.now.items c.loop-place.place c.index.result.now l c.index.ensures in
    let row = c.loop-place.invariant.shows c.loop-place.place c.index.result.now at in
    let next = c.in_ok-list_at.ensures row.0 row.1 in
    record {
      shows = shown_more c.loop-place.pool c.list_at.new.pool c.args.order.now.items c.loop-place.place c.index.result.now next.0 next.1 at next.2.sound c.loop-place.invariant.shows;
      lists = λ plan window number f.
          pool_then plan c.args.frame.now window number c.args.scan c.args.order.now.items c.args.pool.now c.loop-place.pool c.list_at.new.pool c.loop-place.place c.index.result.now row.0 next.0 c.args.into.now
          c.loop-place.into c.list_at.new.into f (c.loop-place.invariant.lists plan window number f) at row.1 next.1 next.2;
      done = listed_more c.loop-place.pool c.list_at.new.pool c.args.order.now.items c.loop-place.place c.index.result.now next.0 next.1 at next.3 c.loop-place.invariant.done;
    }
