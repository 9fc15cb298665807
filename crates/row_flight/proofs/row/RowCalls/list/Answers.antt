use Rattle.std.proofs.Common.{◌≡◌, ◌<◌, length, get_or, Some, sym, ap, ◌∙◌, arith}
use Rattle.row_flight.proofs.Naming.{get_within}
use Rattle.row_flight.proofs.ListedCalls.{lists_nothing, lists_then, ready_at, all_listed, done_more, said_listed}
use Rattle.row_flight.specs.Flying.{key_at}
use Rattle.row_flight.specs.Rows.{attempt_of}
use Rattle.row_flight.proofs.row.RowCalls.list.Goals as goal

pub loop-function-init : goal.loop-function-init
loop-function-init c = record {
  lists = lists_nothing c.args.frame.now c.args.seat.scan (key_at c.args.seat) c.args.self.now c.args.into.now c.requires;
  items = c.as_slice-function-items.ensures ∙ c.ready.ensures;
  done = λ place k l at. absurd (omega (arith, l));
}

pub list_one-requires-clause-ready : goal.list_one-requires-clause-ready
list_one-requires-clause-ready c =
    let items = c.as_slice-function-items.result.now in
    let l : c.loop-function.function-index < length items = omega (arith, c.loop-function-test.true) in
    ready_at c.args.self.now c.loop-function.self items c.loop-function.invariant.lists.graph c.loop-function.invariant.items c.loop-function.function-index (get_or items c.loop-function.function-index 0)
    (get_within items c.loop-function.function-index 0 l)

pub returns-in_err-list_one-clause-lists : goal.returns-in_err-list_one-clause-lists
returns-in_err-list_one-clause-lists c =
    lists_then c.args.frame.now c.args.seat.scan (key_at c.args.seat) c.args.self.now c.loop-function.self c.list_one.new.self c.args.into.now c.loop-function.into c.list_one.new.into c.loop-function.invariant.lists
    c.list_one.ensures.lists

pub loop-function-preserved : goal.loop-function-preserved
loop-function-preserved c =
    let items = c.as_slice-function-items.result.now in
    record {
      lists =
          lists_then c.args.frame.now c.args.seat.scan (key_at c.args.seat) c.args.self.now c.loop-function.self c.list_one.new.self c.args.into.now c.loop-function.into c.list_one.new.into c.loop-function.invariant.lists
          c.list_one.ensures.lists;
      items = c.loop-function.invariant.items;
      done = done_more c.args.frame.now c.args.seat.scan (key_at c.args.seat) c.args.self.now c.loop-function.self c.list_one.new.self items c.loop-function.function-index c.loop-function.into c.list_one.new.into
          c.loop-function.invariant.lists.graph c.loop-function.invariant.items c.list_one.ensures.lists
          (λ k at.
          let l : c.loop-function.function-index < length items = omega (arith, c.loop-function-test.true) in
          let here : Some (get_or items c.loop-function.function-index 0) ≡ Some k = sym (get_within items c.loop-function.function-index 0 l) ∙ at in
          let same : get_or items c.loop-function.function-index 0 ≡ k = cc in
          ap (λ n. (attempt_of c.list_one.new.self n).listed) (sym same) ∙ c.in_ok-list_one.ensures.listed)
          c.loop-function.invariant.done;
    }

pub returns-clause-all : goal.returns-clause-all
returns-clause-all c =
    all_listed c.args.self.now c.loop-function.self c.as_slice-function-items.result.now c.loop-function.invariant.lists.graph c.loop-function.invariant.items
    (λ place k l at. c.loop-function.invariant.done place k (omega (arith, l, c.loop-function-test.false)) at)

pub returns-then-self-clause-lists : goal.returns-then-self-clause-lists
returns-then-self-clause-lists c = lists_nothing c.args.frame.now c.args.seat.scan (key_at c.args.seat) c.args.self.now c.args.into.now c.requires

pub returns-clause-lists : goal.returns-clause-lists
returns-clause-lists c =
    said_listed c.args.frame.now c.args.seat.scan (key_at c.args.seat) c.args.self.now c.loop-function.self c.args.into.now c.loop-function.into
    (all_listed c.args.self.now c.loop-function.self c.as_slice-function-items.result.now c.loop-function.invariant.lists.graph c.loop-function.invariant.items
    (λ place k l at. c.loop-function.invariant.done place k (omega (arith, l, c.loop-function-test.false)) at))
    c.loop-function.invariant.lists
