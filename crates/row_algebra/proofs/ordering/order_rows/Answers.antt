use Rattle.std.proofs.Common.{rules}
use Rattle.std.proofs.lemmas.Fn.{always_returns_same}
use Rattle.row_algebra.specs.RowOrder.{comes_before}
use Rattle.row_algebra.proofs.Sorting.{sorted_is}
use Rattle.row_algebra.proofs.RowOrders.{is_order}
use Rattle.row_algebra.proofs.ordering.order_rows.Goals as goal

pub returns-in-Ok-clause-sorted : goal.returns-in-Ok-clause-sorted
returns-in-Ok-clause-sorted c =
    c.in-Ok.ensures.sorted (comes_before c.args.keys.now) (is_order c.args.keys.now) (always_returns_same _ _ _ (λ a r f' k. search rules))

pub returns-in-Ok-clause-stable : goal.returns-in-Ok-clause-stable
returns-in-Ok-clause-stable c =
    c.in-Ok.ensures.stable (comes_before c.args.keys.now) (is_order c.args.keys.now) (always_returns_same _ _ _ (λ a r f' k. search rules))

pub returns-in-Ok-clause-ok : goal.returns-in-Ok-clause-ok
returns-in-Ok-clause-ok c =
    sorted_is (comes_before c.args.keys.now) (is_order c.args.keys.now) c.args.rows.now c.sort_by-sorted.new.self
    (returns-in-Ok-clause-sorted c) (returns-in-Ok-clause-stable c)
