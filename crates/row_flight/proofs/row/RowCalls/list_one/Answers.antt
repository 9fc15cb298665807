use Rattle.std.proofs.Common.{◌≡◌, rules, false, refl, sym, ap, subst, ◌∙◌}
use Rattle.row_flight.proofs.ListedCalls.{lists_nothing, lists_one}
use Rattle.row_flight.specs.Flying.{key_at}
use Rattle.row_flight.specs.Jobs.{RowLists}
use Rattle.row_flight.specs.Rows.{attempt_of}
use Rattle.row_flight.proofs.row.RowCalls.list_one.Goals as goal

pub returns-then-attempt-clause-lists : goal.returns-then-attempt-clause-lists
returns-then-attempt-clause-lists c = lists_nothing c.args.frame.now c.args.seat.scan (key_at c.args.seat) c.args.self.now c.args.into.now c.requires.row

pub returns-in_err-wanted-clause-lists : goal.returns-in_err-wanted-clause-lists
returns-in_err-wanted-clause-lists c = lists_nothing c.args.frame.now c.args.seat.scan (key_at c.args.seat) c.args.self.now c.args.into.now c.requires.row

pub returns-in_err-push-clause-lists : goal.returns-in_err-push-clause-lists
returns-in_err-push-clause-lists c =
    subst (RowLists c.args.frame.now c.args.seat.scan (key_at c.args.seat) c.args.self.now c.args.self.now c.args.into.now) (sym c.in_err-push.ensures.err)
    (lists_nothing c.args.frame.now c.args.seat.scan (key_at c.args.seat) c.args.self.now c.args.into.now c.requires.row)

pub returns-clause-lists : goal.returns-clause-lists
returns-clause-lists c =
    let l : (attempt_of c.args.self.now c.args.seat.function).listed ≡ false = ap (λ a. a.listed) (sym c.attempt.ensures.value) ∙ search rules in
    subst (λ row. RowLists c.args.frame.now c.args.seat.scan (key_at c.args.seat) c.args.self.now row c.args.into.now c.push.new.self) (sym c.list_function.ensures.listed)
    (lists_one c.args.self.now c.args.seat.function c.list_function.ensures.placed.0 c.list_function.ensures.placed.1 c.args.frame.now c.args.seat c.in_ok-wanted.wanted c.args.into.now c.push.new.self refl c.requires.row
    c.requires.ready l c.in_ok-wanted.ensures c.in_ok-push.ensures.ok)
