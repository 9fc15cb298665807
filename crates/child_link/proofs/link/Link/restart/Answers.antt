use Rattle.std.proofs.Common.{[], is_ok, ap, subst}
use Rattle.child_link.specs.Open.{calls_of}
use Rattle.child_link.specs.Ledger.{Moves}
use Rattle.child_link.proofs.Weighing.{start_moves}
use Rattle.child_link.proofs.link.Link.restart.Goals as goal

pub returns-clause-ledger : goal.returns-clause-ledger
returns-clause-ledger g c = λ tells.
    let old = c.self.inside.parts in
    let new = c.start_child.new.parts in
    subst (λ v. Moves (g.C.Child.log v.child) (calls_of v.flights.items) (g.C.Child.log new.child) (calls_of new.flights.items) [] []) c.self.view_is
    (start_moves (g.C.Child.log old.child) (g.C.Child.log new.child) (is_ok c.start_child.result) (calls_of old.flights.items) (calls_of new.flights.items) (c.start_child.ensures.log tells) (ap (λ o. calls_of o.items) c.start_child.ensures.same.0))
