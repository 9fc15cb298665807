use Rattle.std.proofs.Common.{◌∷◌, [], subst}
use Rattle.child_link.specs.Open.{calls_of}
use Rattle.child_link.specs.Ledger.{Moves}
use Rattle.child_link.proofs.Weighing.{send_moves}
use Rattle.child_link.proofs.link.Link.send.Goals as goal

pub returns-clause-ledger : goal.returns-clause-ledger
returns-clause-ledger g c = λ tells.
    let old = c.self.inside.parts in
    let new = c.send_call.new.parts in
    subst (λ v. Moves (g.C.Child.log v.child) (calls_of v.flights.items) (g.C.Child.log new.child) (calls_of new.flights.items) (c.args.prepared.job ∷ []) []) c.self.view_is
    (send_moves c.send_call.result (g.C.Child.sends new.child) c.args.prepared c.args.permit (g.C.Child.log old.child) (g.C.Child.log new.child) old.flights.items new.flights.items
    (c.send_call.ensures.log tells) c.send_call.ensures.flights)
