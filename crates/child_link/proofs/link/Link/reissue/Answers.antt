use Rattle.std.proofs.Common.{[], ap, subst}
use Rattle.child_link.specs.Open.{calls_of, jobs_of}
use Rattle.child_link.specs.Ledger.{Moves}
use Rattle.child_link.proofs.Weighing.{reissue_moves}
use Rattle.child_link.proofs.link.Link.reissue.Goals as goal

pub returns-clause-ledger : goal.returns-clause-ledger
returns-clause-ledger g c =
    let old = c.self.inside.parts in
    let new = c.end_calls.new.parts in
    subst (λ v. Moves (g.C.Child.log v.child) (calls_of v.flights.items) (g.C.Child.log new.child) (calls_of new.flights.items) [] (jobs_of c.end_calls.result.items)) c.self.view_is
    (reissue_moves (g.C.Child.log old.child) (g.C.Child.log new.child) old.flights.items new.flights.items c.end_calls.result.items (ap g.C.Child.log c.end_calls.ensures.child.0) c.end_calls.ensures.none.0 c.end_calls.ensures.back)
