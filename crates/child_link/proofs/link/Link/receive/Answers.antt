use Rattle.std.proofs.Common.{subst}
use Rattle.child_link.specs.Arrived.{GrewByGiven}
use Rattle.child_link.proofs.link.Link.receive.Goals as goal

pub returns-clause-log : goal.returns-clause-log
returns-clause-log g c = λ tells. subst (λ v. GrewByGiven (g.C.Child.log v.child) (g.C.Child.log c.receive_line.new.parts.child)) c.self.view_is (c.receive_line.ensures.log tells)
