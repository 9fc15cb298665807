use Rattle.one_scan.proofs.Truth.{is_true, is_formed}
use Rattle.one_scan.proofs.scan.Scan.result.Goals as goal

pub returns-in-Some-Complete-clause-form : goal.returns-in-Some-Complete-clause-form
returns-in-Some-Complete-clause-form g c =
    let s = c.self.inside in
    rw (← c.self.view_is) (is_formed g.W.World.book s.scope s.course g.W.World.tells s.version s.asked s.wanting c.self.invariant.0)

pub returns-in-Some-Complete-clause-told : goal.returns-in-Some-Complete-clause-told
returns-in-Some-Complete-clause-told g c =
    let s = c.self.inside in
    rw (← c.self.view_is) (is_true g.W.World.book s.scope s.course g.W.World.tells s.version s.asked s.wanting c.self.invariant.0)

pub returns-in-Some-Limited-clause-form : goal.returns-in-Some-Limited-clause-form
returns-in-Some-Limited-clause-form g c =
    let s = c.self.inside in
    rw (← c.self.view_is) (is_formed g.W.World.book s.scope s.course g.W.World.tells s.version s.asked s.wanting c.self.invariant.0)

pub returns-in-Some-Limited-clause-told : goal.returns-in-Some-Limited-clause-told
returns-in-Some-Limited-clause-told g c =
    let s = c.self.inside in
    rw (← c.self.view_is) (is_true g.W.World.book s.scope s.course g.W.World.tells s.version s.asked s.wanting c.self.invariant.0)

pub returns-in-Some-Failed-clause-told : goal.returns-in-Some-Failed-clause-told
returns-in-Some-Failed-clause-told g c =
    let s = c.self.inside in
    rw (← c.self.view_is) (is_true g.W.World.book s.scope s.course g.W.World.tells s.version s.asked s.wanting c.self.invariant.0)
