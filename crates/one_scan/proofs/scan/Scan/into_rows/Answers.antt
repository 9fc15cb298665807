use Rattle.one_scan.proofs.Truth.{rows_are}
use Rattle.one_scan.proofs.scan.Scan.into_rows.Goals as goal

pub returns : goal.returns
returns g c =
    let s = c.self.inside in
    let are = rw (← c.self.view_is) at c.requires in
    rw (← c.self.view_is) (rows_are g.W.World.book s.scope s.course s.course.end are)
