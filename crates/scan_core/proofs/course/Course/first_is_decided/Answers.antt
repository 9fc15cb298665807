use Rattle.std.proofs.Common.{refl, sym, ◌∙◌}
use Rattle.scan_core.proofs.Fronts.{first_decided, first_waits, no_first}
use Rattle.scan_core.specs.Courses.{table_of}
use Rattle.scan_core.proofs.course.Course.first_is_decided.Goals as goal

pub returns-in-Some-clause-yes : goal.returns-in-Some-clause-yes
returns-in-Some-clause-yes g c = λ e.
    first_decided _ _ _ c.args.self.now.flight c.in-Some.row.now c.finished.result refl (sym c.in-Some.ensures.graph) (c.in-Some.ensures.row (table_of c.args.scope.now) c.args.scope.now.request c.requires.flight) c.finished.ensures.exact (sym c.is_some.ensures ∙ e)

pub returns-in-Some-clause-no : goal.returns-in-Some-clause-no
returns-in-Some-clause-no g c = λ e.
    first_waits _ _ _ c.args.self.now.flight c.in-Some.row.now c.finished.result refl (sym c.in-Some.ensures.graph) (c.in-Some.ensures.row (table_of c.args.scope.now) c.args.scope.now.request c.requires.flight) c.finished.ensures.exact (sym c.is_some.ensures ∙ e)

pub returns-in-None-clause-no : goal.returns-in-None-clause-no
returns-in-None-clause-no g c = λ e. no_first _ _ _ c.args.self.now.flight refl (sym c.in-None.ensures.graph)
