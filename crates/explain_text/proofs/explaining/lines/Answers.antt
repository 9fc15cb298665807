use Rattle.std.proofs.Common.{List, All, sym, subst}
use Rattle.std.specs.Arc.{arc_value}
use Rattle.source_scans.specs.declared.source.PlanSource.{PlanSource}
use Rattle.explain_text.specs.Functions.{CanHydrate}
use Rattle.explain_text.proofs.Sounds.{plans_sound}
use Rattle.explain_text.proofs.explaining.lines.Goals as goal

pub lines_of-requires : goal.lines_of-requires
lines_of-requires c =
    subst (λ (ps : List PlanSource). All (λ (p : PlanSource). CanHydrate (arc_value p.table)) ps) (sym c.as_slice-2.ensures)
    (plans_sound c.args.bound.now c.in_ok-plan.plan.sources c.in_ok-plan.ensures.ok.sources c.requires)
