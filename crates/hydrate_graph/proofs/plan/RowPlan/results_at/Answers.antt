use Rattle.std.proofs.Common.{◌≡◌, ap, sym, ◌∙◌}
use Rattle.sp_model.specs.Hydration.{results_of}
use Rattle.sp_model.specs.declared.outcome.Results.TheVariants.{Given}
use Rattle.hydrate_graph.specs.Graphs.{settled_by, known_in}
use Rattle.hydrate_graph.specs.Numbers.{depends_at}
use Rattle.hydrate_graph.specs.Ordered.{all_depends}
use Rattle.hydrate_graph.proofs.Ordered.{depends_here, no_depends, numbers_gave, results_zipped, as_many, names_rise}
use Rattle.hydrate_graph.proofs.Settling.{ready_gave}
use Rattle.hydrate_graph.proofs.plan.RowPlan.results_at.Goals as goal

pub returns-in_default : goal.returns-in_default
returns-in_default c =
    let p = c.args.self.now in
    let kept : c.self.inside.depends ≡ all_depends p.functions = c.self.invariant.depends_are ∙ ap (λ q. all_depends q.functions) c.self.view_is in
    ap (results_of (known_in p.functions (settled_by p.slots c.args.outcomes.now))) (no_depends p.functions c.self.inside.depends c.args.function kept c.in_default.ensures.value)
    ∙ ap (λ ms. Given ms) (sym c.new.ensures)

pub all_given-requires : goal.all_given-requires
all_given-requires c =
    let p = c.args.self.now in
    let settled = settled_by p.slots c.args.outcomes.now in
    let kept : c.self.inside.depends ≡ all_depends p.functions = c.self.invariant.depends_are ∙ ap (λ q. all_depends q.functions) c.self.view_is in
    let here = depends_here p.functions c.self.inside.depends c.args.function kept c.in-Some.depends.now c.in-Some.ensures.value in
    rw c.as_slice.ensures (numbers_gave p.functions settled (depends_at p.functions c.args.function) c.in-Some.depends.now here (ready_gave p settled c.args.function c.requires))

pub from_parts-requires : goal.from_parts-requires
from_parts-requires c =
    let p = c.args.self.now in
    let settled = settled_by p.slots c.args.outcomes.now in
    let kept : c.self.inside.depends ≡ all_depends p.functions = c.self.invariant.depends_are ∙ ap (λ q. all_depends q.functions) c.self.view_is in
    let here = depends_here p.functions c.self.inside.depends c.args.function kept c.in-Some.depends.now c.in-Some.ensures.value in
    let gives = ready_gave p settled c.args.function c.requires in
    record {
      as_many = as_many p.functions settled (depends_at p.functions c.args.function) c.in-Some.depends.now here gives c.in_ok-names.names c.in_ok-values.values c.in_ok-names.ensures (rw c.as_slice.ensures at c.in_ok-values.ensures);
      rising = names_rise p.functions settled (depends_at p.functions c.args.function) c.in-Some.depends.now here gives c.in_ok-names.names c.in_ok-names.ensures;
    }

pub returns : goal.returns
returns c =
    let p = c.args.self.now in
    let settled = settled_by p.slots c.args.outcomes.now in
    let kept : c.self.inside.depends ≡ all_depends p.functions = c.self.invariant.depends_are ∙ ap (λ q. all_depends q.functions) c.self.view_is in
    let here = depends_here p.functions c.self.inside.depends c.args.function kept c.in-Some.depends.now c.in-Some.ensures.value in
    results_zipped p.functions settled (depends_at p.functions c.args.function) c.in-Some.depends.now here (ready_gave p settled c.args.function c.requires) c.in_ok-names.names c.in_ok-values.values c.in_ok-names.ensures (rw c.as_slice.ensures at c.in_ok-values.ensures)
    ∙ ap (λ ms. Given ms) (sym c.from_parts.ensures)
