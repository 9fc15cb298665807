use Rattle.std.proofs.Common.{◌≤◌, length, sym, ap, ◌∙◌, subst}
use Rattle.hydrate_graph.specs.Graphs.{wants}
use Rattle.hydrate_graph.specs.Numbers.{number_of}
use Rattle.sp_model.specs.Hydration.{find_function}
use Rattle.explain_text.proofs.Founds.{some_of}
use Rattle.explain_text.proofs.functions.is_wanted.Goals as goal

pub number_of-requires : goal.number_of-requires
number_of-requires c = subst (λ fs. length fs ≤ 64) (sym c.functions.ensures.value) c.requires.few

pub returns : goal.returns
returns c =
    let plan = c.args.plan.now in
    let name = c.args.name.now in
    let s = some_of (find_function name plan.functions) c.requires.there in
    c.wants.ensures ∙ ap (wants plan) (c.number_of.ensures ∙ ap (λ fs. number_of fs name) c.functions.ensures.value) ∙ c.functions.ensures.wanted name s.0 s.1
