-- Which names are unknown depends on which names there are.
use Rattle.std.proofs.Common.{ap, ◌∙◌}
use Rattle.sp_model.specs.Hydration.{names_of_functions}
use Rattle.sp_model.specs.Names.{has_name}
use Rattle.decl_core.proofs.Unknowns.{unknown_by}
use Rattle.decl_core.proofs.table_rule.UnknownFunctionTableRule.refuses.Goals as goal

pub returns : goal.returns
returns c =
    let table = c.args.table.now in
    c.some_unknown.ensures
    ∙ unknown_by c.in_ok-names.names (names_of_functions table.functions) (λ name. c.in_ok-names.ensures name ∙ ap (λ fs. has_name (names_of_functions fs) name) c.as_slice.ensures) table.columns table.functions
