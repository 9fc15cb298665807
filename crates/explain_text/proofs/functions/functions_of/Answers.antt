use Rattle.std.proofs.Common.{IsSome, sym, ◌∙◌, subst}
use Rattle.sp_model.specs.Hydration.{find_function}
use Rattle.explain_text.proofs.Founds.{found}
use Rattle.explain_text.proofs.functions.functions_of.Goals as goal

pub add_wanted-requires-clause-there : goal.add_wanted-requires-clause-there
add_wanted-requires-clause-there c =
    subst (λ fs. IsSome (find_function c.function-item.result.name fs)) (c.as_slice-function-items.ensures ∙ sym c.in_ok-plan.ensures.functions)
    (found c.as_slice-function-items.result.now c.loop-function.function-index c.function-item.result c.loop-function-test.true c.function-item.is)
