-- One name more.
use Rattle.std.proofs.Common.{◌≡◌, List, Bool, ◌∷◌, ◌||◌, ◌+◌, drop, bytes_eq, sym, ap, ◌∙◌}
use Rattle.std.proofs.lemmas.List.{at_drop_more}
use Rattle.sp_model.specs.declared.declaration.FunctionDecl.{FunctionDecl}
use Rattle.sp_model.specs.Hydration.{names_of_functions}
use Rattle.sp_model.specs.Names.{has_name}
use Rattle.name_set.proofs.Insertions.{has_name-insert}
use Rattle.decl_core.proofs.table_rule.function_names.Goals as goal

pub loop-function-preserved : goal.loop-function-preserved
loop-function-preserved c = λ name.
    let left : List FunctionDecl → Bool = λ cs. has_name (names_of_functions cs) name in
    let functions = c.args.functions.now in
    let i = c.loop-function.function-index in
    let before = has_name c.loop-function.names name in
    let rest = drop (i + 1) functions in
    let here : left (drop i functions) ≡ (bytes_eq name c.function-item.result.name || left rest) =
    at_drop_more left functions i c.function-item.result c.loop-function-test.true ∙ ap (λ x. left (x ∷ rest)) (sym c.function-item.is) in
    has_name-insert c.loop-function.names c.as_str.result.now c.insert.new.self c.in_ok-insert.field-0 c.in_ok-insert.ensures.added c.in_ok-insert.ensures.names name (left rest)
    ∙ ap (λ n. before || (bytes_eq name n || left rest)) c.as_str.ensures
    ∙ sym (ap (λ b. before || b) here)
    ∙ c.loop-function.invariant name
