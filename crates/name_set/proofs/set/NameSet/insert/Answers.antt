-- A name that was new stands at the end.
use Rattle.std.proofs.Common.{not, sym, ◌∙◌, ap, cond, ◌++◌, ◌∷◌, []}
use Rattle.sp_model.specs.Names.{has_name}
use Rattle.name_set.proofs.Keys.{names, has_name_keys, names_of_insert}
use Rattle.name_set.proofs.set.NameSet.insert.Goals as goal

pub returns-clause-added : goal.returns-clause-added
returns-clause-added c =
    c.in_ok-added.ensures.added ∙ ap not (sym (has_name_keys c.args.name.now c.self.inside.names.keys) ∙ ap (λ s. has_name s c.args.name.now) c.self.view_is)

pub returns-clause-names : goal.returns-clause-names
returns-clause-names c =
    let name = c.args.name in
    let before = c.args.self.now in
    ap names c.in_ok-added.ensures.keys
    ∙ names_of_insert name c.self.inside.names.keys
    ∙ ap (λ s. cond (not (has_name s name.now)) (s ++ name.now ∷ []) s) c.self.view_is
    ∙ ap (λ b. cond b (before ++ name.now ∷ []) before) (sym (returns-clause-added c))
