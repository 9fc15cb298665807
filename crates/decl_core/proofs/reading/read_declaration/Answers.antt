-- A declaration without a fault has sound tables.
use Rattle.std.proofs.Common.{All, sym, subst, ◌∙◌}
use Rattle.sp_model.specs.declared.declaration.Declaration.{Declaration}
use Rattle.decl_words.proofs.Soundness.{all-sound}
use Rattle.decl_words.specs.Sound.{IsSound}
use Rattle.decl_core.proofs.reading.read_declaration.Goals as goal

pub returns-in_ok-declaration-in-None-clause-sound : goal.returns-in_ok-declaration-in-None-clause-sound
returns-in_ok-declaration-in-None-clause-sound c =
    subst (λ (d : Declaration). All IsSound d.tables) (sym c.in_ok-declaration-in-None.ensures) (all-sound c.in_ok-draft.draft (sym c.in_ok-fault.ensures ∙ c.in-None.is))
