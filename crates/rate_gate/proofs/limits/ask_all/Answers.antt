use Rattle.std.proofs.Common.{List, [], ◌∷◌, ◌++◌, sym, ap, subst, ◌∙◌}
use Rattle.std.specs.List.{AllByRecursion}
use Rattle.rate_gate.specs.declared.tag_list.TagList.{TagList}
use Rattle.rate_gate.specs.declared.entry.Entry.{Entry}
use Rattle.rate_gate.specs.declared.entry.Entry.TheVariants.{Grant}
use Rattle.rate_gate.specs.declared.wait.Wait.TheVariants.{Memory}
use Rattle.rate_gate.specs.Instances.{Fits, view_of}
use Rattle.rate_gate.proofs.Grants.{all_kept, all_before, all_granted}
use Rattle.rate_gate.proofs.Asks.{same_view, refused_of, granted_of, answered_err}
use Rattle.rate_gate.proofs.limits.ask_all.Goals as goal

pub returns-in_err-prepare_all-clause-fits : goal.returns-in_err-prepare_all-clause-fits
returns-in_err-prepare_all-clause-fits c = all_kept c.args.journal.now c.args.limits.now c.prepare_all.new.limits c.requires.fits c.prepare_all.ensures.kept

pub returns-in_err-prepare_all-clause-answered : goal.returns-in_err-prepare_all-clause-answered
returns-in_err-prepare_all-clause-answered c = answered_err _ _ c.args.call.now c.args.tick c.from_residual.result Memory c.from_residual.ensures.1 (same_view c.args.journal.now c.args.limits.now c.prepare_all.new.limits c.prepare_all.ensures.kept)

pub returns-in_err-look-clause-fits : goal.returns-in_err-look-clause-fits
returns-in_err-look-clause-fits c = all_kept c.args.journal.now c.args.limits.now c.prepare_all.new.limits c.requires.fits c.prepare_all.ensures.kept

pub returns-in_err-look-clause-answered : goal.returns-in_err-look-clause-answered
returns-in_err-look-clause-answered c = answered_err _ _ c.args.call.now c.args.tick c.from_residual-in_err-look.result c.in_err-look.field-0.0 c.from_residual-in_err-look.ensures.1 (refused_of c.args.journal.now c.args.call.now c.args.limits.now c.prepare_all.new.limits c.args.tick c.in_err-look.field-0.0 c.requires.fits c.prepare_all.ensures.kept c.in_ok-prepare_all.ensures.ready c.requires.since c.in_err-look.ensures)

pub returns-in_err-tags-clause-fits : goal.returns-in_err-tags-clause-fits
returns-in_err-tags-clause-fits c = all_kept c.args.journal.now c.args.limits.now c.prepare_all.new.limits c.requires.fits c.prepare_all.ensures.kept

pub returns-in_err-tags-clause-answered : goal.returns-in_err-tags-clause-answered
returns-in_err-tags-clause-answered c = answered_err _ _ c.args.call.now c.args.tick c.from_residual-in_err-tags.result Memory c.from_residual-in_err-tags.ensures.1 (same_view c.args.journal.now c.args.limits.now c.prepare_all.new.limits c.prepare_all.ensures.kept)

pub returns-in_err-noted-clause-fits : goal.returns-in_err-noted-clause-fits
returns-in_err-noted-clause-fits c = all_kept c.args.journal.now c.args.limits.now c.prepare_all.new.limits c.requires.fits c.prepare_all.ensures.kept

pub returns-in_err-noted-clause-answered : goal.returns-in_err-noted-clause-answered
returns-in_err-noted-clause-answered c = answered_err _ _ c.args.call.now c.args.tick c.from_residual-in_err-noted.result Memory c.from_residual-in_err-noted.ensures.1 (same_view c.args.journal.now c.args.limits.now c.prepare_all.new.limits c.prepare_all.ensures.kept)

pub look-requires-clause-since : goal.look-requires-clause-since
look-requires-clause-since c = all_before c.args.journal.now c.args.tick c.prepare_all.new.limits c.requires.since (all_kept c.args.journal.now c.args.limits.now c.prepare_all.new.limits c.requires.fits c.prepare_all.ensures.kept)

pub returns-in_err-number-clause-fits : goal.returns-in_err-number-clause-fits
returns-in_err-number-clause-fits c = subst (λ (j : List Entry). AllByRecursion (Fits j) c.prepare_all.new.limits) (sym c.in_err-number.ensures.err) (all_kept c.args.journal.now c.args.limits.now c.prepare_all.new.limits c.requires.fits c.prepare_all.ensures.kept)

pub returns-in_err-number-clause-answered : goal.returns-in_err-number-clause-answered
returns-in_err-number-clause-answered c =
    answered_err _ _ c.args.call.now c.args.tick c.from_residual-in_err-number.result Memory c.from_residual-in_err-number.ensures.1
    (ap (λ (j : List Entry). view_of c.prepare_all.new.limits j) c.in_err-number.ensures.err ∙ same_view c.args.journal.now c.args.limits.now c.prepare_all.new.limits c.prepare_all.ensures.kept)

pub take_all-requires-clause-since : goal.take_all-requires-clause-since
take_all-requires-clause-since c = all_before c.args.journal.now c.args.tick c.prepare_all.new.limits c.requires.since (all_kept c.args.journal.now c.args.limits.now c.prepare_all.new.limits c.requires.fits c.prepare_all.ensures.kept)

pub returns-clause-fits : goal.returns-clause-fits
returns-clause-fits c =
    subst (λ (j : List Entry). AllByRecursion (Fits j) c.take_all.new.limits) (sym c.in_ok-number.ensures.noted)
    (subst (λ (t : TagList). AllByRecursion (Fits (c.args.journal.now ++ Grant c.in_ok-number.number t c.args.tick ∷ [])) c.take_all.new.limits) (sym c.in_ok-noted.ensures)
    (all_granted c.args.journal.now c.in_ok-number.number c.args.tick c.args.call.now c.prepare_all.new.limits c.take_all.new.limits (all_kept c.args.journal.now c.args.limits.now c.prepare_all.new.limits c.requires.fits c.prepare_all.ensures.kept) c.in_ok-prepare_all.ensures.ready c.in_ok-look.ensures.0 c.requires.since c.take_all.ensures))

pub returns-clause-answered : goal.returns-clause-answered
returns-clause-answered c =
    granted_of c.args.journal.now c.grant.new.self c.args.call.now c.args.limits.now c.prepare_all.new.limits c.take_all.new.limits c.args.tick c.new.result c.requires.fits c.prepare_all.ensures.kept c.in_ok-prepare_all.ensures.ready c.requires.since c.in_ok-look.ensures c.take_all.ensures
    (c.new.ensures.number ∙ c.in_ok-number.ensures.number) (c.new.ensures.tags ∙ c.in_ok-tags.ensures)
    (rw (c.new.ensures.number, c.new.ensures.tags, c.in_ok-tags.ensures, ← c.in_ok-noted.ensures) c.in_ok-number.ensures.noted)
