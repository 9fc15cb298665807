use Rattle.std.proofs.Common.{◌∙◌, ap, sym}
use Rattle.std.specs.Arc.{arc_value}
use Rattle.std.specs.Prelude.{is_some}
use Rattle.sp_world.specs.Fits.{told_by}
use Rattle.child_link.proofs.Finding.{misfit, unknown, unfit, fit}
use Rattle.sp_world.specs.ReplyLines.{seen}
use Rattle.child_link.proofs.looking.look.Goals as goal

pub returns-in_default : goal.returns-in_default
returns-in_default c =
    misfit _ c.args.flights.now c.args.bytes.now c.misfit-in_default.ensures
    (unknown c.args.flights.now c.args.bytes.now (seen c.in-Ok.line) c.number_of.result c.number_of.ensures c.in-Ok.ensures.answer (sym c.find.ensures ∙ c.in_default.is))

pub returns-then-not-fits : goal.returns-then-not-fits
returns-then-not-fits c =
    misfit _ c.args.flights.now c.args.bytes.now c.misfit-then-not-fits.ensures
    (unfit c.args.flights.now c.args.bytes.now (seen c.in-Ok.line) c.in-Some.at c.index-flights-at.result c.number_of.result c.number_of.ensures c.in-Ok.ensures.answer (sym c.find.ensures ∙ c.in-Some.is) c.index-flights-at.is (ap (λ a. is_some (told_by a c.index-flights-at.result.taken (seen c.in-Ok.line))) (sym c.deref.ensures) ∙ sym c.fits.ensures ∙ c.if-not-fits.true))

pub returns : goal.returns
returns c =
    fit c.args.flights.now c.args.bytes.now (seen c.in-Ok.line) c.in-Some.at c.index-flights-at.result (arc_value c.in_ok-asked.asked) c.number_of.result c.number_of.ensures c.in-Ok.ensures.answer c.in-Ok.ensures.form
    (sym c.find.ensures ∙ c.in-Some.is) c.index-flights-at.is (ap (λ a. is_some (told_by a c.index-flights-at.result.taken (seen c.in-Ok.line))) (sym c.deref.ensures) ∙ sym c.fits.ensures ∙ c.if-not-fits.false) c.in_ok-asked.ensures
