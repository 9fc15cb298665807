use Rattle.std.proofs.Common.{◌≡◌, ◌∷◌, [], ◌++◌, subst, ap, sym, ◌∙◌, IsErr}
use Rattle.sp_world.specs.RequestLines.{request_of}
use Rattle.sp_outside.specs.BookLog.{Stands, Opens}
use Rattle.sp_outside.specs.declared.log.Event.TheVariants.{Heard}
use Rattle.sp_outside.proofs.OpenCalls.{heard_none}
use Rattle.sp_outside.proofs.book_log.BookLog.hear.Goals as goal

pub invariant_of-self-in-None : goal.invariant_of-self-in-None
invariant_of-self-in-None g c =
    let book = g.W.World.book in
    let log = c.self.inside.events in
    let line = c.args.line.now in
    let none : IsErr (request_of line) = subst (Opens book line) c.in-None.is c.in_ok-answering.ensures in
    let logged : c.push.new.self ≡ log ++ Heard line ∷ [] = c.in-Ok-push.ensures.ok ∙ ap (λ b. log ++ Heard b ∷ []) c.in-Ok-from_slice.ensures in
    let stands = heard_none book log c.self.inside.calls.items line c.self.invariant.2 none in
    let kept = subst (Stands book (log ++ Heard line ∷ [])) (sym c.in-Ok.ensures.items) stands in
    (c.self.invariant.0, c.self.invariant.1, subst (λ l. Stands book l c.reserve.new.self.items) (sym logged) kept)
