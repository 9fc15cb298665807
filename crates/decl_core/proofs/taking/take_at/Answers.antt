-- One turn more.
use Rattle.std.proofs.Common.{ℕ, List, ◌+◌, drop, get_or, sym, ap, ◌∙◌}
use Rattle.std.proofs.lemmas.List.{at_drop_more}
use Rattle.decl_core.specs.Taking.{after_turns, at_places}
use Rattle.decl_core.proofs.Leftovers.{turns-at}
use Rattle.decl_core.proofs.taking.take_at.Goals as goal

pub loop-place-preserved : goal.loop-place-preserved
loop-place-preserved c =
    let functions = c.args.functions.now in
    let places = c.args.places.now in
    let i = c.loop-place.place-index in
    let left : List (List ℕ) → List ℕ → List (List ℕ) = λ taken more. after_turns taken (at_places functions more) in
    ap (λ taken. left taken (drop (i + 1) places)) c.in_ok-take_place.ensures
    ∙ sym (turns-at functions (get_or places i 0) (drop (i + 1) places) c.loop-place.taken)
    ∙ sym (at_drop_more (left c.loop-place.taken) places i 0 c.loop-place-test.true)
    ∙ c.loop-place.invariant
