use Rattle.std.proofs.Common.{◌++◌, take, drop, arith, ap, sym, ◌∙◌, append_assoc, take-append-drop}
use Rattle.std.proofs.lemmas.Grind.{common_steps}
use Rattle.std.proofs.KnownBytes.{Appends-trans}
use Rattle.sp_outside.proofs.sink.write_all.Goals as goal

-- what was written before, and the piece that this turn wrote
pub loop-rest-preserved : goal.loop-rest-preserved
loop-rest-preserved g c =
    let before = c.loop-rest.invariant in
    let rest = c.loop-rest.rest.now in
    let n = c.in_ok-count.count in
    let piece = take n rest in (
      before.0 ++ piece,
      before.1 ∙ ap (λ r. before.0 ++ r) (sym (take-append-drop n rest)) ∙ sym (append_assoc before.0 piece (drop n rest)) ∙ grind (arith, common_steps),
      Appends-trans _ _ _ before.0 piece before.2 c.in_ok-count.ensures.bytes,
      omega (arith, before.3, c.write.ensures.cause.later),
    )
