use Rattle.std.proofs.Common.{◌≡◌, ◌+◌, length, Some, refl, ap, ◌∙◌, sym}
use Rattle.std.proofs.lemmas.Bool.{ltb-true}
use Rattle.std.proofs.lemmas.Option.{slice_get_read}
use Rattle.std.specs.Prelude.{slice_get}
use Rattle.explain_text.specs.Lines.{lines_from}
use Rattle.explain_text.proofs.Lined.{lines_more}
use Rattle.explain_text.proofs.lines.lines_of.Goals as goal

pub loop-source-preserved : goal.loop-source-preserved
loop-source-preserved c =
    let sources = c.args.sources.now in
    let plans = c.args.plans.now in
    let found = c.in-Some.ensures.lookup in
    let at : slice_get plans c.loop-source.number ≡ Some c.in-Some.plan.now = slice_get_read plans (length plans) c.loop-source.number c.in-Some.plan.now refl (ltb-true _ _ (sym found.0)) found.1 in
    record {
      counted = ap (λ n. n + 1) c.loop-source.invariant.counted;
      text = lines_more sources plans (c.loop-source.number + 1) sources plans c.loop-source.source-index c.source-item.result c.in-Some.plan.now c.loop-source.text.items
          c.push_line.new.text.items (lines_from sources plans 1 sources plans) c.loop-source-test.true c.source-item.is
          (ap (slice_get plans) (sym c.loop-source.invariant.counted) ∙ at) c.in_ok-push_line.ensures c.loop-source.invariant.text;
    }
