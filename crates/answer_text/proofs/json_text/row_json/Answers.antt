use Rattle.std.proofs.Common.{arith, false, sym, subst}
use Rattle.std.proofs.lemmas.Grind.{common_steps}
use Rattle.serde_json.proofs.Views.{view-Array}
use Rattle.serde_json.specs.View.{items_view}
use Rattle.serde_json.specs.Written.{items_have_float}
use Rattle.std.proofs.Common.{◌≡◌}
use Rattle.answer_text.proofs.JsonRows.{row_is, more_no_float}
use Rattle.answer_text.proofs.json_text.row_json.Goals as goal

pub returns-clause-value : goal.returns-clause-value
returns-clause-value c =
    let l = c.loop-cell in
    rw view-Array (row_is l.values.items c.args.row.now l.cell-index c.loop-cell-test.false l.invariant.so_far)

pub returns-clause-no_float : goal.returns-clause-no_float
returns-clause-no_float c = rw view-Array c.loop-cell.invariant.no_float

pub loop-cell-preserved : goal.loop-cell-preserved
loop-cell-preserved c = record {
  so_far = grind (arith, common_steps);
  no_float = subst (λ vs. items_have_float (items_view vs) ≡ false) (sym c.in-Ok.ensures.items)
      (more_no_float c.loop-cell.values.items c.in_ok-value.value c.loop-cell.invariant.no_float c.in_ok-value.ensures.no_float);
}
