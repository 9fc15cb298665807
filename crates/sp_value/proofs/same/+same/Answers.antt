use Rattle.std.proofs.Common.{sym, ap, ◌∙◌}
use Rattle.sp_value.specs.Names.{values_of}
use Rattle.sp_value.proofs.Zips.{same_parts}
use Rattle.sp_value.proofs.same.+same.Goals as goal

pub same_members-returns-then-same_texts : goal.same_members-returns-then-same_texts
same_members-returns-then-same_texts t c = (
  λ h. same_parts c.args.left.now c.args.right.now
      (sym c.names.ensures.value ∙ c.same_texts.ensures.0 c.if-same_texts.true ∙ c.names-2.ensures.value)
      (sym c.values.ensures ∙ c.same_cells.ensures.0 h ∙ c.values-then-same_texts.ensures),
  λ e. c.same_cells.ensures.1 (c.values.ensures ∙ ap values_of e ∙ sym c.values-then-same_texts.ensures),
)
