use Rattle.std.proofs.Common.{◌≡◌, true, sym, ap, ◌∙◌, arith}
use Rattle.std.proofs.lemmas.List.{take_all}
use Rattle.sp_value.specs.Patterns.{is_literal}
use Rattle.sp_value.proofs.Greedy.{last_fits}
use Rattle.sp_value.proofs.pattern.some_end_fits.Goals as goal

pub returns-then-piece-left : goal.returns-then-piece-left
returns-then-piece-left c =
    let left = c.loop-left.left.now in
    let n = c.piece_len-piece.result in
    let literal : is_literal left ≡ true = ap is_literal (sym (take_all n left (omega arith))) ∙ c.piece_len-piece.ensures.literal in
    c.ends_with.ensures.value ∙ sym (last_fits left c.loop-left.end.now literal) ∙ sym c.loop-left.invariant.0
