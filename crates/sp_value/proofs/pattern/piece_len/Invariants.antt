use Rattle.std.proofs.Common.{◌≡◌, take, true}
use Rattle.sp_value.specs.Patterns.{is_literal}
use Rattle.sp_value.proofs.pattern.piece_len.Given as goal

abbrev pub invariant-loop-index : goal.invariant-loop-index
invariant-loop-index l = is_literal (take l.index l.pattern) ≡ true
