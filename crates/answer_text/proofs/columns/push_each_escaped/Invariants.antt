-- The text so far, followed by the bytes that are left, escaped, is the whole.
use Rattle.std.proofs.Common.{◌≡◌, ◌++◌, drop}
use Rattle.answer_text.specs.Columns.{escaped}
use Rattle.answer_text.proofs.columns.push_each_escaped.Given as goal

abbrev pub invariant-loop-byte : goal.invariant-loop-byte
invariant-loop-byte l = l.text.items ++ escaped (drop l.byte-index l.words) ≡ l.initial.text.items ++ escaped l.words
