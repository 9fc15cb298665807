-- The characters so far and those of the bytes that are left are all.
use Rattle.std.proofs.Common.{◌≡◌, ◌+◌, drop}
use Rattle.answer_text.specs.Columns.{characters}
use Rattle.answer_text.proofs.columns.characters.Given as goal

abbrev pub invariant-loop-byte : goal.invariant-loop-byte
invariant-loop-byte l = l.count + characters (drop l.byte-index l.text) ≡ characters l.text
