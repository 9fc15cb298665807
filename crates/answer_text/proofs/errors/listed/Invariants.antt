-- The text so far, followed by the names that are left, is the whole.
use Rattle.std.proofs.Common.{◌≡◌, ◌++◌, length}
use Rattle.std.specs.Prelude.{string_bytes}
use Rattle.answer_text.specs.Errors.{listed}
use Rattle.answer_text.proofs.errors.listed.Given as goal

abbrev pub invariant-more : goal.invariant-more
invariant-more l = string_bytes l.text ++ listed l.rest ≡ listed l.names

abbrev pub decreases-more : goal.decreases-more
decreases-more l = length l.rest
