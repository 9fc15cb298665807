-- The text so far, followed by the names that are left.
use Rattle.std.proofs.Common.{◌≡◌, ◌++◌, length, map}
use Rattle.answer_text.specs.Columns.{escaped}
use Rattle.answer_text.specs.Errors.{listed}
use Rattle.explain_text.proofs.listing.push_listed.Given as goal

abbrev pub invariant-more : goal.invariant-more
invariant-more l = l.text.items ++ listed (map escaped l.rest) ≡ l.initial.text.items ++ listed (map escaped l.names)

abbrev pub decreases-more : goal.decreases-more
decreases-more l = length l.rest
