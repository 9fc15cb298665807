-- The text so far, followed by the words that are left.
use Rattle.std.proofs.Common.{◌≡◌, ◌++◌, length, map}
use Rattle.answer_text.specs.Errors.{listed}
use Rattle.explain_text.specs.Conditions.{sent_text}
use Rattle.explain_text.proofs.conditions.push_each.Given as goal

abbrev pub invariant-more : goal.invariant-more
invariant-more l =
    l.text.items ++ listed (map (sent_text l.all.bound.now l.all.plans.now) l.rest) ≡ l.initial.text.items ++ listed (map (sent_text l.all.bound.now l.all.plans.now) l.sent)

abbrev pub decreases-more : goal.decreases-more
decreases-more l = length l.rest
