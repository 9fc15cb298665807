-- The first repeat of those that are left is the first.
use Rattle.std.proofs.Common.{◌≡◌, ◌+◌, [], drop, map}
use Rattle.settings_text.specs.Reading.{first_repeat}
use Rattle.settings_text.proofs.refusals.first_repeat.Given as goal

abbrev pub invariant-loop-entry : goal.invariant-loop-entry
invariant-loop-entry g l =
    (l.number ≡ l.entry-index)
    × (first_repeat l.seen (l.entry-index + 1) (map g.T.Listed.name_of (drop l.entry-index l.entries)) ≡ first_repeat [] 1 (map g.T.Listed.name_of l.entries))
