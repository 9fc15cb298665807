-- The words so far.
use Rattle.std.proofs.Common.{◌≡◌, map, take}
use Rattle.command_words.proofs.reading.lent.Given as goal

abbrev pub invariant-loop-word : goal.invariant-loop-word
invariant-loop-word l = map (λ w. w.now) l.list.items ≡ take l.word-index l.words
