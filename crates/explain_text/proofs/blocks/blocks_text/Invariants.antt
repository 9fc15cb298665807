-- The text so far, followed by that of the blocks that are left.
use Rattle.std.proofs.Common.{◌≡◌, ◌++◌, length}
use Rattle.explain_text.specs.Blocks.{blocks_text}
use Rattle.explain_text.proofs.blocks.blocks_text.Given as goal

abbrev pub invariant-more : goal.invariant-more
invariant-more l = l.text.items ++ blocks_text l.rest ≡ blocks_text l.blocks

abbrev pub decreases-more : goal.decreases-more
decreases-more l = length l.rest
