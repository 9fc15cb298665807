-- The blocks that are left, followed by what is shown from the end on, are all.
use Rattle.std.proofs.Common.{◌≡◌, ◌++◌, length, map, reverse}
use Rattle.steampipe_top.specs.Shown.{shown_block}
use Rattle.steampipe_top.proofs.writing.shown_blocks.Given as goal

abbrev pub invariant-more : goal.invariant-more
invariant-more l = map shown_block l.left ++ reverse l.shown.items ≡ map shown_block l.fn.blocks

abbrev pub decreases-more : goal.decreases-more
decreases-more l = length l.left
