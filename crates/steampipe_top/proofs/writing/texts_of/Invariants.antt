-- The text so far, followed by that of the blocks that are left, is the whole.
use Rattle.std.proofs.Common.{◌≡◌, ◌++◌, length}
use Rattle.steampipe_top.specs.Shown.{texts_of}
use Rattle.steampipe_top.proofs.writing.texts_of.Given as goal

abbrev pub invariant-more : goal.invariant-more
invariant-more l = l.text.items ++ texts_of l.form l.rest ≡ texts_of l.form l.blocks

abbrev pub decreases-more : goal.decreases-more
decreases-more l = length l.rest
