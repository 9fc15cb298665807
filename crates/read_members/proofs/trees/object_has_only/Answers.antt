-- The names of an object's map are those of its members.
use Rattle.std.proofs.Common.{◌∙◌}
use Rattle.read_members.proofs.Entries.{object_is}
use Rattle.read_members.proofs.trees.object_has_only.Goals as goal

pub returns-in-Object : goal.returns-in-Object
returns-in-Object c = c.are_among.ensures ∙ object_is _ c.args.value.now c.in-Object.members c.in-Object.is
