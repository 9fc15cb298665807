-- The names of a table's map are its keys.
use Rattle.std.proofs.Common.{◌∙◌}
use Rattle.read_members.proofs.Entries.{table_is}
use Rattle.read_members.proofs.trees.table_has_only.Goals as goal

pub returns-in-Table : goal.returns-in-Table
returns-in-Table c = c.are_among.ensures ∙ table_is _ c.args.value.now c.in-Table.members c.in-Table.is
