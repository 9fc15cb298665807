-- The names after the present place, in order.
use Rattle.std.proofs.Common.{◌≡◌, ◌-◌, drop, length}
use Rattle.sp_value.specs.Names.{names_of}
use Rattle.hydrate_graph.specs.Ordered.{ordered}
use Rattle.hydrate_graph.proofs.depends.nulls_under.Given as goal

abbrev pub invariant-loop-index : goal.invariant-loop-index
invariant-loop-index l = names_of l.members ≡ ordered (drop (length l.names - l.index) l.names)
