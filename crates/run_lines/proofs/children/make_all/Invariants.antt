use Rattle.std.proofs.Common.{◌≡◌, ◌+◌, length, map, take}
use Rattle.run_lines.specs.Blocks.{with_child}
use Rattle.run_lines.proofs.children.make_all.Given as goal

abbrev pub invariant-loop-connection : goal.invariant-loop-connection
invariant-loop-connection g l = record {
  back : g.M.Nursery.back l.nursery ≡ g.M.Nursery.back l.initial.nursery;
  made : g.M.Nursery.made l.nursery ≡ g.M.Nursery.made l.initial.nursery + length l.slots.items;
  names : map (λ s. g.M.Kid.Child.connection s.link.child) l.slots.items ≡ map (λ c. c.name) (with_child (take l.connection-index l.connections));
}
