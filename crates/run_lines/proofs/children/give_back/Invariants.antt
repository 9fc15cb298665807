-- What came back, followed by what is left from its end on; and what came back heard only lawful requests.
use Rattle.std.proofs.Common.{◌≡◌, ◌≤◌, ◌+◌, ◌++◌, length, map, reverse}
use Rattle.run_lines.proofs.ChildLaws.{CameLawfully}
use Rattle.run_lines.proofs.children.give_back.Given as goal

abbrev pub invariant-loop : goal.invariant-loop
invariant-loop g l = record {
  back : g.M.Nursery.back l.nursery ++ map (λ s. s.link.child) (reverse l.slots.items) ≡ g.M.Nursery.back l.initial.nursery ++ map (λ s. s.link.child) l.fn.slots.items;
  heard : CameLawfully g.M.Kid.Child g.W.World (g.M.Nursery.back l.initial.nursery) (g.M.Nursery.back l.nursery);
  made : g.M.Nursery.made l.nursery ≡ g.M.Nursery.made l.initial.nursery;
  left : l.counter + length l.slots.items ≡ length l.initial.slots.items;
  room : length (g.M.Nursery.back l.nursery) + length l.slots.items ≤ g.M.Nursery.made l.nursery;
}
