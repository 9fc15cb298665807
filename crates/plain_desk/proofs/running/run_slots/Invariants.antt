use Rattle.std.proofs.Common.{◌≡◌, map, length}
use Rattle.plain_desk.specs.Lost.{HasLost, KeepGone}
use Rattle.plain_desk.proofs.running.run_slots.Given as goal

abbrev pub invariant-loop-at : goal.invariant-loop-at
invariant-loop-at g l = record {
  len : length l.slots.items ≡ length l.fn.slots.items;
  own : map (λ s. g.C.Child.connection s.link.child) l.slots.items ≡ map (λ s. g.C.Child.connection s.link.child) l.fn.slots.items;
  gone : KeepGone (HasLost g.W.World.tells g.W.World.book g.C.Child.faulted g.C.Child.gives) l.fn.slots.items l.slots.items;
}
