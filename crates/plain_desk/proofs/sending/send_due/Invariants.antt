use Rattle.std.proofs.Common.{◌≡◌}
use Rattle.plain_desk.specs.Hearing.{IsLawfulSlot}
use Rattle.plain_desk.specs.Lost.{HasLost}
use Rattle.plain_desk.specs.Slots.{IsSlot}
use Rattle.plain_desk.proofs.sending.send_due.Given as goal

abbrev pub invariant-loop : goal.invariant-loop
invariant-loop g l = record {
  slot : IsSlot (HasLost g.W.World.tells g.W.World.book g.C.Child.faulted g.C.Child.gives) l.parts;
  lawful : IsLawfulSlot g.W.World.tells g.W.World.book g.C.Child.connection g.C.Child.log l.parts;
  own : g.C.Child.connection l.parts.link.child ≡ g.C.Child.connection l.fn.parts.link.child;
}
