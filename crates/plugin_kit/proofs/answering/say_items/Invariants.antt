-- The items so far were written.
use Rattle.std.proofs.Common.{◌≤◌, take}
use Rattle.std.specs.Io.KnownBytes.{Appends}
use Rattle.plugin_kit.specs.Said.{items_text}
use Rattle.plugin_kit.proofs.answering.say_items.Given as goal

abbrev pub invariant-loop-item : goal.invariant-loop-item
invariant-loop-item g l = record {
  written : Appends (g.O.Sink.held l.initial.sink) (g.O.Sink.held l.sink) (items_text l.id (take l.item-index l.items));
  later : g.O.Sink.faulted l.initial.sink ≤ g.O.Sink.faulted l.sink;
}
