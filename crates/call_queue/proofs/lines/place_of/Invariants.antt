use Rattle.std.proofs.Common.{◌≡◌, ◌+◌, ◌≤◌, drop, length, bytes_eq}
use Rattle.std.specs.List.{position_or_len}
use Rattle.call_queue.specs.declared.lines.NamedLine.{NamedLine}
use Rattle.call_queue.proofs.lines.place_of.Given as goal

abbrev pub invariant-loop-index : goal.invariant-loop-index
invariant-loop-index l = record {
  within : l.index ≤ length l.lines;
  rest : l.index + position_or_len (λ (n : NamedLine). bytes_eq n.name l.name) (drop l.index l.lines) ≡ position_or_len (λ (n : NamedLine). bytes_eq n.name l.name) l.lines;
}
