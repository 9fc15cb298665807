use Rattle.std.proofs.Common.{◌-◌, ◌+◌, ◌≤◌, vec_len}
use Rattle.std.specs.Io.KnownBytes.{Consumes}
use Rattle.sp_outside.proofs.source.read_to_limit.Given as goal

-- what was read so far was consumed
abbrev pub invariant-loop-chunk : goal.invariant-loop-chunk
invariant-loop-chunk g l = record {
  consumed : Consumes (g.S.ByteSource.left l.initial.source) (g.S.ByteSource.left l.source) l.bytes.items;
  later : g.S.ByteSource.faulted l.initial.source ≤ g.S.ByteSource.faulted l.source;
}

abbrev pub decreases-loop-chunk : goal.decreases-loop-chunk
decreases-loop-chunk g l = l.limit + 1 - vec_len l.bytes
