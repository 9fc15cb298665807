use Rattle.std.proofs.Common.{◌≡◌, ◌+◌, bytes_eq, drop}
use Rattle.std.specs.List.{position_or_len}
use Rattle.statement_plan.proofs.layout.place_of_name.Given as goal

abbrev pub invariant-loop-place : goal.invariant-loop-place
invariant-loop-place l = position_or_len (bytes_eq l.name) l.columns ≡ l.place + position_or_len (bytes_eq l.name) (drop l.place l.columns)
