use Rattle.std.proofs.Common.{◌≡◌, map}
use Rattle.std.specs.List.{range_with_len}
use Rattle.load_gen.specs.Rows.{item}
use Rattle.load_gen.proofs.rows.items.Given as goal

abbrev pub invariant-loop-id : goal.invariant-loop-id
invariant-loop-id l = l.rows ≡ map (item l.size) (range_with_len 0 l.id)
