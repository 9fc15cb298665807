use Rattle.std.proofs.Common.{◌≡◌, ◌*◌, take, map, pos, ◌+ℤ◌, neg_ℤ, ◌≤ℤ◌, fold}
use Rattle.load_gen.specs.Summary.{third}
use Rattle.load_gen.proofs.totals.sum_of.Given as goal

-- each integer is within 2^63
abbrev pub invariant-loop-row : goal.invariant-loop-row
invariant-loop-row l =
    (l.sum ≡ fold ◌+ℤ◌ (pos 0) (map third (take l.row-index l.rows)))
    × (neg_ℤ (pos (9223372036854775808 * l.row-index)) ≤ℤ l.sum) × (l.sum ≤ℤ pos (9223372036854775808 * l.row-index))
