-- What a pool ends as, where a `&mut` to one of its values is returned.
use Rattle.std.specs.Prelude.{Option}
use Rattle.std.specs.Borrow.{LendsIf, Fml, RattleType, MutBor}
use Rattle.row_pool.specs.Pools.{Pool, with_value}
use Rattle.row_pool.specs.declared.key.Key.{Key}
use Rattle.row_pool.specs.contracts.pool.Pool.{the_row}

-- once the borrow ends, the key has the last value written through it; at `None` the pool stays as it is
abbrev pub lends_value : (T : RattleType) → MutBor (Pool T.Denot) → Key → Option (MutBor T.Denot) → Fml
lends_value T p key r = LendsIf (the_row T) T p r (with_value p.now key) p.now
