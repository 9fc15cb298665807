-- Kept scans in the order of their last use.
use Rattle.std.specs.Prelude.{ℕ, ◌+◌, Bool, ◌&&◌, nat_lt, List, ◌∷◌, take}
use Rattle.std.specs.List.{find, position_or_len, remove, cons_option}
use Rattle.sp_model.specs.Covers.{covers}
use Rattle.sp_model.specs.declared.scan.ScanRequest.{ScanRequest}
use Rattle.sp_world.specs.declared.kept_scan.KeptScan.{KeptScan}

-- at most `limit` kept scans, the last used one first; each serves for `ttl` ticks
pub record CacheView : Type 0 where
  pub limit : ℕ
  pub ttl : ℕ
  pub entries : List KeptScan

abbrev pub with_entries : CacheView → List KeptScan → CacheView
with_entries c entries = record { limit = c.limit; ttl = c.ttl; entries = entries }

-- a kept scan serves a request at a tick: it covers the request, and the tick is less than the time to live after it was asked
abbrev pub serves : ScanRequest → ℕ → ℕ → KeptScan → Bool
serves request tick ttl kept = covers kept.note.request kept.complete request && nat_lt tick (kept.note.asked + ttl)

-- the first that passes, and then the others in their order; as they are where none passes
abbrev pub first_in_front : (KeptScan → Bool) → List KeptScan → List KeptScan
first_in_front passes entries = cons_option (find passes entries) (remove entries (position_or_len passes entries))

-- a kept scan in front; past the limit the last goes
abbrev pub put_in_front : KeptScan → CacheView → CacheView
put_in_front kept c = with_entries c (take c.limit (kept ∷ c.entries))
