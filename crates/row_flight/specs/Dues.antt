-- Ticks for which calls wait.
use Rattle.std.specs.Prelude.{ℕ, ◌==◌, ◌&&◌, nat_lt, min, List, [], ◌∷◌, map, Option, Some, None, if◌then◌else◌}
use Rattle.hydrate_graph.specs.Graphs.{ready_of}
use Rattle.row_pool.specs.Pools.{Pool, shown}
use Rattle.row_pool.specs.declared.key.Key.{Key}
use Rattle.row_flight.specs.Flying.{InFlight}
use Rattle.row_flight.specs.Rows.{attempt_of}
use Rattle.row_flight.specs.declared.row.RowCalls.{RowCalls}

-- the smaller of two ticks, where there are two
abbrev pub sooner : Option ℕ → Option ℕ → Option ℕ
sooner None b = b
sooner (Some a) None = Some a
sooner (Some a) (Some b) = Some (min a b)

-- the least of these ticks
abbrev pub soonest : List (Option ℕ) → Option ℕ
soonest [] = None
soonest (tick ∷ ticks) = sooner tick (soonest ticks)

-- the tick for which a function's call waits: it was asked again, and no piece of the present attempt came
abbrev pub tick_of : RowCalls → ℕ → Option ℕ
tick_of row number = if nat_lt 0 (attempt_of row number).tries && (attempt_of row number).next == 0 then Some (attempt_of row number).due else None

-- the least tick for which a ready function of the row waits
abbrev pub row_due : RowCalls → Option ℕ
row_due row = soonest (map (tick_of row) (ready_of row.graph))

abbrev pub due_of : InFlight → Option ℕ
due_of f = soonest (map (λ s. row_due s.row) f.rows)

-- for private clauses: by the row that a key shows
abbrev pub shown_due : Option RowCalls → Option ℕ
shown_due None = None
shown_due (Some row) = row_due row

abbrev pub key_due : Pool RowCalls → Key → Option ℕ
key_due p key = shown_due (shown p key)
