-- What is said of a load: its statement, its settings and the lines at its end.
use Rattle.std.specs.Prelude.{ℕ, ℤ, pos, ◌+ℤ◌, true, false, List, [], ◌∷◌, ◌++◌, length, map, codes, slice_get, Option, Some, None, fold}
use Rattle.std.specs.Fmt.{decimal, signed_decimal}
use Rattle.sp_value.specs.declared.cell.Cell.{Cell}
use Rattle.sp_value.specs.declared.cell.Cell.TheOpen.{Cell-F}
use Rattle.sp_value.specs.declared.cell.Cell.TheViews.{out-Cell}
use Rattle.sp_model.specs.declared.settings.Connection.{Connection}
use Rattle.sp_model.specs.declared.settings.Options.{Options}
use Rattle.sp_model.specs.declared.settings.Settings.{Settings}

-- the options that a settings file has where it says none
abbrev pub default_options : Options
default_options = record { cache = true; cache_ttl = 300000; cache_max = 64; window = 256; restarts = 3 }

abbrev pub connection : Connection
connection = record { name = codes "gen"; plugin = codes "gen"; command = codes "gen" ∷ []; aggregator = false; connections = []; members = [] }

-- one connection and no limiter
abbrev pub load_settings : Settings
load_settings = record { options = default_options; connections = connection ∷ []; limiters = [] }

-- the statement over so many rows
abbrev pub statement : ℕ → List ℕ
statement count = codes "select id, owner, score from gen.row where size = " ++ decimal count

abbrev pub integer_at : Cell-F Cell → ℤ
integer_at (Cell-F.Int z) = z
integer_at _ = pos 0

abbrev pub integer_in : Option Cell → ℤ
integer_in None = pos 0
integer_in (Some x) = integer_at (out-Cell x)

-- the integer in the third column, 0 where there is none
abbrev pub third : List Cell → ℤ
third row = integer_in (slice_get row 2)

abbrev pub sum_of : List (List Cell) → ℤ
sum_of rows = fold ◌+ℤ◌ (pos 0) (map third rows)

-- how many rows and calls there were, and the sum of the third column
abbrev pub summary : List (List Cell) → ℕ → List ℕ
summary rows calls = codes "rows " ++ (decimal (length rows) ++ (codes "\ncalls " ++ (decimal calls ++ (codes "\nsum " ++ (signed_decimal (sum_of rows) ++ codes "\n")))))
