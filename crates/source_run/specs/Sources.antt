-- Planned sources as those of a statement.
use Rattle.std.specs.Prelude.{List, filter}
use Rattle.std.specs.Arc.{arc_value}
use Rattle.sp_value.specs.declared.cell.Cell.{Cell}
use Rattle.row_algebra.specs.RowJoins.{joined}
use Rattle.row_algebra.specs.RowTruth.{is_kept}
use Rattle.source_scans.specs.Asking.{requests_of, picks_of}
use Rattle.source_scans.specs.declared.source.PlanSource.{PlanSource}
use Rattle.statement_words.specs.Course.{StatementSource}

-- left rows, each followed by the rows of its own scans, where each test is true
unfoldable pub joined_rows : PlanSource → List (List Cell) → List (List (List Cell)) → List (List Cell)
joined_rows s left lists = filter (is_kept s.tests) (joined left (picks_of s left) lists)

abbrev pub source_of : PlanSource → StatementSource
source_of s = record { table = arc_value s.table; limit = s.limit; requests = requests_of s; joined = joined_rows s }
