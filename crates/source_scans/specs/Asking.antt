-- The scans that a source asks for.
use Rattle.std.specs.Prelude.{ℕ, Bool, ◌&&◌, List, [], ◌∷◌, ◌++◌, map, Option, Some, None, if◌then◌else◌, bytes_eq}
use Rattle.std.specs.Arc.{arc_value}
use Rattle.std.specs.List.{list_any, flat_map, position_or_len}
use Rattle.std.specs.Cmp.Lexicographic.{pointwise}
use Rattle.sp_value.specs.declared.cell.Cell.{Cell}
use Rattle.sp_model.specs.Units.{ScanUnit, units}
use Rattle.sp_model.specs.declared.call.Condition.{Condition}
use Rattle.sp_model.specs.declared.scan.ScanRequest.{ScanRequest}
use Rattle.row_algebra.specs.RowTruth.{cell_at}
use Rattle.source_scans.specs.Telling.{same_sent}
use Rattle.source_scans.specs.declared.source.Fan.{Fan}
use Rattle.source_scans.specs.declared.source.PlanCondition.{PlanCondition}
use Rattle.source_scans.specs.declared.source.PlanOperand.{PlanOperand}
use Rattle.source_scans.specs.declared.source.PlanOperand.TheVariants as operand
use Rattle.source_scans.specs.declared.source.PlanSource.{PlanSource}
use Rattle.source_scans.specs.declared.unit_scan.UnitScan.{UnitScan}

-- ---- one left row

-- what a condition compares with, at a left row
abbrev pub operand_at : List Cell → PlanOperand → Cell
operand_at left (operand.Literal x) = x
operand_at left (operand.Left n) = cell_at left n

abbrev pub condition_at : List Cell → PlanCondition → Condition
condition_at left c = record { column = c.column; operator = c.operator; value = operand_at left c.operand }

abbrev pub fan_of : Option Fan → Option (List ℕ × List Cell)
fan_of None = None
fan_of (Some fan) = Some (fan.column, fan.values)

abbrev pub unit_scan : ScanUnit → UnitScan
unit_scan unit = record { connection = unit.connection; conditions = unit.conditions }

-- the scans that a left row asks for: one for each of its units
unfoldable pub units_at : PlanSource → List Cell → List UnitScan
units_at s left = map unit_scan (units s.keys s.connections (fan_of s.fan) (map (condition_at left) s.conditions))

-- ---- all left rows

-- of one connection, under the same conditions
abbrev pub same_unit : UnitScan → UnitScan → Bool
same_unit a b = bytes_eq a.connection b.connection && pointwise same_sent a.conditions b.conditions

abbrev pub with_unit : List UnitScan → UnitScan → List UnitScan
with_unit found u = if list_any (same_unit u) found then found else found ++ u ∷ []

-- those found, and then each of the others where it comes first
abbrev pub each_once : List UnitScan → List UnitScan → List UnitScan
each_once found [] = found
each_once found (u ∷ us) = each_once (with_unit found u) us

-- the distinct scans of a source, in the order in which its left rows first ask for them
unfoldable pub units_of : PlanSource → List (List Cell) → List UnitScan
units_of s left = each_once [] (flat_map (units_at s) left)

abbrev pub request_of : PlanSource → UnitScan → ScanRequest
request_of s unit = record {
  connection = unit.connection;
  table = (arc_value s.table).name;
  access = s.access;
  conditions = unit.conditions;
  columns = s.columns;
  subset = s.subset;
  limit = s.limit;
}

unfoldable pub requests_of : PlanSource → List (List Cell) → List ScanRequest
requests_of s left = map (request_of s) (units_of s left)

-- the place of a scan
abbrev pub place_of : List UnitScan → UnitScan → ℕ
place_of scans u = position_or_len (same_unit u) scans

-- the places of a left row's scans
unfoldable pub picks_of : PlanSource → List (List Cell) → List (List ℕ)
picks_of s left = map (λ row. map (place_of (units_of s left)) (units_at s row)) left
