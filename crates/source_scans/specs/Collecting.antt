-- The scans of a left row, as they are collected.
use Rattle.std.specs.Prelude.{ℕ, List, [], ◌∷◌, map, Option, Some, None}
use Rattle.std.specs.List.{filter_map}
use Rattle.sp_value.specs.declared.cell.Cell.{Cell}
use Rattle.sp_model.specs.Units.{unit_of_sent, with_value}
use Rattle.sp_model.specs.declared.call.Condition.{Condition}
use Rattle.source_scans.specs.Asking.{condition_at, unit_scan}
use Rattle.source_scans.specs.declared.source.Fan.{Fan}
use Rattle.source_scans.specs.declared.source.PlanSource.{PlanSource}
use Rattle.source_scans.specs.declared.unit_scan.UnitScan.{UnitScan}

-- the conditions for each value of the fan, or alone
abbrev pub with_fan : Option Fan → List Condition → List (List Condition)
with_fan None conditions = conditions ∷ []
with_fan (Some fan) conditions = map (with_value fan.column conditions) fan.values

-- the scans of a connection, one for each of these conditions under which there is one
abbrev pub scans_under : List ℕ → List (List Condition) → List UnitScan
scans_under connection each = map unit_scan (filter_map (unit_of_sent connection) each)

abbrev pub scans_at : PlanSource → List Cell → List ℕ → List UnitScan
scans_at s left connection = scans_under connection (with_fan s.fan (map (condition_at left) s.conditions))
