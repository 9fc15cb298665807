use Rattle.std.proofs.Common.{◌≡◌, Some, map, take}
use Rattle.serde_json.specs.View.{view, members_view}
use Rattle.sp_value.specs.Json.{cell_of, data_of, pairs_data}
use Rattle.sp_value.proofs.json.+written.Given as goal

abbrev pub invariant-cells_written-loop-cell : goal.invariant-cells_written-loop-cell
invariant-cells_written-loop-cell l =
    (map view l.values.items ≡ map data_of (take l.cell-index l.cells))
    × (map (λ c. cell_of (data_of c)) (take l.cell-index l.cells) ≡ map Some (take l.cell-index l.cells))

abbrev pub invariant-members_written-loop-index : goal.invariant-members_written-loop-index
invariant-members_written-loop-index l =
    (members_view l.map.entries ≡ pairs_data (take l.index l.members))
    × (map (λ m. cell_of (data_of m.1)) (take l.index l.members) ≡ map (λ m. Some m.1) (take l.index l.members))
