use Rattle.std.proofs.Common.{◌≡◌, ◌++◌, false, option_map, drop}
use Rattle.serde_json.specs.View.{items_view}
use Rattle.sp_value.specs.Json.{items_odd, cells_of}
use Rattle.sp_value.proofs.JsonLaws.{Filled}
use Rattle.sp_value.proofs.json.+convert.Given as goal

abbrev pub invariant-convert_items-loop-item : goal.invariant-convert_items-loop-item
invariant-convert_items-loop-item l =
    (items_odd (items_view (drop l.item-index l.item-items)) ≡ false)
    × (cells_of (items_view l.items.items) ≡ option_map (λ rest. l.cells.items ++ rest) (cells_of (items_view (drop l.item-index l.item-items))))

abbrev pub invariant-convert_members-loop-key : goal.invariant-convert_members-loop-key
invariant-convert_members-loop-key l = Filled l.members.entries l.key-iterator l.names.items l.values.items
