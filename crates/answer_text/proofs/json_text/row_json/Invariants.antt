-- The values so far, without floats.
use Rattle.std.proofs.Common.{◌≡◌, map, take, false}
use Rattle.serde_json.specs.View.{view, items_view}
use Rattle.serde_json.specs.Written.{items_have_float}
use Rattle.sp_value.specs.Json.{data_of}
use Rattle.answer_text.proofs.json_text.row_json.Given as goal

abbrev pub invariant-loop-cell : goal.invariant-loop-cell
invariant-loop-cell l = record {
  so_far : map view l.values.items ≡ map data_of (take l.cell-index l.row);
  no_float : items_have_float (items_view l.values.items) ≡ false;
}
