-- The text so far, followed by the rows that are left, is the whole.
use Rattle.std.proofs.Common.{◌≡◌, ◌++◌, drop, map}
use Rattle.std.specs.Prelude.{false}
use Rattle.serde_json.specs.View.{items_of}
use Rattle.serde_json.specs.Written.{items_text}
use Rattle.answer_text.specs.JsonLines.{row_data}
use Rattle.answer_text.proofs.json_text.push_rows.Given as goal

abbrev pub invariant-loop-row : goal.invariant-loop-row
invariant-loop-row l = l.text.items ++ items_text l.later (items_of (map row_data (drop l.row-index l.rows))) ≡ l.fn.text.items ++ items_text false (items_of (map row_data l.rows))
