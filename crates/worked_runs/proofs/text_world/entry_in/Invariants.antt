use Rattle.std.proofs.Common.{◌≡◌, drop}
use Rattle.serde_json.specs.View.{items_view}
use Rattle.worked_runs.specs.TextWorld.{entry_in}
use Rattle.worked_runs.proofs.text_world.entry_in.Given as goal

abbrev pub invariant-loop-entry : goal.invariant-loop-entry
invariant-loop-entry l = entry_in l.text (items_view l.entries.items) ≡ entry_in l.text (items_view (drop l.entry-index l.entry-items))
