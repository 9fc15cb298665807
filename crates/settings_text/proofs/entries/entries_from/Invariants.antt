-- The entries so far, followed by those of the items that are left, are all.
use Rattle.std.proofs.Common.{◌≡◌, ◌+◌, drop}
use Rattle.toml.specs.View.{items_view}
use Rattle.settings_text.specs.Entries.{entries_from}
use Rattle.settings_text.proofs.EntriesSoFar.{after_entries}
use Rattle.settings_text.proofs.entries.entries_from.Given as goal

abbrev pub invariant-loop-value : goal.invariant-loop-value
invariant-loop-value g l =
    (l.number ≡ l.value-index)
    × (entries_from g.T.FromToml.read_as g.T.Listed.entry_at 1 (items_view l.values) ≡ after_entries l.entries (entries_from g.T.FromToml.read_as g.T.Listed.entry_at (l.value-index + 1) (items_view (drop l.value-index l.values))))
