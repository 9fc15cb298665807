-- The tables so far, followed by those of the items that are left, are all.
use Rattle.std.proofs.Common.{◌≡◌, ◌+◌, drop}
use Rattle.serde_json.specs.View.{items_view}
use Rattle.decl_words.specs.Tables.{tables_from}
use Rattle.decl_core.proofs.TablesSoFar.{after_tables}
use Rattle.decl_core.proofs.tables.tables_from.Given as goal

abbrev pub invariant-loop-value : goal.invariant-loop-value
invariant-loop-value l =
    (l.number ≡ l.value-index)
    × (tables_from 1 (items_view l.values.items) ≡ after_tables l.tables (tables_from (l.value-index + 1) (items_view (drop l.value-index l.value-items))))
