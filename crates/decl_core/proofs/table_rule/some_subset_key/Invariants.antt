-- Whether one of those that are left is such is whether one is.
use Rattle.std.proofs.Common.{◌≡◌, drop}
use Rattle.std.specs.List.{list_any}
use Rattle.decl_words.specs.Columns.{hydrated}
use Rattle.decl_words.specs.Refusals.{is_subset_key}
use Rattle.decl_core.proofs.table_rule.some_subset_key.Given as goal

abbrev pub invariant-loop-key : goal.invariant-loop-key
invariant-loop-key l = list_any (is_subset_key (hydrated l.columns)) (drop l.key-index l.keys) ≡ list_any (is_subset_key (hydrated l.columns)) l.keys
