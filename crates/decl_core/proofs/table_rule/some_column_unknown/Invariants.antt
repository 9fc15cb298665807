-- Whether one of those that are left is such is whether one is.
use Rattle.std.proofs.Common.{◌≡◌, drop}
use Rattle.std.specs.List.{list_any}
use Rattle.decl_words.specs.Refusals.{column_is_unknown}
use Rattle.decl_core.proofs.table_rule.some_column_unknown.Given as goal

abbrev pub invariant-loop-column : goal.invariant-loop-column
invariant-loop-column l = list_any (column_is_unknown l.functions) (drop l.column-index l.columns) ≡ list_any (column_is_unknown l.functions) l.columns
