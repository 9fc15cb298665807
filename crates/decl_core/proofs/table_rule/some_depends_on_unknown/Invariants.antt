-- Whether one of those that are left is such is whether one is.
use Rattle.std.proofs.Common.{◌≡◌, drop}
use Rattle.std.specs.List.{list_any}
use Rattle.decl_words.specs.Refusals.{depends_on_unknown}
use Rattle.decl_core.proofs.table_rule.some_depends_on_unknown.Given as goal

abbrev pub invariant-loop-function : goal.invariant-loop-function
invariant-loop-function l = list_any (depends_on_unknown l.names) (drop l.function-index l.functions) ≡ list_any (depends_on_unknown l.names) l.functions
