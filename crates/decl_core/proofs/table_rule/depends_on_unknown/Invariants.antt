-- Whether one of those that are left isn't declared is whether one isn't.
use Rattle.std.proofs.Common.{◌≡◌, drop}
use Rattle.std.specs.List.{list_any}
use Rattle.decl_words.specs.Refusals.{is_unknown}
use Rattle.decl_core.proofs.table_rule.depends_on_unknown.Given as goal

abbrev pub invariant-loop-dependency : goal.invariant-loop-dependency
invariant-loop-dependency l = list_any (is_unknown l.functions) (drop l.dependency-index l.dependency-items) ≡ list_any (is_unknown l.functions) l.function.depends
