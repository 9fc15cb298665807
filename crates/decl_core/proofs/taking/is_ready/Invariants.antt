-- Whether those that are left are all taken out is whether all are.
use Rattle.std.proofs.Common.{◌≡◌, drop}
use Rattle.std.specs.List.{list_all}
use Rattle.sp_model.specs.Names.{has_name}
use Rattle.decl_core.proofs.taking.is_ready.Given as goal

abbrev pub invariant-loop-dependency : goal.invariant-loop-dependency
invariant-loop-dependency l = list_all (has_name l.taken) (drop l.dependency-index l.dependency-items) ≡ list_all (has_name l.taken) l.function.depends
