-- Whether those that are left are all within the limits is whether all are.
use Rattle.std.proofs.Common.{◌≡◌, drop}
use Rattle.std.specs.List.{list_all}
use Rattle.decl_words.specs.Limits.{is_short}
use Rattle.decl_core.proofs.limits.are_short.Given as goal

abbrev pub invariant-loop-name : goal.invariant-loop-name
invariant-loop-name l = list_all is_short (drop l.name-index l.names) ≡ list_all is_short l.names
