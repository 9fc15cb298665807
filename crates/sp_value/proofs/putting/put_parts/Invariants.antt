use Rattle.std.proofs.Common.{◌≡◌, ◌++◌, drop}
use Rattle.std.specs.List.{zip}
use Rattle.sp_value.specs.Names.{names_of, values_of, put_under}
use Rattle.sp_value.proofs.putting.put_parts.Given as goal

abbrev pub invariant-loop-index : goal.invariant-loop-index
invariant-loop-index l =
    (l.into_names ++ names_of (put_under l.name l.value (zip (drop l.index l.names) (drop l.index l.values))) ≡ l.fn.into_names ++ names_of (put_under l.name l.value (zip l.names l.values)))
    × (l.into_values ++ values_of (put_under l.name l.value (zip (drop l.index l.names) (drop l.index l.values))) ≡ l.fn.into_values ++ values_of (put_under l.name l.value (zip l.names l.values)))
