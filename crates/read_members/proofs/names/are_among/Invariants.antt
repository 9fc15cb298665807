-- Whether the members that are left all have one of the names is whether all have.
use Rattle.std.proofs.Common.{◌≡◌, map, string_bytes}
use Rattle.std.specs.List.{list_all}
use Rattle.sp_model.specs.Names.{has_name}
use Rattle.read_members.proofs.names.are_among.Given as goal

abbrev pub invariant-loop-name : goal.invariant-loop-name
invariant-loop-name g l = list_all (λ m. has_name (map (λ n. n.now) l.names) (string_bytes m.0)) l.name-iterator ≡ list_all (λ m. has_name (map (λ n. n.now) l.names) (string_bytes m.0)) l.members.entries
