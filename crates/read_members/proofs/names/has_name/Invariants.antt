-- Whether one of those left is the name is whether there is one.
use Rattle.std.proofs.Common.{◌≡◌, drop, map}
use Rattle.sp_model.specs.Names.{has_name}
use Rattle.read_members.proofs.names.has_name.Given as goal

abbrev pub invariant-loop-known : goal.invariant-loop-known
invariant-loop-known l = has_name (map (λ n. n.now) (drop l.known-index l.names)) l.name ≡ has_name (map (λ n. n.now) l.names) l.name
