-- The instance that is kept under a key.
use Rattle.std.specs.Prelude.{ℕ, List, Option, nat_eq}
use Rattle.std.specs.Cmp.Lexicographic.{pointwise}
use Rattle.std.specs.HashMap.{get_by}
use Rattle.rate_gate.specs.declared.instance.Instance.{Instance}
use Rattle.rate_gate.specs.declared.instances.Instances.{Instances}

abbrev pub held : Instances → List ℕ → Option Instance
held i key = get_by (λ k. pointwise nat_eq key k.items) i.map
