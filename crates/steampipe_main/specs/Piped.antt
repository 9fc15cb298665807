-- What contracts see of a child program.
use Rattle.std.specs.Prelude.{ℕ, Bool, List, [], Option, None, Some, Vec}
use Rattle.std.specs.declared.snapshot.Snapshot.{Snapshot}

-- the connection that it was made for, the last line that it gave, its counts, and whether its last start was made
pub record Counts : Type 0 where
  pub connection : List ℕ
  pub last : List ℕ
  pub faulted : ℕ
  pub sends : ℕ
  pub gives : ℕ
  pub runs : Bool

-- the bytes of the last line, of which there is a snapshot
abbrev pub last_line : {A : Type 0} → Option (Snapshot (Vec ℕ A)) → List ℕ
last_line None = []
last_line (Some s) = s.value.items
