-- The lines of the connections.
use Rattle.std.specs.Prelude.{◌≡◌, ℕ, ◌<◌, ◌∷◌, List, [], length, bytes_eq, if◌then◌else◌}
use Rattle.std.specs.List.{position_or_len}
use Rattle.call_queue.specs.Lines.{LineView, no_jobs, without_session}
use Rattle.call_queue.specs.declared.lines.NamedLine.{NamedLine}

-- the line of a connection; it is empty where none is kept
abbrev pub line_of : List NamedLine → List ℕ → LineView
line_of [] connection = no_jobs
line_of (n ∷ ns) connection = if bytes_eq n.name connection then n.line else line_of ns connection

-- the lines of other connections are as they were
abbrev pub KeepsOthers : List ℕ → List NamedLine → List NamedLine → Type 0
KeepsOthers connection old new = (other : List ℕ) → (other ≡ connection → ⊥) → line_of new other ≡ line_of old other

abbrev pub KeepsAll : List NamedLine → List NamedLine → Type 0
KeepsAll old new = (connection : List ℕ) → line_of new connection ≡ line_of old connection

-- the first line of this name is at this place
pub record IsPlaceOf (lines : List NamedLine) (name : List ℕ) (place : ℕ) : Type 0 where
  pub within : place < length lines
  pub first : place ≡ position_or_len (λ n. bytes_eq n.name name) lines

abbrev pub forgotten : ℕ → NamedLine → NamedLine
forgotten session n = record { name = n.name; line = without_session session n.line }
