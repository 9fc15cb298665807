-- Ticks that never fall.
use Rattle.std.specs.Prelude.{ℕ, ◌≤◌, List, [], ◌∷◌, map}
use Rattle.sp_model.specs.declared.scan.ScanNote.{ScanNote}

-- each of these ticks is at least the one before, from a first tick up to a last one
abbrev pub AreInTurn : ℕ → ℕ → List ℕ → Type 0
AreInTurn first last [] = first ≤ last
AreInTurn first last (t ∷ ts) = (first ≤ t) × AreInTurn t last ts

-- the ticks at which scans were noted: a fresh one as its version was asked, a cached one as it was looked up
abbrev pub ticks_of : List ScanNote → List ℕ
ticks_of notes = map (λ n. n.at) notes
