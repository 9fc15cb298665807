-- Columns that are shown.
use Rattle.std.specs.Prelude.{◌≡◌, ℕ, suc, List, [], ◌∷◌, length}
use Rattle.sp_value.specs.declared.cell.Cell.{Cell}

-- each column is the one after the one before, from the k-th on
abbrev pub CountFrom : ℕ → List ℕ → Type 0
CountFrom k [] = Unit {0}
CountFrom k (c ∷ cs) = (c ≡ k) × CountFrom (suc k) cs

-- each row has so many cells
abbrev pub AreWide : ℕ → List (List Cell) → Type 0
AreWide n [] = Unit {0}
AreWide n (row ∷ rows) = (length row ≡ n) × AreWide n rows
