-- What the steps of a scan leave of its rows in flight.
use Rattle.std.specs.Prelude.{◌≡◌, ◌⊎◌, List, [], ◌∷◌}
use Rattle.sp_value.specs.declared.cell.Cell.{Cell}
use Rattle.row_flight.specs.Flying.{Seated}
use Rattle.row_flight.specs.Rows.{begun}
use Rattle.scan_core.specs.declared.course.Course.{Course}

-- it is one of these
abbrev pub IsIn : {X : Type 0} → X → List X → Type 0
IsIn x [] = ⊥
IsIn x (y ∷ ys) = (x ≡ y) ⊎ IsIn x ys

-- each row in flight was there before, or is the row of an item that waited, of which nothing is known; and each item that waits waited before
pub record GoesOn {X : Type 0} (old new : Course X) : Type 0 where
  pub plan : new.flight.plan ≡ old.flight.plan
  pub frame : new.flight.frame ≡ old.flight.frame
  pub rows : (s : Seated) → IsIn s new.flight.rows → IsIn s old.flight.rows ⊎ ((item : Cell) × IsIn item old.waiting.items × (s.row ≡ begun old.flight.plan item))
  pub waiting : (x : Cell) → IsIn x new.waiting.items → IsIn x old.waiting.items
