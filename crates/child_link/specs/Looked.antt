-- What a line is to open calls.
use Rattle.std.specs.Arc.{arc_value}
use Rattle.std.specs.Prelude.{◌≡◌, ℕ, ◌==◌, zero, suc, true, false, List, [], ◌∷◌, Some, None, Ok, IsSome, slice_get}
use Rattle.sp_model.specs.declared.call.Asked.{Asked}
use Rattle.sp_world.specs.Fits.{told_by}
use Rattle.sp_world.specs.ReplyLines.{ReplyLine, line_of, seen, IsLineForm}
use Rattle.sp_outside.specs.declared.log.OpenCall.{OpenCall}
use Rattle.child_link.specs.Arrivals.{number_of}
use Rattle.child_link.specs.Open.{answer_in}
use Rattle.child_link.specs.declared.looked.Looked.{Looked}
use Rattle.child_link.specs.declared.looked.Looked.TheVariants as looked

-- the first call of a number stands at a place
abbrev pub IsFirst : ℕ → List OpenCall → ℕ → Type 0
IsFirst id [] at = ⊥
IsFirst id (call ∷ calls) zero = (call.id == id) ≡ true
IsFirst id (call ∷ calls) (suc at) = ((call.id == id) ≡ false) × IsFirst id calls at

-- a line answers the call at a place, which is the first of the number that it names
pub record IsFit (calls : List OpenCall) (bytes : List ℕ) (at : ℕ) (what : Asked) (l : ReplyLine) : Type 0 where
  pub call : OpenCall
  pub there : slice_get calls at ≡ Some call
  pub first : IsFirst (number_of l) calls at
  pub same : what ≡ call.asked
  pub fits : IsSome (told_by call.asked call.taken l)
  pub reads : line_of bytes ≡ Ok l
  pub form : IsLineForm l

abbrev pub IsLooked : List OpenCall → List ℕ → Looked → Type 0
IsLooked calls bytes (looked.Fit at what line) = IsFit calls bytes at (arc_value what) (seen line)
IsLooked calls bytes (looked.Bad pending) = (pending ≡ calls) × (answer_in calls (line_of bytes) ≡ None)
