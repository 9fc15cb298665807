-- What a link keeps.
use Rattle.std.specs.Prelude.{◌≡◌, ℕ, ◌≤◌, nat_le, Bool, true, ◌&&◌, List, [], ◌∷◌, length, Option, Some, IsTrue}
use Rattle.sp_model.specs.Book.{Book}
use Rattle.sp_outside.specs.Log.{pending}
use Rattle.sp_outside.specs.declared.log.Event.{Event}
use Rattle.sp_outside.specs.declared.log.OpenCall.{OpenCall}
use Rattle.child_link.specs.Arrivals.{replied}
use Rattle.child_link.specs.Open.{ahead, IsNext}

-- no open call has given more items than its reply has
abbrev pub all_within : Book → List OpenCall → Bool
all_within book [] = true
all_within book (call ∷ calls) = nat_le call.taken (length (replied book call.asked)) && all_within book calls

-- while the child is up its open calls are those of its log, but for a line that waits, which is the book's next one and the last that
-- the child gave
pub record Holds (tells : Bool) (book : Book) (log : List Event) (last : List ℕ) (gives : ℕ) (kept : Option (List ℕ)) (up : Bool) (calls : List OpenCall) : Type 0 where
  pub stands : up ≡ true → IsTrue tells → pending log ≡ ahead kept calls
  pub next : (line : List ℕ) → kept ≡ Some line → up ≡ true → IsTrue tells → IsNext book calls line
  pub within : IsTrue tells → all_within book calls ≡ true
  pub waits : (line : List ℕ) → kept ≡ Some line → (last ≡ line) × (1 ≤ gives)
