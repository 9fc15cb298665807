-- How many calls were sent.
use Rattle.std.specs.Prelude.{◌≡◌, ℕ, ◌-◌, ◌^◌, List, ◌++◌, min}
use Rattle.std.specs.List.{sum_by}
use Rattle.sp_outside.specs.declared.child.Child.{Ghosts as Child}

-- how many calls these children were sent together, in a count that stands still at the end of its type
abbrev pub calls_of : {Kid : Type 0} → (Kid → ℕ) → List Kid → ℕ
calls_of sends children = min (sum_by sends children) (2 ^ 64 - 1)

-- these are the calls that the children which came back were sent
pub record AreCounted {Kid W : Type 0} (kid : Child Kid W) (back back_after : List Kid) (calls : ℕ) : Type 0 where
  pub children : List Kid
  pub after : back_after ≡ back ++ children
  pub counted : calls ≡ calls_of kid.sends children
