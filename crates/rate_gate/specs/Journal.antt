-- A journal of grants and returns, in their order, and what follows from it.
use Rattle.std.specs.Prelude.{◌≡◌, ℕ, ◌+◌, ◌≤◌, ◌==◌, Bool, List, [], ◌∷◌, ◌++◌, length, Option, Some, None, IsSome, if◌then◌else◌}
use Rattle.rate_gate.specs.declared.tag_list.TagList.{TagList}
use Rattle.rate_gate.specs.declared.entry.Entry.{Entry}
use Rattle.rate_gate.specs.declared.entry.Entry.TheVariants.{Grant, Return}

-- one entry after another, from a first state on
abbrev pub replay : {S : Type 0} → (S → Entry → S) → S → List Entry → S
replay step s [] = s
replay step s (e ∷ es) = replay step (step s e) es

-- ---- the grants that are open

-- the numbers and tags of grants
abbrev pub Grants : Type 0
Grants = List (ℕ × TagList)

abbrev pub without : ℕ → Grants → Grants
without number [] = []
without number (g ∷ gs) = if g.0 == number then gs else g ∷ without number gs

abbrev pub next_open : Grants → Entry → Grants
next_open gs (Grant number tags tick) = (number, tags) ∷ gs
next_open gs (Return number tick sent) = without number gs

-- the grants without a return, newest first
abbrev pub open_grants : List Entry → Grants
open_grants journal = replay next_open [] journal

abbrev pub tags_under : ℕ → Grants → Option TagList
tags_under number [] = None
tags_under number (g ∷ gs) = if g.0 == number then Some g.1 else tags_under number gs

-- the grant of this number is open, and was asked for these tags
abbrev pub IsOpen : List Entry → ℕ → TagList → Type 0
IsOpen journal number tags = tags_under number (open_grants journal) ≡ Some tags

abbrev pub count_passing : (TagList → Bool) → Grants → ℕ
count_passing passes [] = 0
count_passing passes (g ∷ gs) = (if passes g.1 then 1 else 0) + count_passing passes gs

-- how many open grants have tags that pass
abbrev pub open_count : (TagList → Bool) → List Entry → ℕ
open_count passes journal = count_passing passes (open_grants journal)

-- ---- ticks and numbers

abbrev pub next_ticks : (TagList → Bool) → List ℕ → Entry → List ℕ
next_ticks passes ticks (Grant number tags tick) = if passes tags then tick ∷ ticks else ticks
next_ticks passes ticks (Return number tick sent) = ticks

-- the ticks of the grants whose tags pass, newest first
abbrev pub grant_ticks : (TagList → Bool) → List Entry → List ℕ
grant_ticks passes journal = replay (next_ticks passes) [] journal

abbrev pub tick_of : ℕ → Entry → ℕ
tick_of last (Grant number tags tick) = tick
tick_of last (Return number tick sent) = tick

-- the tick of the last entry, 0 where there is none
abbrev pub last_tick : List Entry → ℕ
last_tick journal = replay tick_of 0 journal

abbrev pub next_number : ℕ → Entry → ℕ
next_number n (Grant number tags tick) = n + 1
next_number n (Return number tick sent) = n

-- how many grants there are
abbrev pub count_grants : List Entry → ℕ
count_grants journal = replay next_number 0 journal

-- ---- order

-- an entry that may come next: its tick isn't below the last one; a grant has the next number; a return is of an open grant
abbrev pub Follows : List Entry → Entry → Type 0
Follows journal (Grant number tags tick) = (last_tick journal ≤ tick) × (number ≡ count_grants journal)
Follows journal (Return number tick sent) = (last_tick journal ≤ tick) × IsSome (tags_under number (open_grants journal))

abbrev pub OrderedFrom : List Entry → List Entry → Type 0
OrderedFrom before [] = Unit {0}
OrderedFrom before (e ∷ es) = Follows before e × OrderedFrom (before ++ e ∷ []) es

-- each entry may come after those before it
abbrev pub IsOrdered : List Entry → Type 0
IsOrdered journal = OrderedFrom [] journal

-- what a journal keeps beside its entries: how many grants there are, how many are open, the last tick
pub record IsNoted (journal : List Entry) (grants open_ tick : ℕ) : Type 0 where
  pub ordered : IsOrdered journal
  pub granted : grants ≡ count_grants journal
  pub opened : open_ ≡ length (open_grants journal)
  pub last : tick ≡ last_tick journal
