-- Grants of open calls.
use Rattle.std.specs.Prelude.{◌≡◌, ℕ, List, [], ◌∷◌, map}
use Rattle.std.specs.List.{AllByRecursion}
use Rattle.rate_gate.specs.Journal.{IsOpen}
use Rattle.rate_gate.specs.declared.entry.Entry.{Entry}
use Rattle.rate_gate.specs.declared.tag_list.TagList.{TagList}
use Rattle.child_link.specs.declared.flight.Flight.{Flight}

abbrev pub grant_of : Flight → ℕ × TagList
grant_of f = (f.used.number, f.used.tags)

-- each is open, and has a number of its own
abbrev pub AreOpen : List Entry → List (ℕ × TagList) → Type 0
AreOpen journal [] = Unit {0}
AreOpen journal (g ∷ gs) = IsOpen journal g.0 g.1 × AllByRecursion (λ other. other.0 ≡ g.0 → ⊥) gs × AreOpen journal gs

-- the grants of open calls are open
abbrev pub AreHeld : List Entry → List Flight → Type 0
AreHeld journal flights = AreOpen journal (map grant_of flights)
