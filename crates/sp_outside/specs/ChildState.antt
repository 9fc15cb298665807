-- What contracts see of a child that answers from a book.
use Rattle.std.specs.Prelude.{ℕ, Bool, false, List, [], ◌∷◌, Option, Some, None, slice_get, bytes_eq, if◌then◌else◌}
use Rattle.sp_outside.specs.declared.child_script.ChildScript.{ChildScript}
use Rattle.sp_outside.specs.declared.log.Event.{Event}

-- the connection that it was made for, its picks, the numbers of the calls that fail, the number of the next call, the events, the last line
-- given, the counts of faults, sends and lines given, and whether its last start was made
pub record ChildState : Type 0 where
  pub connection : List ℕ
  pub picks : List ℕ
  pub fails : List ℕ
  pub calls : ℕ
  pub log : List Event
  pub last : List ℕ
  pub faulted : ℕ
  pub sends : ℕ
  pub gives : ℕ
  pub runs : Bool

abbrev pub number_or_first : Option ℕ → ℕ
number_or_first (Some pick) = pick
number_or_first None = 0

-- the pick of a number, or the first place
abbrev pub pick_of : List ℕ → ℕ → ℕ
pick_of picks number = number_or_first (slice_get picks number)

-- a child that was not started
abbrev pub new_child : List ℕ → List ℕ → List ℕ → ChildState
new_child connection picks fails =
    record { connection = connection; picks = picks; fails = fails; calls = 0; log = []; last = []; faulted = 0; sends = 0; gives = 0; runs = false }

-- the first script of a connection, or one without picks and faults
abbrev pub script_of : List ChildScript → List ℕ → ChildScript
script_of [] name = record { connection = name; picks = []; fails = [] }
script_of (script ∷ scripts) name = if bytes_eq script.connection name then script else script_of scripts name

-- what contracts see of a nursery of such children: their scripts, how many it made, and those that came back
pub record NurseryState : Type 0 where
  pub scripts : List ChildScript
  pub made : ℕ
  pub back : List ChildState
