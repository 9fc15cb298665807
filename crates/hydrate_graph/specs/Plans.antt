-- For the models of this crate: what holds of every plan and of every row.
use Rattle.std.specs.Prelude.{◌≡◌, ◌<◌, ◌≤◌, ◌^◌, ℕ, true, List, length, get_or, Option, Some, None, is_some}
use Rattle.std.specs.List.{list_all}
use Rattle.sp_model.specs.Calls.{is_wanted}
use Rattle.sp_model.specs.Hydration.{find_function}
use Rattle.sp_model.specs.declared.declaration.ColumnDecl.{ColumnDecl}
use Rattle.sp_model.specs.declared.declaration.FunctionDecl.{FunctionDecl}
use Rattle.sp_model.specs.declared.outcome.Outcome.{Outcome}
use Rattle.hydrate_graph.specs.Following.{InOrder}
use Rattle.hydrate_graph.specs.Graphs.{Plan, settled_by, known_in}
use Rattle.hydrate_graph.specs.Numbers.{number_of, needs_of, sources_of}
use Rattle.hydrate_graph.specs.Ordered.{all_depends}
use Rattle.hydrate_graph.specs.declared.depends.Depends.{Depends}
use Rattle.sp_model.specs.Rests.{column_rests}

-- a function that is declared has a slot exactly where a column needs it
abbrev pub HaveSlots : List FunctionDecl → List ColumnDecl → List (Option ℕ) → Type 0
HaveSlots functions columns slots = (name : List ℕ) (f : FunctionDecl) → find_function name functions ≡ Some f → is_some (get_or slots (number_of functions name) None) ≡ is_wanted functions columns name

-- no two functions have one slot
abbrev pub AreApart : List (Option ℕ) → Type 0
AreApart slots = (j k slot : ℕ) → get_or slots j None ≡ Some slot → get_or slots k None ≡ Some slot → j ≡ k

-- there is room for each slot
abbrev pub AreWithin : List (Option ℕ) → ℕ → Type 0
AreWithin slots room = (k slot : ℕ) → get_or slots k None ≡ Some slot → slot < room

pub record IsPlan (functions : List FunctionDecl) (columns : List ColumnDecl) (needs : List (List ℕ)) (depends : List Depends) (sources : List (Option ℕ)) (slots : List (Option ℕ)) (room : ℕ) : Type 0 where
  pub needs_are : needs ≡ needs_of functions
  pub depends_are : depends ≡ all_depends functions
  pub sources_are : sources ≡ sources_of functions columns
  pub rest : list_all (column_rests functions) columns ≡ true
  pub few : length functions ≤ 64
  pub few_columns : length columns < 2 ^ 32
  pub count : length slots ≡ length functions
  pub apart : AreApart slots
  pub within : AreWithin slots room
  pub wanted : HaveSlots functions columns slots

pub record IsGraph (p : Plan) (outcomes : List (Option Outcome)) : Type 0 where
  pub room : length outcomes ≡ p.room
  pub order : InOrder p.functions (known_in p.functions (settled_by p.slots outcomes))
