-- Values as JSON.
use Rattle.std.specs.Prelude.{ℕ, Bool, false, ◌||◌, List, [], ◌∷◌, Option, Some, None, is_none, option_map, map}
use Rattle.serde_json.specs.Data.{Data, null, boolean, number, string, array, object, Items, no_items, item, Members, no_members, member}
use Rattle.serde_json.specs.Find.{as_i64, of_integer}
use Rattle.serde_json.specs.View.{items_of}
use Rattle.sp_value.specs.declared.cell.Cell.{Cell, fold-Cell}
use Rattle.sp_value.specs.declared.cell.Cell.TheOpen.{Cell-F}
use Rattle.sp_value.specs.declared.cell.Cell as c

-- some number is no integer of 64 bits
abbrev mutual
  pub has_odd_number : Data → Bool
  has_odd_number null = false
  has_odd_number (boolean b) = false
  has_odd_number (number n) = is_none (as_i64 n)
  has_odd_number (string s) = false
  has_odd_number (array ds) = items_odd ds
  has_odd_number (object ms) = members_odd ms

  pub items_odd : Items → Bool
  items_odd no_items = false
  items_odd (item d ds) = has_odd_number d || items_odd ds

  pub members_odd : Members → Bool
  members_odd no_members = false
  members_odd (member k d ms) = has_odd_number d || members_odd ms

abbrev pub cons_cell : Option Cell → Option (List Cell) → Option (List Cell)
cons_cell (Some x) (Some xs) = Some (x ∷ xs)
cons_cell _ _ = None

abbrev pub cons_member : List ℕ → Option Cell → Option (List (List ℕ × Cell)) → Option (List (List ℕ × Cell))
cons_member k (Some x) (Some xs) = Some ((k, x) ∷ xs)
cons_member k _ _ = None

-- the value that JSON is read as, where each number is an integer of 64 bits
abbrev mutual
  pub cell_of : Data → Option Cell
  cell_of null = Some c.Null
  cell_of (boolean b) = Some (c.Bool b)
  cell_of (number n) = option_map c.Int (as_i64 n)
  cell_of (string s) = Some (c.Text s)
  cell_of (array ds) = option_map c.List (cells_of ds)
  cell_of (object ms) = option_map c.Object (pairs_of ms)

  pub cells_of : Items → Option (List Cell)
  cells_of no_items = Some []
  cells_of (item d ds) = cons_cell (cell_of d) (cells_of ds)

  pub pairs_of : Members → Option (List (List ℕ × Cell))
  pairs_of no_members = Some []
  pairs_of (member k d ms) = cons_member k (cell_of d) (pairs_of ms)

-- the members of an object, in this order
abbrev pub members_from : List (List ℕ × Data) → Members
members_from [] = no_members
members_from (m ∷ ms) = member m.0 m.1 (members_from ms)

abbrev pub data_step : Cell-F Data → Data
data_step Cell-F.Null = null
data_step (Cell-F.Bool b) = boolean b
data_step (Cell-F.Int z) = number (of_integer z)
data_step (Cell-F.Text t) = string t
data_step (Cell-F.List ds) = array (items_of ds)
data_step (Cell-F.Object ms) = object (members_from ms)

-- the JSON that a value is written as
abbrev pub data_of : Cell → Data
data_of = fold-Cell Data data_step

abbrev pub cells_data : List Cell → Items
cells_data xs = items_of (map data_of xs)

abbrev pub pairs_data : List (List ℕ × Cell) → Members
pairs_data ms = members_from (map (λ m. (m.0, data_of m.1)) ms)
