-- What a book of replies keeps by its types.
use Rattle.std.specs.Prelude.{◌≡◌, ℕ, ◌^◌, List, Some, slice_get}
use Rattle.sp_value.specs.declared.cell.Cell.{Cell}
use Rattle.sp_model.specs.Sayable.{IsItem}

-- ticks and versions are below this
abbrev pub number_limit : ℕ
number_limit = 2 ^ 63

-- a reply has fewer items
abbrev pub item_limit : ℕ
item_limit = 1000000

-- each value is an object that nests at most 100 deep
abbrev pub AreItems : List Cell → Type 0
AreItems items = (place : ℕ) (item : Cell) → slice_get items place ≡ Some item → IsItem item
