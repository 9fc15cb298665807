-- Books that can be said by lines.
use Rattle.std.specs.Prelude.{◌≡◌, ℕ, ◌<◌, ◌≤◌, ◌^◌, List, length, false, Some, IsSome, slice_get}
use Rattle.serde_json.specs.Data.{Data, depth}
use Rattle.serde_json.specs.Find.{as_object}
use Rattle.sp_value.specs.Depth as cells
use Rattle.sp_value.specs.Json.{has_odd_number}
use Rattle.sp_value.specs.declared.cell.Cell.{Cell}
use Rattle.sp_value.specs.declared.cell.Cell.TheOpen.{Cell-F}
use Rattle.sp_value.specs.declared.cell.Cell.TheViews.{out-Cell}
use Rattle.sp_model.specs.Book.{Book}
use Rattle.sp_model.specs.declared.call.CallKey.{CallKey}
use Rattle.sp_model.specs.declared.call.Reply.{Reply}
use Rattle.sp_model.specs.declared.call.Version as version
use Rattle.sp_model.specs.declared.call.Version.TheVariants.{Is, Bad}

abbrev pub IsObject_at : Cell-F Cell → Type 0
IsObject_at (Cell-F.Object ms) = Unit {0}
IsObject_at _ = ⊥

-- the value is an object
abbrev pub IsObject : Cell → Type 0
IsObject c = IsObject_at (out-Cell c)

-- the value is an object that nests at most 100 deep
abbrev pub IsItem : Cell → Type 0
IsItem c = IsObject c × (cells.depth c ≤ 100)

-- the items of a reply are such objects, and fewer than 1,000,000
abbrev pub IsSayableReply : Reply → Type 0
IsSayableReply r = ((place : ℕ) (item : Cell) → slice_get r.items place ≡ Some item → IsItem item) × (length r.items < 1000000)

-- a version is at most 2^63 - 1
abbrev pub IsSayableVersion : version.Version → Type 0
IsSayableVersion (Is v) = v < 2 ^ 63
IsSayableVersion (Bad text) = Unit {0}

-- a declaration is an object that nests at most 100 deep, and its numbers are integers of 64 bits with a sign
abbrev pub IsSayableDeclaration : Data → Type 0
IsSayableDeclaration d = IsSome (as_object d) × (depth d ≤ 100) × (has_odd_number d ≡ false)

-- every answer of the book is of these forms
abbrev pub KeepsForms : Book → Type 0
KeepsForms book =
    ((key : CallKey) → IsSayableReply (book.reply key))
    × ((connection : List ℕ) (tick : ℕ) → IsSayableVersion (book.version connection tick))
    × ((connection : List ℕ) → IsSayableDeclaration (book.declaration connection))
