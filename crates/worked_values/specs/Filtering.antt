-- A small book whose subset keys only filter, and one whose don't.
use Rattle.std.specs.Prelude.{◌≡◌, ℕ, true, List, [], ◌∷◌, filter, codes, Some, None}
use Rattle.serde_json.specs.Data.{object, no_members}
use Rattle.sp_value.specs.declared.cell.Cell.{Cell}
use Rattle.sp_value.specs.declared.cell.Cell as c
use Rattle.sp_model.specs.Book.{Book}
use Rattle.sp_model.specs.Covers.{covers, rows_from}
use Rattle.sp_model.specs.Sayable.{KeepsForms}
use Rattle.sp_model.specs.Settling.{answers_of}
use Rattle.sp_model.specs.SubsetKeys.{SubsetKeysOnlyFilter}
use Rattle.sp_model.specs.Walk.{scan_walk, scan_value, is_complete, is_steady}
use Rattle.sp_model.specs.declared.call.Call.{Call}
use Rattle.sp_model.specs.declared.call.Call.TheVariants as call
use Rattle.sp_model.specs.declared.call.Ending.TheVariants.{End}
use Rattle.sp_model.specs.declared.call.Version.TheVariants.{Is}
use Rattle.sp_model.specs.declared.declaration.ListDecl.{ListDecl}
use Rattle.sp_model.specs.declared.outcome.ScanValue.TheVariants.{Rows}
use Rattle.sp_model.specs.declared.scan.ScanRequest.{ScanRequest}
use Rattle.model_laws.specs.Covered.{is_asked_of, is_asked_of_list}
use Rattle.model_laws.specs.FilteringBooks.{hold_of}
use Rattle.model_laws.specs.LawfulScans.{is_lawful_scan}
use Rattle.worked_values.specs.Samples.{number, item, item_keys, list_of}
use Rattle.worked_values.specs.Serving.{items, both, id_above_1, ant, bee}

abbrev pub thing : ℕ → List ℕ → Cell
thing n name = c.Object ((codes "id", number n) ∷ (codes "name", c.Text name) ∷ [])

abbrev pub things : List Cell
things = thing 1 (codes "ant") ∷ thing 2 (codes "bee") ∷ []

-- a list gives the things for which its conditions are true, and every other call nothing
abbrev pub filtered : Call → List Cell
filtered (call.List table conditions parent) = filter (hold_of item.columns conditions) things
filtered (call.Parents table) = []
filtered (call.Get table conditions) = []
filtered (call.Hydrate table function x results) = []

abbrev pub filtering : Book
filtering = record { reply = λ key. record { items = filtered key.call; ending = End }; version = λ connection tick. Is 7; declaration = λ connection. object no_members }

-- every call gives all things, whatever its conditions are
abbrev pub heedless : Book
heedless = record filtering { reply = λ key. record { items = things; ending = End } }

abbrev pub item_list : ListDecl
item_list = list_of (codes "listItems") item_keys None

abbrev pub FilteringBookKeepsThePromise : Type 0
FilteringBookKeepsThePromise = SubsetKeysOnlyFilter filtering (codes "c") item item_list

abbrev pub HeedlessBookBreaksIt : Type 0
HeedlessBookBreaksIt = SubsetKeysOnlyFilter heedless (codes "c") item item_list → ⊥

abbrev pub FilteringBookCanBeSaid : Type 0
FilteringBookCanBeSaid = KeepsForms filtering

-- ---- a kept scan of it

abbrev pub kept : ScanRequest
kept = items [] both None

abbrev pub narrower : ScanRequest
narrower = items (id_above_1 ∷ []) both None

-- both scans are made of the table and lawful, the kept one is steady, and it covers the narrower one
abbrev pub KeptScanIsSuchAScan : Type 0
KeptScanIsSuchAScan =
    (((is_asked_of item kept ≡ true) × (is_asked_of item narrower ≡ true)) × ((is_asked_of_list item item_list kept ≡ true) × (is_asked_of_list item item_list narrower ≡ true)))
    × (((is_lawful_scan item kept ≡ true) × (is_lawful_scan item narrower ≡ true))
    × ((is_steady (scan_walk item kept (answers_of filtering (codes "c") 7)) ≡ true) × (covers kept (is_complete (scan_walk item kept (answers_of filtering (codes "c") 7))) narrower ≡ true)))

-- what it gives for the narrower one is that scan's own value
abbrev pub KeptRowsAreTheScansOwn : Type 0
KeptRowsAreTheScansOwn =
    (scan_value filtering item kept (Is 7) ≡ Some (Rows (ant ∷ bee ∷ [])))
    × ((rows_from item kept (ant ∷ bee ∷ []) narrower ≡ bee ∷ []) × (scan_value filtering item narrower (Is 7) ≡ Some (Rows (bee ∷ []))))

-- the heedless book's scans drop what isn't true themselves, and have the same rows
abbrev pub ScanDropsWhatIsNotTrue : Type 0
ScanDropsWhatIsNotTrue = scan_value heedless item narrower (Is 7) ≡ Some (Rows (bee ∷ []))
