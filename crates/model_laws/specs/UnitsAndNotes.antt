-- What the units of a source are, and what a note says without a cache.
use Rattle.std.specs.Prelude.{◌≡◌, ℕ, true, Bool, ◌&&◌, false, List, Option}
use Rattle.std.specs.List.{list_all}
use Rattle.sp_value.specs.declared.cell.Cell.{Cell}
use Rattle.sp_model.specs.Book.{Book}
use Rattle.sp_model.specs.Conditions.{is_canonical}
use Rattle.sp_model.specs.Keys.{is_sent}
use Rattle.sp_model.specs.RowOf.{has_name}
use Rattle.sp_model.specs.TrueNote.{TrueNote}
use Rattle.sp_model.specs.Units.{ScanUnit, units}
use Rattle.sp_model.specs.declared.call.Condition.{Condition}
use Rattle.sp_model.specs.declared.declaration.KeyDecl.{KeyDecl}
use Rattle.sp_model.specs.declared.scan.Mark.TheVariants.{Fresh}
use Rattle.sp_model.specs.declared.scan.ScanNote.{ScanNote}
use Rattle.sp_model.specs.declared.settings.Options.{Options}

-- a scan of one of the connections, with conditions in canonical order that are all sent on the keys
abbrev pub is_unit_of : List KeyDecl → List (List ℕ) → ScanUnit → Bool
is_unit_of keys connections u = has_name connections u.connection && is_canonical u.conditions && list_all (is_sent keys) u.conditions

-- each unit is such a scan
abbrev pub UnitsAreScansOfTheirConnections : Type 0
UnitsAreScansOfTheirConnections = (keys : List KeyDecl) (connections : List (List ℕ)) (fan : Option (List ℕ × List Cell)) (conditions : List Condition)
    → list_all (is_unit_of keys connections) (units keys connections fan conditions) ≡ true

-- without a cache each true note is of a fresh scan, whose rows were taken at the very tick at which its version was asked
abbrev pub NotesAreFreshWithoutCache : Type 0
NotesAreFreshWithoutCache = (book : Book) (options : Options) (began : ℕ) (note : ScanNote)
    → TrueNote book options began note → options.cache ≡ false → (note.mark ≡ Fresh) × (note.version ≡ book.version note.request.connection note.at)
