-- What a part of a statement does to its desk and its notes.
use Rattle.std.specs.Prelude.{◌≡◌, ℕ, ◌≤◌, Bool, List, Some, IsTrue, slice_get}
use Rattle.sp_model.specs.Book.{Book}
use Rattle.sp_model.specs.TrueNote.{TrueNote}
use Rattle.sp_model.specs.declared.scan.ScanNote.{ScanNote}
use Rattle.sp_model.specs.declared.settings.Options.{Options}
use Rattle.sp_model.specs.declared.settings.Settings.{Settings}
use Rattle.desk.specs.States.{DeskState}
use Rattle.statement_words.specs.Runs.{IsLater, IsGone}
use Rattle.statement_words.specs.Turns.{AreInTurn, ticks_of}
use Rattle.statement_words.specs.declared.stop.Stop.{Stop}
use Rattle.statement_words.specs.declared.stop.Stop.TheVariants as stop

-- the settings are the desk's, and their window is in its range
pub record IsRun (settings : Settings) (s : DeskState) : Type 0 where
  pub same : s.settings ≡ settings
  pub least : 1 ≤ settings.options.window
  pub most : settings.options.window ≤ 4096

-- each note of a statement that began at a tick is true
abbrev pub AreTrue : Book → Options → ℕ → List ScanNote → Type 0
AreTrue book options began notes = (k : ℕ) (n : ScanNote) → slice_get notes k ≡ Some n → TrueNote book options began n

-- the desk is the same, later; where the notes were true they still are, and where their ticks were in turn they still are
pub record Advances (tells : Bool) (book : Book) (settings : Settings) (before after : DeskState) (notes more : List ScanNote) : Type 0 where
  pub later : IsLater before after
  pub noted : IsTrue tells → (began : ℕ) → began ≤ before.tick → AreTrue book settings.options began notes → AreTrue book settings.options began more
  pub turn : (first : ℕ) → AreInTurn first before.tick (ticks_of notes) → AreInTurn first after.tick (ticks_of more)

-- a connection whose restarts are said to be spent is known to be gone
abbrev pub IsKnownStop : DeskState → Stop → Type 0
IsKnownStop s stop.Memory = Unit {0}
IsKnownStop s (stop.RestartsSpent name losses) = IsGone s name losses
IsKnownStop s (stop.ScanFailed scan row column cause) = Unit {0}
