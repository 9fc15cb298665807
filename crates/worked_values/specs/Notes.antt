-- True notes, and notes that aren't.
use Rattle.std.specs.Prelude.{ℕ, true, false, [], ◌∷◌, codes, None, Bool, nat_lt, if◌then◌else◌}
use Rattle.serde_json.specs.Data.{null}
use Rattle.sp_model.specs.Book.{Book}
use Rattle.sp_model.specs.TrueNote.{TrueNote}
use Rattle.sp_model.specs.declared.call.Ending.TheVariants.{End}
use Rattle.sp_model.specs.declared.call.Version.{Version}
use Rattle.sp_model.specs.declared.call.Version.TheVariants.{Is}
use Rattle.sp_model.specs.declared.scan.Access.TheVariants as access
use Rattle.sp_model.specs.declared.scan.Mark.{Mark}
use Rattle.sp_model.specs.declared.scan.Mark.TheVariants.{Fresh, Cached}
use Rattle.sp_model.specs.declared.scan.ScanNote.{ScanNote}
use Rattle.sp_model.specs.declared.settings.Options.{Options}
use Rattle.worked_values.specs.Samples.{item, request_of}

-- version 7 below tick 1000, and 8 from it on
abbrev pub book : Book
book = record {
  reply = λ key. record { items = []; ending = End };
  version = λ connection tick. if nat_lt tick 1000 then Is 7 else Is 8;
  declaration = λ connection. null;
}

abbrev pub options : Bool → Options
options cache = record { cache = cache; cache_ttl = 300000; cache_max = 64; window = 256; restarts = 3 }

abbrev pub note : ℕ → ℕ → Version → Mark → ScanNote
note asked at version mark = record { request = request_of item access.List [] (codes "id" ∷ []) None; asked = asked; at = at; version = version; mark = mark }

abbrev pub IsTrue : Bool → ℕ → ScanNote → Type 0
IsTrue cache began one = TrueNote book (options cache) began one

-- at the tick at which it was asked, at the book's version
abbrev pub FreshNoteIsTrue : Type 0
FreshNoteIsTrue = IsTrue false 0 (note 0 0 (Is 7) Fresh) × IsTrue true 900 (note 1000 1000 (Is 8) Fresh)

-- younger than the time to live, and with a cache
abbrev pub CachedNoteIsTrue : Type 0
CachedNoteIsTrue = IsTrue true 299999 (note 0 299999 (Is 7) Cached)

abbrev pub OldNoteIsFalse : Type 0
OldNoteIsFalse = IsTrue true 300000 (note 0 300000 (Is 7) Cached) → ⊥

abbrev pub CachedNoteNeedsACache : Type 0
CachedNoteNeedsACache = IsTrue false 10 (note 0 10 (Is 7) Cached) → ⊥

abbrev pub NoteOfOtherVersionIsFalse : Type 0
NoteOfOtherVersionIsFalse = IsTrue true 1000 (note 1000 1000 (Is 7) Fresh) → ⊥

abbrev pub NoteBeforeItsStatementIsFalse : Type 0
NoteBeforeItsStatementIsFalse = IsTrue true 10 (note 9 9 (Is 7) Fresh) → ⊥

-- a fresh note was asked as it was taken
abbrev pub FreshNoteOfOldRowsIsFalse : Type 0
FreshNoteOfOldRowsIsFalse = IsTrue true 10 (note 0 10 (Is 7) Fresh) → ⊥
