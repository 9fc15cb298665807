-- Notes that are true of a book.
use Rattle.std.specs.Prelude.{◌≡◌, ℕ, ◌+◌, ◌<◌, ◌≤◌, true}
use Rattle.sp_model.specs.Book.{Book}
use Rattle.sp_model.specs.declared.scan.Mark.{Mark}
use Rattle.sp_model.specs.declared.scan.Mark.TheVariants.{Fresh, Cached}
use Rattle.sp_model.specs.declared.scan.ScanNote.{ScanNote}
use Rattle.sp_model.specs.declared.settings.Options.{Options}

-- a fresh scan was asked as it was taken; a cached one is younger than the time to live, and the cache is on
abbrev pub IsMarked : Options → Mark → ℕ → ℕ → Type 0
IsMarked options Fresh asked at = at ≡ asked
IsMarked options Cached asked at = (at < asked + options.cache_ttl) × (options.cache ≡ true)

-- the note of a scan of a statement that began at this tick
pub record TrueNote (book : Book) (options : Options) (began : ℕ) (note : ScanNote) : Type 0 where
  pub version : note.version ≡ book.version note.request.connection note.asked
  pub after : began ≤ note.at
  pub marked : IsMarked options note.mark note.asked note.at
