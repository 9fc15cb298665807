-- Sources that may be scanned.
use Rattle.std.specs.Prelude.{◌≡◌, ℕ, Bool, true, List, Some, IsTrue}
use Rattle.std.specs.Arc.{arc_value}
use Rattle.std.specs.List.{list_all}
use Rattle.sp_model.specs.Book.{Book}
use Rattle.sp_model.specs.Names.{has_name}
use Rattle.sp_model.specs.declared.scan.ScanRequest.{ScanRequest}
use Rattle.sp_model.specs.declared.settings.Connection.{Connection}
use Rattle.model_laws.specs.LawfulScans.{is_lawful_scan}
use Rattle.decl_words.specs.BookTables.{book_table}
use Rattle.decl_words.specs.Sound.{IsSound}
use Rattle.scan_run.specs.Asked.{AllOnlyFilter}
use Rattle.source_scans.specs.Planned.{IsPlanned, IsMadeBy}
use Rattle.source_scans.specs.declared.source.PlanSource.{PlanSource}
use Rattle.statement_words.specs.Runs.{plain_names}

-- a planned source of a sound table and of lawful scans, whose subset columns only filter, at plain connections of the settings; where the book is told, each of
-- them declares its table
pub record IsReady (tells : Bool) (book : Book) (connections : List Connection) (s : PlanSource) : Type 0 where
  pub planned : IsPlanned s
  pub sound : IsSound (arc_value s.table)
  pub lawful : (r : ScanRequest) → IsMadeBy s r → is_lawful_scan (arc_value s.table) r ≡ true
  pub subset : AllOnlyFilter (arc_value s.table) s.subset (arc_value s.table).list
  pub plain : list_all (has_name (plain_names connections)) s.connections ≡ true
  pub of_book : IsTrue tells → (connection : List ℕ) → has_name s.connections connection ≡ true → book_table book connection (arc_value s.table).name ≡ Some (arc_value s.table)
