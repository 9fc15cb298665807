-- Scans that may be made.
use Rattle.std.specs.Prelude.{◌≡◌, ◌<◌, ◌+◌, Bool, true, false, List, ℕ, Option, Some, None, IsTrue, Contains}
use Rattle.std.specs.List.{list_all}
use Rattle.sp_model.specs.Book.{Book}
use Rattle.sp_model.specs.Covers.{covers}
use Rattle.sp_model.specs.Keys.{is_met}
use Rattle.sp_model.specs.Requests.{IsRequestOf}
use Rattle.sp_model.specs.SubsetKeys.{SubsetKeysOnlyFilter}
use Rattle.sp_model.specs.declared.call.Condition.{Condition}
use Rattle.sp_model.specs.declared.declaration.ListDecl.{ListDecl}
use Rattle.sp_model.specs.declared.declaration.TableDecl.{TableDecl}
use Rattle.sp_model.specs.declared.scan.Access.{Access}
use Rattle.sp_model.specs.declared.scan.Access.TheVariants as access
use Rattle.sp_model.specs.declared.scan.ScanRequest.{ScanRequest}
use Rattle.sp_model.specs.declared.settings.Connection.{Connection}
use Rattle.sp_model.specs.declared.settings.Settings.{Settings}
use Rattle.sp_world.specs.declared.kept_scan.KeptScan.{KeptScan}
use Rattle.model_laws.specs.Covered.{only_filters}
use Rattle.model_laws.specs.LawfulScans.{is_lawful_scan}
use Rattle.decl_words.specs.BookTables.{book_table}
use Rattle.decl_words.specs.Sound.{IsSound}

-- each key of the list on one of these columns only filters, on a field of the item
abbrev pub AllOnlyFilter : TableDecl → List (List ℕ) → Option ListDecl → Type 0
AllOnlyFilter table names None = Unit {0}
AllOnlyFilter table names (Some d) = list_all (only_filters table d) names ≡ true

-- a scan that may be made of a sound table: by the access that the table declares, with conditions that meet its keys, and with such subset columns
pub record IsScanOf (table : TableDecl) (request : ScanRequest) : Type 0 where
  pub sound : IsSound table
  pub made : IsRequestOf table request
  pub lawful : is_lawful_scan table request ≡ true
  pub subset : AllOnlyFilter table request.subset table.list

-- a connection of the settings that is no aggregator, and a table that is its own where the book is told
pub record IsTableOf (tells : Bool) (book : Book) (connections : List Connection) (connection : Connection) (table : TableDecl) : Type 0 where
  pub among : Contains connections connection
  pub plain : connection.aggregator ≡ false
  pub of_book : IsTrue tells → book_table book connection.name table.name ≡ Some table

-- a condition more on a key that is declared to filter only leaves out items, for each table that a connection declares
abbrev pub SubsetKeysFilter : Book → Type 0
SubsetKeysFilter book =
    (connection name : List ℕ) (table : TableDecl) (d : ListDecl)
    → book_table book connection name ≡ Some table → table.list ≡ Some d → SubsetKeysOnlyFilter book connection table d

-- ---- kept scans

abbrev pub meets_list : Option ListDecl → List Condition → Bool
meets_list None conditions = false
meets_list (Some d) conditions = is_met d.keys conditions

abbrev pub meets_by : Access → Option ListDecl → List Condition → Bool
meets_by access.Get list conditions = true
meets_by access.List list conditions = meets_list list conditions
meets_by access.Parents list conditions = meets_list list conditions

-- the conditions of a list request meet the keys of the table's list
abbrev pub meets_keys : TableDecl → ScanRequest → Bool
meets_keys table request = meets_by request.access table.list request.conditions

-- a kept scan serves a request of a table at a tick: the cache is on, and it covers the request, meets its keys and is young enough
pub record IsServing (settings : Settings) (tick : ℕ) (table : TableDecl) (request : ScanRequest) (kept : KeptScan) : Type 0 where
  pub on : settings.options.cache ≡ true
  pub covers : covers kept.note.request kept.complete request ≡ true
  pub met : meets_keys table kept.note.request ≡ true
  pub young : tick < kept.note.asked + settings.options.cache_ttl
