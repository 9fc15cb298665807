-- Why planned sources may be scanned.
use Rattle.std.specs.Prelude.{◌≡◌, ℕ, Bool, true, false, List, Option, Some, Ok, IsTrue}
use Rattle.std.specs.Arc.{arc_value}
use Rattle.std.specs.List.{list_all}
use Rattle.std.specs.Option.{option_map_or}
use Rattle.sp_model.specs.Book.{Book}
use Rattle.sp_model.specs.Covers.{is_get}
use Rattle.sp_model.specs.Keys.{choose}
use Rattle.sp_model.specs.Names.{has_name}
use Rattle.sp_model.specs.declared.call.Condition.{Condition}
use Rattle.sp_model.specs.Requests.{is_positive}
use Rattle.sp_model.specs.declared.declaration.GetDecl.{GetDecl}
use Rattle.sp_model.specs.declared.declaration.ListDecl.{ListDecl}
use Rattle.sp_model.specs.declared.declaration.TableDecl.{TableDecl}
use Rattle.sp_model.specs.declared.scan.ScanRequest.{ScanRequest}
use Rattle.sp_model.specs.declared.settings.Connection.{Connection}
use Rattle.model_laws.specs.Covered.{is_asked_of_list}
use Rattle.decl_words.specs.BookTables.{book_table}
use Rattle.decl_words.specs.Keys.{fit_get}
use Rattle.decl_words.specs.Sound.{IsSound}
use Rattle.source_run.specs.Ready.{IsReady}
use Rattle.source_scans.specs.Planned.{IsPlanned, IsMadeBy}
use Rattle.source_scans.specs.declared.source.PlanSource.{PlanSource}
use Rattle.statement_words.specs.Course.{lowered}
use Rattle.statement_words.specs.Runs.{plain_names}

-- each key of the table's get, if it has one, is by `=` alone
abbrev pub gets_by_equals : TableDecl → Bool
gets_by_equals table = option_map_or (λ (d : GetDecl). fit_get d.keys) table.get true

-- a planned source of a sound table, by the access that its conditions and `in` lists choose, at plain connections of the settings; where the
-- book is told, each of them declares its table
pub record IsChosen (tells : Bool) (book : Book) (connections : List Connection) (s : PlanSource) : Type 0 where
  pub planned : IsPlanned s
  pub given : List Condition
  pub lists : List (List ℕ)
  pub access : choose (arc_value s.table) given lists ≡ Ok s.access
  pub sound : IsSound (arc_value s.table)
  pub gets : gets_by_equals (arc_value s.table) ≡ true
  pub plain : list_all (has_name (plain_names connections)) s.connections ≡ true
  pub of_book : IsTrue tells → (connection : List ℕ) → has_name s.connections connection ≡ true → book_table book connection (arc_value s.table).name ≡ Some (arc_value s.table)

-- such a source may be scanned
abbrev pub ChosenSourcesAreReady : Type 0
ChosenSourcesAreReady = (tells : Bool) (book : Book) (connections : List Connection) (s : PlanSource) → IsChosen tells book connections s → IsReady tells book connections s

-- a request that is made of such a source by the table's list, for what is missing of a limit, is asked of that list, as the law of kept scans needs it
abbrev pub RequestsOfListsAreAsked : Type 0
RequestsOfListsAreAsked = (tells : Bool) (book : Book) (connections : List Connection) (s : PlanSource) (r : ScanRequest) (missing : Option ℕ) (d : ListDecl) → IsChosen tells book connections s → IsMadeBy s r
    → is_positive missing ≡ true → (arc_value s.table).list ≡ Some d → is_get r.access ≡ false → is_asked_of_list (arc_value s.table) d (lowered missing r) ≡ true
