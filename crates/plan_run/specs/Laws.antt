-- Sources of a plan may be scanned.
use Rattle.std.specs.Prelude.{◌≡◌, ℕ, Bool, true, List, All, Some, IsTrue}
use Rattle.std.specs.List.{list_all}
use Rattle.sp_model.specs.Book.{Book}
use Rattle.sp_model.specs.Names.{has_name}
use Rattle.sp_model.specs.declared.settings.Connection.{Connection}
use Rattle.decl_words.specs.BookTables.{book_table}
use Rattle.decl_words.specs.Sound.{IsSound}
use Rattle.source_run.specs.Laws.{gets_by_equals}
use Rattle.source_run.specs.Ready.{IsReady}
use Rattle.source_scans.specs.Planned.{IsPlanned}
use Rattle.sql_bind.specs.declared.bound.Bound.{Bound}
use Rattle.sql_bind.specs.declared.bound.BoundSource.{BoundSource}
use Rattle.statement_plan.specs.Plans.{IsPlanOf}
use Rattle.statement_plan.specs.declared.plan.Plan.{Plan}
use Rattle.statement_words.specs.Runs.{plain_names}

-- a source of a sound table, at plain connections of the settings that declare it where the book is told
pub record IsDeclared (tells : Bool) (book : Book) (connections : List Connection) (s : BoundSource) : Type 0 where
  pub sound : IsSound s.table
  pub gets : gets_by_equals s.table ≡ true
  pub plain : list_all (has_name (plain_names connections)) s.members ≡ true
  pub of_book : IsTrue tells → (connection : List ℕ) → has_name s.members connection ≡ true → book_table book connection s.table.name ≡ Some s.table

-- the sources of a statement's plan may be scanned, where those of the statement are such sources
abbrev pub PlannedSourcesAreReady : Type 0
PlannedSourcesAreReady = (tells : Bool) (book : Book) (connections : List Connection) (b : Bound) (plan : Plan)
    → IsPlanOf b plan → All IsPlanned plan.sources → All (IsDeclared tells book connections) b.sources → All (IsReady tells book connections) plan.sources
