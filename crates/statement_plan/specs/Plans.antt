-- Plans of statements.
use Rattle.std.specs.Prelude.{◌≡◌, ℕ, ◌+◌, List, [], ◌∷◌, map, take, Option, Some, None, Result, Ok, Err}
use Rattle.sp_value.specs.declared.cell.Cell.{Cell}
use Rattle.sp_model.specs.declared.scan.Access.{Access}
use Rattle.row_algebra.specs.RowOrder.{ordered}
use Rattle.row_algebra.specs.RowTruth.{cell_at}
use Rattle.source_scans.specs.declared.source.PlanSource.{PlanSource}
use Rattle.sql_bind.specs.declared.bound.Bound.{Bound}
use Rattle.sql_bind.specs.declared.bound.BoundSource.{BoundSource}
use Rattle.column_tests.specs.declared.test.Test.{Test}
use Rattle.sql_bind.specs.declared.bound.Column.{Column}
use Rattle.statement_plan.specs.Columns.{named, layout_of}
use Rattle.statement_plan.specs.Conjuncts.{conjuncts_of}
use Rattle.statement_plan.specs.Placed.{placed_key, placed_item}
use Rattle.statement_plan.specs.Sources.{choice_for, IsSourceOf}
use Rattle.statement_plan.specs.declared.plan.Finishing.{Finishing}
use Rattle.statement_plan.specs.declared.plan.Heading.{Heading}
use Rattle.statement_plan.specs.declared.plan.Plan.{Plan}
use Rattle.statement_plan.specs.declared.plan.PlanFault.{PlanFault}
use Rattle.statement_plan.specs.declared.plan.PlanFault.TheVariants as fault

-- what is said of a statement: the columns that it names, its conjuncts, its sources and their columns
pub record IsSaid (b : Bound) (columns : List Column) (es : List (Test Column)) (ss : List BoundSource) (columns_by : List (List (List ℕ))) : Type 0 where
  pub named : columns ≡ named b
  pub conjuncts : es ≡ conjuncts_of b
  pub sources : ss ≡ b.sources
  pub layout : columns_by ≡ layout_of b

-- ---- missing keys

abbrev pub missing_or : ℕ → Result Access (List (List ℕ)) → Option (ℕ × List (List ℕ)) → Option (ℕ × List (List ℕ))
missing_or source (Err columns) later = Some (source, columns)
missing_or source (Ok access) later = later

-- the first source that lacks keys, from the k-th on, and these keys; sources count from 1
abbrev pub missing_from : Bound → ℕ → List BoundSource → Option (ℕ × List (List ℕ))
missing_from b k [] = None
missing_from b k (s ∷ ss) = missing_or (k + 1) (choice_for b k s.table) (missing_from b (k + 1) ss)

abbrev pub first_missing : Bound → Option (ℕ × List (List ℕ))
first_missing b = missing_from b 0 b.sources

-- ---- plans

-- each source of the plan is that of the statement, from the k-th on
abbrev pub AreSourcesOf : Bound → ℕ → List BoundSource → List PlanSource → Type 0
AreSourcesOf b k [] [] = Unit {0}
AreSourcesOf b k (s ∷ ss) (p ∷ ps) = IsSourceOf b k s p × AreSourcesOf b (k + 1) ss ps
AreSourcesOf b k _ _ = ⊥

abbrev pub finishing_of : Bound → Finishing
finishing_of b = record {
  order = map (placed_key b.sources (layout_of b)) b.order;
  limit = b.limit;
  shown = map (placed_item b.sources (layout_of b)) b.shown;
}

abbrev pub heading_of : Bound → Heading
heading_of b = record { names = map (λ i. i.name) b.shown; kinds = map (λ i. i.kind) b.shown }

pub record IsPlanOf (b : Bound) (plan : Plan) : Type 0 where
  pub complete : first_missing b ≡ None
  pub sources : AreSourcesOf b 0 b.sources plan.sources
  pub finishing : plan.finishing ≡ finishing_of b
  pub heading : plan.heading ≡ heading_of b

-- want of memory is free
abbrev pub IsMissing : Bound → PlanFault → Type 0
IsMissing b (fault.MissingKeys source columns) = first_missing b ≡ Some (source, columns)
IsMissing b fault.Memory = Unit {0}

abbrev pub IsMissingAt : ℕ → List (List ℕ) → PlanFault → Type 0
IsMissingAt k columns (fault.MissingKeys source named) = (source ≡ k + 1) × (named ≡ columns)
IsMissingAt k columns fault.Memory = Unit {0}

abbrev pub IsMissingIn : Bound → ℕ → BoundSource → PlanFault → Type 0
IsMissingIn b k s (fault.MissingKeys source columns) = (source ≡ k + 1) × (choice_for b k s.table ≡ Err columns)
IsMissingIn b k s fault.Memory = Unit {0}

abbrev pub IsMissingFrom : Bound → ℕ → List BoundSource → PlanFault → Type 0
IsMissingFrom b k ss (fault.MissingKeys source columns) = missing_from b k ss ≡ Some (source, columns)
IsMissingFrom b k ss fault.Memory = Unit {0}

-- ---- rows

abbrev pub limited : {X : Type 0} → Option ℕ → List X → List X
limited None xs = xs
limited (Some n) xs = take n xs

-- the rows in order, up to the limit, with the cells that are shown
abbrev pub finished : Finishing → List (List Cell) → List (List Cell)
finished f rows = map (λ row. map (cell_at row) f.shown) (limited f.limit (ordered f.order rows))
