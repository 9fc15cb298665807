-- The sources of a plan, of the sources of a statement.
use Rattle.std.specs.Prelude.{◌≡◌, ℕ, ◌==◌, Bool, true, false, ◌&&◌, List, [], ◌∷◌, map, filter, length, Option, Some, None, option_map, Result, Ok, if◌then◌else◌, bytes_eq}
use Rattle.std.specs.Arc.{arc_value}
use Rattle.std.specs.List.{filter_map, list_all}
use Rattle.sp_value.specs.declared.cell.Cell.{Cell}
use Rattle.sp_model.specs.Keys.{is_sent, choose}
use Rattle.sp_model.specs.Requests.{keys_for, fan_for, subset_for}
use Rattle.sp_model.specs.Units.{distinct_values}
use Rattle.sp_model.specs.declared.call.Condition.{Condition}
use Rattle.sp_model.specs.declared.declaration.KeyDecl.{KeyDecl}
use Rattle.sp_model.specs.declared.declaration.TableDecl.{TableDecl}
use Rattle.sp_model.specs.declared.scan.Access.{Access}
use Rattle.column_tests.specs.declared.test.Test.{Test}
use Rattle.source_scans.specs.Asking.{condition_at}
use Rattle.source_scans.specs.Planned.{conditions_of}
use Rattle.source_scans.specs.declared.source.Fan.{Fan}
use Rattle.source_scans.specs.declared.source.PlanCondition.{PlanCondition}
use Rattle.source_scans.specs.declared.source.PlanSource.{PlanSource}
use Rattle.sql_bind.specs.declared.bound.Bound.{Bound}
use Rattle.sql_bind.specs.declared.bound.BoundSource.{BoundSource}
use Rattle.sql_bind.specs.declared.bound.Column.{Column}
use Rattle.statement_plan.specs.Columns.{named, columns_for, layout_of}
use Rattle.statement_plan.specs.Conjuncts.{conjuncts_of}
use Rattle.statement_plan.specs.Placed.{placed_test, last_source}
use Rattle.statement_plan.specs.Reading.{condition_of as condition_in, list_of}

-- ---- what conjuncts say of the k-th source

abbrev pub conditions_from : List BoundSource → List (List (List ℕ)) → ℕ → List (Test Column) → List PlanCondition
conditions_from sources layout k es = filter_map (condition_in sources layout k) es

abbrev pub listed_column : List BoundSource → ℕ → Test Column → Option (List ℕ)
listed_column sources k e = option_map (λ list. list.0) (list_of sources k e)

-- the columns whose values are listed, in the order of the text
abbrev pub listed_from : List BoundSource → ℕ → List (Test Column) → List (List ℕ)
listed_from sources k es = filter_map (listed_column sources k) es

abbrev pub values_or : List ℕ → Option (List ℕ × List Cell) → List Cell → List Cell
values_or column None later = later
values_or column (Some list) later = if bytes_eq list.0 column then list.1 else later

-- the values of the first list of a column
abbrev pub values_under : List BoundSource → ℕ → List ℕ → List (Test Column) → List Cell
values_under sources k column [] = []
values_under sources k column (e ∷ es) = values_or column (list_of sources k e) (values_under sources k column es)

abbrev pub is_sent_on : List KeyDecl → PlanCondition → Bool
is_sent_on keys c = is_sent keys (condition_at [] c)

abbrev pub sent_from : List KeyDecl → List BoundSource → List (List (List ℕ)) → ℕ → List (Test Column) → List PlanCondition
sent_from keys sources layout k es = filter (is_sent_on keys) (conditions_from sources layout k es)

abbrev pub fan_by : List BoundSource → ℕ → List (Test Column) → Option (List ℕ) → Option Fan
fan_by sources k es column = option_map (λ name. record { column = name; values = distinct_values [] (values_under sources k name es) }) column

-- the conjuncts that are tested once the k-th source is there: those that wait for it and for no later one
abbrev pub tests_from : List BoundSource → List (List (List ℕ)) → ℕ → List (Test Column) → List (Test ℕ)
tests_from sources layout k es = map (placed_test sources layout) (filter (λ e. last_source e == k) es)

-- ---- the limit

abbrev pub is_sent_by : List KeyDecl → Option PlanCondition → Bool
is_sent_by keys None = false
is_sent_by keys (Some c) = is_sent_on keys c

abbrev pub lists : List ℕ → Option (List ℕ × List Cell) → Bool
lists column None = false
lists column (Some list) = bytes_eq list.0 column

abbrev pub fanned_by : List BoundSource → ℕ → Option (List ℕ) → Test Column → Bool
fanned_by sources k None e = false
fanned_by sources k (Some column) e = lists column (list_of sources k e)

-- the conjuncts without the first list that is fanned out
abbrev pub without_fan : List BoundSource → ℕ → Option (List ℕ) → List (Test Column) → List (Test Column)
without_fan sources k None es = es
without_fan sources k (Some column) [] = []
without_fan sources k (Some column) (e ∷ es) = if lists column (list_of sources k e) then es else e ∷ without_fan sources k (Some column) es

-- each conjunct is sent or fanned out
abbrev pub are_all_sent : List KeyDecl → List BoundSource → List (List (List ℕ)) → ℕ → Option (List ℕ) → List (Test Column) → Bool
are_all_sent keys sources layout k fan es = list_all (λ e. is_sent_by keys (condition_in sources layout k e)) (without_fan sources k fan es)

abbrev pub is_single : List BoundSource → Bool
is_single (s ∷ []) = true
is_single _ = false

abbrev pub is_unordered : Bound → Bool
is_unordered b = length b.order == 0

-- a limit is given to the scans where there is one source, no order, and no conjunct that is tested later
abbrev pub pushed_limit : List KeyDecl → Bound → ℕ → Option (List ℕ) → Option ℕ
pushed_limit keys b k fan =
    if is_single b.sources && (is_unordered b && are_all_sent keys b.sources (layout_of b) k fan (conjuncts_of b)) then b.limit else None

-- ---- a source

abbrev pub asked_for : Bound → ℕ → List Condition
asked_for b k = conditions_of (conditions_from b.sources (layout_of b) k (conjuncts_of b))

abbrev pub listed_for : Bound → ℕ → List (List ℕ)
listed_for b k = listed_from b.sources k (conjuncts_of b)

-- how the items of a source are asked for, or the keys that it lacks
abbrev pub choice_for : Bound → ℕ → TableDecl → Result Access (List (List ℕ))
choice_for b k table = choose table (asked_for b k) (listed_for b k)

-- the k-th source of the plan
pub record IsSourceOf (b : Bound) (k : ℕ) (s : BoundSource) (p : PlanSource) : Type 0 where
  pub connections : p.connections ≡ s.members
  pub table : arc_value p.table ≡ s.table
  pub access : choice_for b k s.table ≡ Ok p.access
  pub columns : p.columns ≡ columns_for b.sources (named b) k s.table
  pub subset : p.subset ≡ subset_for s.table p.access
  pub keys : keys_for s.table p.access ≡ Some p.keys
  pub conditions : p.conditions ≡ sent_from p.keys b.sources (layout_of b) k (conjuncts_of b)
  pub fan : p.fan ≡ fan_by b.sources k (conjuncts_of b) (fan_for s.table p.access (listed_for b k))
  pub limit : p.limit ≡ pushed_limit p.keys b k (fan_for s.table p.access (listed_for b k))
  pub tests : p.tests ≡ tests_from b.sources (layout_of b) k (conjuncts_of b)
