-- Sources as a plan has them, and the requests that are made of them.
use Rattle.std.specs.Prelude.{◌≡◌, ℕ, true, List, [], map, Option, Some, None, option_map}
use Rattle.std.specs.Arc.{arc_value}
use Rattle.std.specs.List.{list_all}
use Rattle.sp_model.specs.Keys.{is_sent, equals, with_equals, is_met}
use Rattle.sp_model.specs.Names.{has_name}
use Rattle.sp_model.specs.Requests.{IsRequestOf, keys_for, subset_for}
use Rattle.sp_model.specs.RowOf.{names_of_columns, columns_named}
use Rattle.sp_model.specs.Units.{distinct_values}
use Rattle.sp_model.specs.declared.call.Condition.{Condition}
use Rattle.sp_model.specs.declared.declaration.KeyDecl.{KeyDecl}
use Rattle.sp_model.specs.declared.scan.ScanRequest.{ScanRequest}
use Rattle.source_scans.specs.Asking.{condition_at}
use Rattle.source_scans.specs.declared.source.Fan.{Fan}
use Rattle.source_scans.specs.declared.source.PlanCondition.{PlanCondition}
use Rattle.source_scans.specs.declared.source.PlanSource.{PlanSource}

-- the conditions before any left row is there
abbrev pub conditions_of : List PlanCondition → List Condition
conditions_of conditions = map (condition_at []) conditions

-- its values have no repeats and no nulls, and its column is a key by `=` that is asked for
pub record IsPlannedFan (keys : List KeyDecl) (columns : List (List ℕ)) (fan : Fan) : Type 0 where
  pub distinct : distinct_values [] fan.values ≡ fan.values
  pub sent : is_sent keys (equals fan.column) ≡ true
  pub named : has_name columns fan.column ≡ true

abbrev pub IsFan : List KeyDecl → List (List ℕ) → Option Fan → Type 0
IsFan keys columns None = Unit {0}
IsFan keys columns (Some fan) = IsPlannedFan keys columns fan

abbrev pub fan_column : Option Fan → Option (List ℕ)
fan_column fan = option_map (λ f. f.column) fan

-- the keys are those of the access, the columns are the table's, in its order, and the conditions are those that are sent, on columns that are asked for
pub record IsPlanned (s : PlanSource) : Type 0 where
  pub keys : keys_for (arc_value s.table) s.access ≡ Some s.keys
  pub subset : s.subset ≡ subset_for (arc_value s.table) s.access
  pub columns : s.columns ≡ names_of_columns (columns_named s.columns (arc_value s.table).columns)
  pub sent : list_all (is_sent s.keys) (conditions_of s.conditions) ≡ true
  pub named : list_all (λ c. has_name s.columns c.column) (conditions_of s.conditions) ≡ true
  pub fan : IsFan s.keys s.columns s.fan
  -- the keys that are required have a condition
  pub met : is_met s.keys (with_equals (fan_column s.fan) (conditions_of s.conditions)) ≡ true

abbrev pub unlimited : ScanRequest → ScanRequest
unlimited r = record r { limit = None }

-- a request of the source's table, at one of its connections; its limit is given when its turn comes
pub record IsMadeBy (s : PlanSource) (r : ScanRequest) : Type 0 where
  pub request : IsRequestOf (arc_value s.table) (unlimited r)
  pub connection : has_name s.connections r.connection ≡ true
  pub access : r.access ≡ s.access
  pub met : is_met s.keys r.conditions ≡ true
