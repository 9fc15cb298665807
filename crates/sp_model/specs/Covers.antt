-- Kept scans that serve a request.
use Rattle.std.specs.Prelude.{ℕ, Bool, true, false, ◌&&◌, ◌||◌, not, nat_le, List, map, filter, take, Option, Some, None, bytes_eq}
use Rattle.std.specs.List.{list_any, list_all}
use Rattle.std.specs.Ordering.{match_ordering}
use Rattle.sp_value.specs.declared.cell.Cell.{Cell}
use Rattle.sp_model.specs.Conditions.{condition_cmp}
use Rattle.sp_model.specs.RowOf.{has_name, columns_named}
use Rattle.sp_model.specs.Walk.{meets, cell_of}
use Rattle.sp_model.specs.declared.call.Condition.{Condition}
use Rattle.sp_model.specs.declared.declaration.ColumnDecl.{ColumnDecl}
use Rattle.sp_model.specs.declared.declaration.TableDecl.{TableDecl}
use Rattle.sp_model.specs.declared.scan.Access.{Access}
use Rattle.sp_model.specs.declared.scan.Access.TheVariants.{Get, List as OfList, Parents}
use Rattle.sp_model.specs.declared.scan.ScanRequest.{ScanRequest}

abbrev pub is_get : Access → Bool
is_get Get = true
is_get OfList = false
is_get Parents = false

abbrev pub same_access : Access → Access → Bool
same_access Get Get = true
same_access OfList OfList = true
same_access Parents Parents = true
same_access _ _ = false

abbrev pub same_condition : Condition → Condition → Bool
same_condition a b = match_ordering (condition_cmp a b) false true false

abbrev pub is_among : List Condition → Condition → Bool
is_among conditions condition = list_any (same_condition condition) conditions

abbrev pub are_among : List Condition → List Condition → Bool
are_among all some = list_all (is_among all) some

abbrev pub same_conditions : List Condition → List Condition → Bool
same_conditions a b = are_among b a && are_among a b

-- a limit of at least the other; a request without a limit has no such one
abbrev pub reaches : Option ℕ → Option ℕ → Bool
reaches (Some kept) (Some limit) = nat_le limit kept
reaches (Some kept) None = false
reaches None limit = false

-- the conditions of the request that the kept scan doesn't have
abbrev pub further : ScanRequest → ScanRequest → List Condition
further kept request = filter (λ condition. not (is_among kept.conditions condition)) request.conditions

-- the conditions are the same, and the kept scan is complete or has a limit of at least the request's
abbrev pub covers_same : ScanRequest → Bool → ScanRequest → Bool
covers_same kept complete request = same_conditions kept.conditions request.conditions && (complete || reaches kept.limit request.limit)

-- the kept scan is a complete list, its conditions are among the request's, and each further one is on a key that only filters
abbrev pub covers_more : ScanRequest → Bool → ScanRequest → Bool
covers_more kept complete request =
    complete && not (is_get kept.access) && are_among request.conditions kept.conditions
    && list_all (λ condition. has_name request.subset condition.column) (further kept request)

-- a kept scan serves a request
unfoldable pub covers : ScanRequest → Bool → ScanRequest → Bool
covers kept complete request =
    bytes_eq kept.connection request.connection && bytes_eq kept.table request.table && same_access kept.access request.access
    && list_all (has_name kept.columns) request.columns
    && (covers_same kept complete request || covers_more kept complete request)

-- a row in fewer columns
abbrev pub in_columns : List ColumnDecl → List ColumnDecl → List Cell → List Cell
in_columns from to cells = map (λ column. cell_of from cells column.name) to

abbrev pub cut : {X : Type 0} → Option ℕ → List X → List X
cut None xs = xs
cut (Some limit) xs = take limit xs

-- a kept scan's rows in the request's columns, without those for which a further condition isn't true, cut to its limit
unfoldable pub rows_from : TableDecl → ScanRequest → List (List Cell) → ScanRequest → List (List Cell)
rows_from table kept rows request =
    let from : List ColumnDecl = columns_named kept.columns table.columns in
    let to : List ColumnDecl = columns_named request.columns table.columns in
    cut request.limit (filter (meets (further kept request) to) (map (in_columns from to) rows))
