-- Requests as they are made of a table.
use Rattle.std.specs.Prelude.{◌≡◌, ℕ, Bool, true, false, ◌&&◌, nat_le, List, [], map, filter, Option, Some, None}
use Rattle.std.specs.List.{list_all}
use Rattle.sp_model.specs.Conditions.{is_canonical}
use Rattle.sp_model.specs.Keys.{is_sent, fan_of}
use Rattle.sp_model.specs.Names.{has_name}
use Rattle.sp_model.specs.RowOf.{names_of_columns, columns_named}
use Rattle.sp_model.specs.SubsetKeys.{is_subset}
use Rattle.sp_model.specs.declared.declaration.GetDecl.{GetDecl}
use Rattle.sp_model.specs.declared.declaration.KeyDecl.{KeyDecl}
use Rattle.sp_model.specs.declared.declaration.ListDecl.{ListDecl}
use Rattle.sp_model.specs.declared.declaration.TableDecl.{TableDecl}
use Rattle.sp_model.specs.declared.scan.Access.{Access}
use Rattle.sp_model.specs.declared.scan.Access.TheVariants as access
use Rattle.sp_model.specs.declared.scan.ScanRequest.{ScanRequest}

abbrev pub keys_of_get : Option GetDecl → Option (List KeyDecl)
keys_of_get None = None
keys_of_get (Some d) = Some d.keys

abbrev pub keys_of_list : Option ListDecl → Option (List KeyDecl)
keys_of_list None = None
keys_of_list (Some d) = Some d.keys

-- the keys of an access; None where the table has no such access
unfoldable pub keys_for : TableDecl → Access → Option (List KeyDecl)
keys_for table access.Get = keys_of_get table.get
keys_for table access.List = keys_of_list table.list
keys_for table access.Parents = keys_of_list table.list

abbrev pub fan_in : Option (List KeyDecl) → List (List ℕ) → Option (List ℕ)
fan_in None lists = None
fan_in (Some keys) lists = fan_of keys lists

-- the column whose `in` list is fanned out under a chosen access: the first of the columns of the `in` conjuncts that is a key by `=` of it
unfoldable pub fan_for : TableDecl → Access → List (List ℕ) → Option (List ℕ)
fan_for table access lists = fan_in (keys_for table access) lists

-- the key columns that only filter
abbrev pub subset_names : List KeyDecl → List (List ℕ)
subset_names keys = map (λ key. key.column) (filter (λ key. is_subset key.matching) keys)

abbrev pub subset_of_list : Option ListDecl → List (List ℕ)
subset_of_list None = []
subset_of_list (Some d) = subset_names d.keys

-- those of an access; a get has none
unfoldable pub subset_for : TableDecl → Access → List (List ℕ)
subset_for table access.Get = []
subset_for table access.List = subset_of_list table.list
subset_for table access.Parents = subset_of_list table.list

-- a limit, if any, of at least 1
abbrev pub is_positive : Option ℕ → Bool
is_positive None = true
is_positive (Some limit) = nat_le 1 limit

-- the conditions are sent on keys of the access, in canonical order and on columns that are asked for
unfoldable pub are_sent : Option (List KeyDecl) → ScanRequest → Bool
are_sent None request = false
are_sent (Some keys) request =
    is_canonical request.conditions && list_all (is_sent keys) request.conditions && list_all (λ condition. has_name request.columns condition.column) request.conditions

-- a request as it is made of a table
pub record IsRequestOf (table : TableDecl) (request : ScanRequest) : Type 0 where
  pub name : request.table ≡ table.name
  pub columns : request.columns ≡ names_of_columns (columns_named request.columns table.columns)
  pub sent : are_sent (keys_for table request.access) request ≡ true
  pub subset : request.subset ≡ subset_for table request.access
  pub limit : is_positive request.limit ≡ true
