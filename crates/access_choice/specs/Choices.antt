-- What is answered of a choice of access.
use Rattle.std.specs.Prelude.{◌≡◌, ℕ, List, map, Option, Some, None, Result, Ok, Err}
use Rattle.sp_value.specs.declared.cell.Cell as c
use Rattle.sp_model.specs.Keys.{missing_keys, missing_of_get, with_fan, choose}
use Rattle.sp_model.specs.declared.call.Condition.{Condition}
use Rattle.sp_model.specs.declared.declaration.GetDecl.{GetDecl}
use Rattle.sp_model.specs.declared.declaration.ListDecl.{ListDecl}
use Rattle.sp_model.specs.declared.declaration.TableDecl.{TableDecl}
use Rattle.sp_model.specs.declared.scan.Access.{Access}
use Rattle.access_choice.specs.declared.fault.ChoiceFault.{ChoiceFault}
use Rattle.access_choice.specs.declared.fault.ChoiceFault.TheVariants.{MissingKeys, Memory}

-- the access, where no keys are missing
abbrev pub chosen_access : Result Access (List (List ℕ)) → Option Access
chosen_access (Ok access) = Some access
chosen_access (Err columns) = None

abbrev pub missing_in : Option ListDecl → Option GetDecl → List Condition → List (List ℕ) → List (List ℕ)
missing_in None get conditions lists = missing_of_get get conditions lists
missing_in (Some d) get conditions lists = missing_keys d.keys (with_fan d.keys lists conditions)

-- the keys without a condition, of the list, or of the get where there is no list
abbrev pub missing_of : TableDecl → List Condition → List (List ℕ) → List (List ℕ)
missing_of table conditions lists = missing_in table.list table.get conditions lists

abbrev pub IsMissing : List (List ℕ) → ChoiceFault → Type 0
IsMissing columns (MissingKeys named) = named ≡ columns
IsMissing columns Memory = Unit {0}

abbrev pub IsRefused : List (List ℕ) → Result Access ChoiceFault → Type 0
IsRefused columns (Ok access) = ⊥
IsRefused columns (Err fault) = IsMissing columns fault

-- the access, always; or the keys that are missing, unless memory is wanting for their names
abbrev pub IsChoice : Result Access (List (List ℕ)) → Result Access ChoiceFault → Type 0
IsChoice (Ok access) answer = answer ≡ Ok access
IsChoice (Err columns) answer = IsRefused columns answer

abbrev pub without_value : Condition → Condition
without_value condition = record condition { value = c.Null }

-- conditions without their values, as those that wait for an earlier source, choose the same and lack the same keys
abbrev pub ChoiceHasNoValues : Type 0
ChoiceHasNoValues =
    (table : TableDecl) (conditions : List Condition) (lists : List (List ℕ)) → choose table (map without_value conditions) lists ≡ choose table conditions lists
