-- A lawful scan makes lawful calls alone.
use Rattle.std.specs.Prelude.{◌≡◌, ℕ, Bool, true, false, ◌&&◌, nat_le, List, ◌∷◌, ◌++◌, Option, Some, None, is_none}
use Rattle.std.specs.List.{list_all}
use Rattle.sp_model.specs.Calls.{fit_keys, is_lawful, used, reach}
use Rattle.sp_model.specs.Hydration.{names_of_functions}
use Rattle.sp_model.specs.Keys.{is_equality}
use Rattle.sp_model.specs.Names.{are_distinct}
use Rattle.sp_model.specs.Settling.{Answers, rule_of, attempts_of}
use Rattle.sp_model.specs.declared.call.Call.{Call}
use Rattle.sp_model.specs.declared.call.Condition.{Condition}
use Rattle.sp_model.specs.declared.declaration.AccessDecl.{AccessDecl}
use Rattle.sp_model.specs.declared.declaration.GetDecl.{GetDecl}
use Rattle.sp_model.specs.declared.declaration.ListDecl.{ListDecl}
use Rattle.sp_model.specs.declared.declaration.Retry.{Retry}
use Rattle.sp_model.specs.declared.declaration.TableDecl.{TableDecl}
use Rattle.sp_model.specs.declared.scan.Access.{Access}
use Rattle.sp_model.specs.declared.scan.Access.TheVariants.{Get, List as OfList, Parents}
use Rattle.sp_model.specs.declared.scan.ScanRequest.{ScanRequest}

-- the call has an attempt at least
abbrev pub has_attempts : TableDecl → Option (List (List ℕ)) → Option Retry → Bool
has_attempts table ignore retry = nat_le 1 (attempts_of (rule_of table ignore retry).retry)

abbrev pub is_lawful_get_scan : TableDecl → List Condition → Option GetDecl → Bool
is_lawful_get_scan table conditions None = false
is_lawful_get_scan table conditions (Some d) = has_attempts table d.ignore d.retry && fit_keys d.keys conditions && list_all is_equality conditions

abbrev pub is_lawful_list_scan : TableDecl → List Condition → Option ListDecl → Bool
is_lawful_list_scan table conditions None = false
is_lawful_list_scan table conditions (Some d) = has_attempts table d.ignore d.retry && fit_keys d.keys conditions && is_none d.parent

abbrev pub has_parent_attempts : TableDecl → Option AccessDecl → Bool
has_parent_attempts table None = false
has_parent_attempts table (Some parent) = has_attempts table parent.ignore parent.retry

abbrev pub is_lawful_parents_scan : TableDecl → List Condition → Option ListDecl → Bool
is_lawful_parents_scan table conditions None = false
is_lawful_parents_scan table conditions (Some d) = has_attempts table d.ignore d.retry && fit_keys d.keys conditions && has_parent_attempts table d.parent

-- the items are asked for as the table declares it, with conditions in canonical order that are sent on the keys and meet them
abbrev pub is_lawful_access : TableDecl → List Condition → Access → Bool
is_lawful_access table conditions Get = is_lawful_get_scan table conditions table.get
is_lawful_access table conditions OfList = is_lawful_list_scan table conditions table.list
is_lawful_access table conditions Parents = is_lawful_parents_scan table conditions table.list

-- such an access, and functions of different names
abbrev pub is_lawful_scan : TableDecl → ScanRequest → Bool
is_lawful_scan table request =
    is_lawful_access table request.conditions request.access
    && are_distinct (names_of_functions table.functions)
    && list_all (λ f. has_attempts table f.ignore f.retry) table.functions

abbrev pub are_lawful : List TableDecl → List (Call × ℕ) → Bool
are_lawful tables calls = list_all (λ one. is_lawful tables one.0 one.1) calls

-- whatever the answers are, a lawful scan of a declared table uses and reaches lawful calls alone: their functions are declared, their conditions meet the keys, their attempts are
-- within the rule's number, and functions are called with exactly the results of their dependencies
abbrev pub LawfulScanMakesLawfulCalls : Type 0
LawfulScanMakesLawfulCalls = (before after : List TableDecl) (table : TableDecl) (request : ScanRequest) (answers : Answers)
    → is_lawful_scan table request ≡ true
    → (are_lawful (before ++ table ∷ after) (used table request answers) ≡ true) × (are_lawful (before ++ table ∷ after) (reach table request answers) ≡ true)
