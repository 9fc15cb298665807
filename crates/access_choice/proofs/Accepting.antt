-- An access is chosen, or the keys are missing.
use Rattle.std.proofs.Common.{◌≡◌, ℕ, Bool, true, false, if◌then◌else◌, List, Option, Some, None, Result, Ok, Err, refl, sym, subst}
use Rattle.sp_model.specs.Keys.{is_met, missing_keys, with_fan, list_access, is_get_met, choose_list, choose}
use Rattle.sp_model.specs.declared.call.Condition.{Condition}
use Rattle.sp_model.specs.declared.declaration.GetDecl.{GetDecl}
use Rattle.sp_model.specs.declared.declaration.ListDecl.{ListDecl}
use Rattle.sp_model.specs.declared.declaration.TableDecl.{TableDecl}
use Rattle.sp_model.specs.declared.scan.Access.{Access}
use Rattle.sp_model.specs.declared.scan.Access.TheVariants as access
use Rattle.access_choice.specs.Choices.{chosen_access, missing_in, missing_of, IsChoice}
use Rattle.access_choice.specs.declared.fault.ChoiceFault.TheVariants.{MissingKeys, Memory}

pub taken : (choice : Result Access (List (List ℕ))) (chosen : Access) → Some chosen ≡ chosen_access choice → IsChoice choice (Ok chosen)
taken (Ok other) chosen h = cc
taken (Err columns) chosen h = cc

module _ (conditions : List Condition) (lists : List (List ℕ)) where
  by_list : (list : Option ListDecl) (get : Option GetDecl) → chosen_access (choose_list list get conditions lists) ≡ None
      → choose_list list get conditions lists ≡ Err (missing_in list get conditions lists)
  by_list None get h = refl
  by_list (Some d) get h = go (is_met d.keys (with_fan d.keys lists conditions)) h
    where
      go : (met : Bool) → chosen_access (if met then Ok (list_access d.parent) else Err (missing_keys d.keys (with_fan d.keys lists conditions))) ≡ None
          → (if met then Ok (list_access d.parent) else Err (missing_keys d.keys (with_fan d.keys lists conditions))) ≡ Err (missing_keys d.keys (with_fan d.keys lists conditions))
      go true h = cc
      go false h = refl

  is_missing : (table : TableDecl) → chosen_access (choose table conditions lists) ≡ None → choose table conditions lists ≡ Err (missing_of table conditions lists)
  is_missing table = go (is_get_met table.get conditions lists) (by_list table.list table.get)
    where
      go : (met : Bool) → (chosen_access (choose_list table.list table.get conditions lists) ≡ None → choose_list table.list table.get conditions lists ≡ Err (missing_of table conditions lists))
          → chosen_access (if met then Ok access.Get else choose_list table.list table.get conditions lists) ≡ None
          → (if met then Ok access.Get else choose_list table.list table.get conditions lists) ≡ Err (missing_of table conditions lists)
      go true h k = cc
      go false h k = h k

pub refused : (table : TableDecl) (conditions : List Condition) (lists columns : List (List ℕ)) → None ≡ chosen_access (choose table conditions lists)
    → columns ≡ missing_of table conditions lists → IsChoice (choose table conditions lists) (Err (MissingKeys columns))
refused table conditions lists columns h e = subst (λ choice. IsChoice choice (Err (MissingKeys columns))) (sym (is_missing conditions lists table (sym h))) e

pub wanting : (table : TableDecl) (conditions : List Condition) (lists : List (List ℕ)) → None ≡ chosen_access (choose table conditions lists)
    → IsChoice (choose table conditions lists) (Err Memory)
wanting table conditions lists h = subst (λ choice. IsChoice choice (Err Memory)) (sym (is_missing conditions lists table (sym h))) tt
