-- What is chosen doesn't depend on values.
use Rattle.std.proofs.Common.{◌≡◌, ℕ, Bool, true, false, ◌&&◌, ◌||◌, not, cond, if◌then◌else◌, List, [], ◌∷◌, ◌++◌, map, filter, Option, Some, None, Ok, Err, refl, ap, ap₂}
use Rattle.std.specs.List.{list_any, list_all}
use Rattle.sp_model.specs.Keys.{is_on, is_required, is_any_of, has_condition, is_met, columns_of_keys, missing_keys, equals, is_equality, fan_of, with_equals, list_access, is_get_met, missing_of_get, choose_list}
use Rattle.sp_model.specs.declared.call.Condition.{Condition}
use Rattle.sp_model.specs.declared.declaration.GetDecl.{GetDecl}
use Rattle.sp_model.specs.declared.declaration.KeyDecl.{KeyDecl}
use Rattle.sp_model.specs.declared.declaration.ListDecl.{ListDecl}
use Rattle.sp_model.specs.declared.scan.Access.TheVariants as access
use Rattle.access_choice.specs.Choices.{without_value, ChoiceHasNoValues}

abbrev without_values : List Condition → List Condition
without_values conditions = map without_value conditions

has_same : (key : KeyDecl) (conditions : List Condition) → has_condition (without_values conditions) key ≡ has_condition conditions key
has_same key [] = refl
has_same key (condition ∷ conditions) = ap (λ b. is_on key condition || b) (has_same key conditions)

has_same_equality : (key : KeyDecl) (conditions : List Condition)
    → has_condition (filter is_equality (without_values conditions)) key ≡ has_condition (filter is_equality conditions) key
has_same_equality key [] = refl
has_same_equality key (condition ∷ conditions) = go (is_equality condition) (has_same_equality key conditions)
  where
    go : (b : Bool) → has_condition (filter is_equality (without_values conditions)) key ≡ has_condition (filter is_equality conditions) key
        → has_condition (cond b (without_value condition ∷ filter is_equality (without_values conditions)) (filter is_equality (without_values conditions))) key
        ≡ has_condition (cond b (condition ∷ filter is_equality conditions) (filter is_equality conditions)) key
    go true h = ap (λ b. is_on key condition || b) h
    go false h = h

fan_same : (fan : Option (List ℕ)) (conditions : List Condition) (key : KeyDecl)
    → has_condition (with_equals fan (without_values conditions)) key ≡ has_condition (with_equals fan conditions) key
fan_same None conditions key = has_same key conditions
fan_same (Some column) conditions key = ap (λ b. is_on key (equals column) || b) (has_same key conditions)

fan_same_equality : (fan : Option (List ℕ)) (conditions : List Condition) (key : KeyDecl)
    → has_condition (filter is_equality (with_equals fan (without_values conditions))) key ≡ has_condition (filter is_equality (with_equals fan conditions)) key
fan_same_equality None conditions key = has_same_equality key conditions
fan_same_equality (Some column) conditions key = ap (λ b. is_on key (equals column) || b) (has_same_equality key conditions)

met_same : (keys : List KeyDecl) (some others : List Condition) → ((key : KeyDecl) → has_condition some key ≡ has_condition others key) → is_met keys some ≡ is_met keys others
met_same keys some others h =
    ap (λ (has : KeyDecl → Bool). list_all (λ key. not (is_required key) || has key) keys && (not (list_any is_any_of keys) || list_any (λ key. is_any_of key && has key) keys))
    (λ i key. h key i)

missing_same : (keys : List KeyDecl) (some others : List Condition) → ((key : KeyDecl) → has_condition some key ≡ has_condition others key)
    → missing_keys keys some ≡ missing_keys keys others
missing_same keys some others h =
    ap (λ (has : KeyDecl → Bool). columns_of_keys (filter (λ key. is_required key && not (has key)) keys)
    ++ (if list_any (λ key. is_any_of key && has key) keys then [] else columns_of_keys (filter is_any_of keys)))
    (λ i key. h key i)

module _ (conditions : List Condition) (lists : List (List ℕ)) where
  get_met : (get : Option GetDecl) → is_get_met get (without_values conditions) lists ≡ is_get_met get conditions lists
  get_met None = refl
  get_met (Some d) = met_same d.keys _ _ (fan_same_equality (fan_of d.keys lists) conditions)

  get_missing : (get : Option GetDecl) → missing_of_get get (without_values conditions) lists ≡ missing_of_get get conditions lists
  get_missing None = refl
  get_missing (Some d) = missing_same d.keys _ _ (fan_same_equality (fan_of d.keys lists) conditions)

  list_chosen : (list : Option ListDecl) (get : Option GetDecl) → choose_list list get (without_values conditions) lists ≡ choose_list list get conditions lists
  list_chosen None get = ap Err (get_missing get)
  list_chosen (Some d) get =
      ap₂ (λ met missing. if met then Ok (list_access d.parent) else Err missing)
      (met_same d.keys _ _ (fan_same (fan_of d.keys lists) conditions))
      (missing_same d.keys _ _ (fan_same (fan_of d.keys lists) conditions))

pub no_values : ChoiceHasNoValues
no_values table conditions lists =
    ap₂ (λ met choice. if met then Ok access.Get else choice) (get_met conditions lists table.get) (list_chosen conditions lists table.list table.get)
