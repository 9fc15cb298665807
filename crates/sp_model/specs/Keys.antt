-- Key columns: the conditions that are sent, and how the items of a table are asked for.
use Rattle.std.specs.Prelude.{ℕ, ◌==◌, Bool, true, false, ◌&&◌, ◌||◌, not, List, [], ◌∷◌, ◌++◌, map, filter, Option, Some, None, Result, Ok, Err, if◌then◌else◌, bytes_eq}
use Rattle.std.specs.List.{list_any, list_all}
use Rattle.std.specs.Ordering.{match_ordering}
use Rattle.sp_value.specs.declared.cell.Cell as c
use Rattle.sp_value.specs.declared.truth.Op.{Op}
use Rattle.sp_value.specs.declared.truth.Op.TheVariants as op
use Rattle.sp_model.specs.Conditions.{condition_cmp, operator_rank}
use Rattle.sp_model.specs.declared.call.Condition.{Condition}
use Rattle.sp_model.specs.declared.declaration.AccessDecl.{AccessDecl}
use Rattle.sp_model.specs.declared.declaration.GetDecl.{GetDecl}
use Rattle.sp_model.specs.declared.declaration.KeyDecl.{KeyDecl}
use Rattle.sp_model.specs.declared.declaration.ListDecl.{ListDecl}
use Rattle.sp_model.specs.declared.declaration.Need.{Need}
use Rattle.sp_model.specs.declared.declaration.Need.TheVariants as need
use Rattle.sp_model.specs.declared.declaration.TableDecl.{TableDecl}
use Rattle.sp_model.specs.declared.scan.Access.{Access}
use Rattle.sp_model.specs.declared.scan.Access.TheVariants as access

-- ---- sent conditions

abbrev pub same_operator : Op → Op → Bool
same_operator a b = operator_rank a == operator_rank b

-- the condition is on this key, by an operator that the key declares
abbrev pub is_on : KeyDecl → Condition → Bool
is_on key condition = bytes_eq key.column condition.column && list_any (same_operator condition.operator) key.operators

abbrev pub is_sent : List KeyDecl → Condition → Bool
is_sent keys condition = list_any (λ key. is_on key condition) keys

-- a condition put in its place, where it doesn't stand already
abbrev pub put_condition : Condition → List Condition → List Condition
put_condition condition [] = condition ∷ []
put_condition condition (d ∷ ds) = match_ordering (condition_cmp condition d) (condition ∷ d ∷ ds) (d ∷ ds) (d ∷ put_condition condition ds)

-- conditions in canonical order, each once
abbrev pub canonical : List Condition → List Condition
canonical [] = []
canonical (condition ∷ conditions) = put_condition condition (canonical conditions)

-- the conditions on a key by one of its operators, in canonical order
abbrev pub sent : List KeyDecl → List Condition → List Condition
sent keys conditions = canonical (filter (is_sent keys) conditions)

-- ---- met keys

abbrev pub is_required_need : Need → Bool
is_required_need need.Required = true
is_required_need need.Optional = false
is_required_need need.AnyOf = false

abbrev pub is_any_of_need : Need → Bool
is_any_of_need need.Required = false
is_any_of_need need.Optional = false
is_any_of_need need.AnyOf = true

abbrev pub is_required : KeyDecl → Bool
is_required key = is_required_need key.need

abbrev pub is_any_of : KeyDecl → Bool
is_any_of key = is_any_of_need key.need

abbrev pub has_condition : List Condition → KeyDecl → Bool
has_condition conditions key = list_any (is_on key) conditions

-- each required key has a sent condition, and one of the any-of keys has where there are any
abbrev pub is_met : List KeyDecl → List Condition → Bool
is_met keys conditions =
    list_all (λ key. not (is_required key) || has_condition conditions key) keys
    && (not (list_any is_any_of keys) || list_any (λ key. is_any_of key && has_condition conditions key) keys)

abbrev pub columns_of_keys : List KeyDecl → List (List ℕ)
columns_of_keys keys = map (λ key. key.column) keys

-- the required keys without a condition, and then all any-of keys where none of them has one
abbrev pub missing_keys : List KeyDecl → List Condition → List (List ℕ)
missing_keys keys conditions =
    columns_of_keys (filter (λ key. is_required key && not (has_condition conditions key)) keys)
    ++ (if list_any (λ key. is_any_of key && has_condition conditions key) keys then [] else columns_of_keys (filter is_any_of keys))

-- ---- access

abbrev pub equals : List ℕ → Condition
equals column = record { column = column; operator = op.Eq; value = c.Null }

abbrev pub is_equality : Condition → Bool
is_equality condition = same_operator condition.operator op.Eq

-- the first of the columns that is a key by `=`
abbrev pub fan_of : List KeyDecl → List (List ℕ) → Option (List ℕ)
fan_of keys [] = None
fan_of keys (column ∷ columns) = if is_sent keys (equals column) then Some column else fan_of keys columns

abbrev pub with_equals : Option (List ℕ) → List Condition → List Condition
with_equals None conditions = conditions
with_equals (Some column) conditions = equals column ∷ conditions

-- the conditions of a configuration, where the first `in` conjunct on a key by `=` counts as a condition by `=`
abbrev pub with_fan : List KeyDecl → List (List ℕ) → List Condition → List Condition
with_fan keys lists conditions = with_equals (fan_of keys lists) conditions

abbrev pub list_access : Option AccessDecl → Access
list_access None = access.List
list_access (Some parent) = access.Parents

abbrev pub is_get_met : Option GetDecl → List Condition → List (List ℕ) → Bool
is_get_met None conditions lists = false
is_get_met (Some d) conditions lists = is_met d.keys (filter is_equality (with_fan d.keys lists conditions))

abbrev pub missing_of_get : Option GetDecl → List Condition → List (List ℕ) → List (List ℕ)
missing_of_get None conditions lists = []
missing_of_get (Some d) conditions lists = missing_keys d.keys (filter is_equality (with_fan d.keys lists conditions))

abbrev pub choose_list : Option ListDecl → Option GetDecl → List Condition → List (List ℕ) → Result Access (List (List ℕ))
choose_list None get conditions lists = Err (missing_of_get get conditions lists)
choose_list (Some d) get conditions lists =
    if is_met d.keys (with_fan d.keys lists conditions) then Ok (list_access d.parent) else Err (missing_keys d.keys (with_fan d.keys lists conditions))

-- a get where its keys are met by `=`, else a list where its keys are met, else the keys that are missing;
-- `lists` has the columns of the `in` conjuncts in the order of the text
abbrev pub choose : TableDecl → List Condition → List (List ℕ) → Result Access (List (List ℕ))
choose table conditions lists = if is_get_met table.get conditions lists then Ok access.Get else choose_list table.list table.get conditions lists
