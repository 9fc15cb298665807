-- The column that is fanned out counts in front of the conditions.
use Rattle.std.proofs.Common.{◌≡◌, ℕ, Bool, true, false, ◌||◌, List, Option, Some, None, refl}
use Rattle.sp_model.specs.Keys.{has_condition, with_equals}
use Rattle.sp_model.specs.declared.call.Condition.{Condition}
use Rattle.sp_model.specs.declared.declaration.KeyDecl.{KeyDecl}
use Rattle.key_columns.specs.Counted.{among, fan_counts}

pub counts : (by_equals : Bool) (fan : Option (List ℕ)) (conditions : List Condition) (key : KeyDecl)
    → has_condition (among by_equals (with_equals fan conditions)) key ≡ (fan_counts fan key || has_condition (among by_equals conditions) key)
counts true None conditions key = refl
counts true (Some column) conditions key = refl
counts false None conditions key = refl
counts false (Some column) conditions key = refl
