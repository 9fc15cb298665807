-- What counts as a condition where keys are looked at.
use Rattle.std.specs.Prelude.{ℕ, Bool, false, List, filter, Option, Some, None, if◌then◌else◌, option_copied}
use Rattle.sp_model.specs.Keys.{is_on, equals, with_equals, is_equality}
use Rattle.sp_model.specs.declared.call.Condition.{Condition}
use Rattle.sp_model.specs.declared.declaration.KeyDecl.{KeyDecl}
use Rattle.key_columns.specs.declared.given.Given.{Given}

-- all of them, or those by `=` alone
abbrev pub among : Bool → List Condition → List Condition
among by_equals conditions = if by_equals then filter is_equality conditions else conditions

-- the conditions, with an equality for the column that is fanned out
abbrev pub counted : Given → List Condition
counted given = among given.by_equals (with_equals (option_copied given.fan) given.conditions.now)

-- an equality with the column that is fanned out is on the key
abbrev pub fan_counts : Option (List ℕ) → KeyDecl → Bool
fan_counts None key = false
fan_counts (Some column) key = is_on key (equals column)
