-- The units of a source: the scans that one row of the sources before it asks for.
use Rattle.std.specs.Prelude.{ℕ, ◌-◌, Bool, true, false, ◌&&◌, ◌||◌, not, nat_lt, List, [], ◌∷◌, ◌++◌, map, filter, Option, Some, None, if◌then◌else◌, bytes_eq}
use Rattle.std.specs.List.{list_any, list_all, filter_map}
use Rattle.std.specs.Ordering.{match_ordering}
use Rattle.sp_value.specs.declared.cell.Cell.{Cell}
use Rattle.sp_value.specs.declared.truth.Op.TheVariants as op
use Rattle.sp_model.specs.Conditions.{is_scalar, scalar_cmp}
use Rattle.sp_model.specs.Keys.{is_sent, is_equality, canonical}
use Rattle.sp_model.specs.declared.call.Condition.{Condition}
use Rattle.sp_model.specs.declared.declaration.KeyDecl.{KeyDecl}

-- a connection, and the conditions that are sent to it
pub record ScanUnit : Type 0 where
  pub connection : List ℕ
  pub conditions : List Condition

abbrev pub same_scalar : Cell → Cell → Bool
same_scalar x y = match_ordering (scalar_cmp x y) false true false

-- values in their order, without nulls, each where it stands first
abbrev pub distinct_values : List Cell → List Cell → List Cell
distinct_values before [] = []
distinct_values before (x ∷ xs) =
    if is_scalar x && not (list_any (same_scalar x) before) then x ∷ distinct_values (x ∷ before) xs else distinct_values before xs

-- two conditions by `=` on one column have one value
abbrev pub agrees : Condition → Condition → Bool
agrees a b = not (is_equality a && is_equality b && bytes_eq a.column b.column) || same_scalar a.value b.value

abbrev pub all_agree : List Condition → Bool
all_agree [] = true
all_agree (condition ∷ conditions) = list_all (agrees condition) conditions && all_agree conditions

abbrev pub unit_of_sent : List ℕ → List Condition → Option ScanUnit
unit_of_sent connection conditions =
    if list_all (λ condition. is_scalar condition.value) conditions && all_agree conditions
    then Some (record { connection = connection; conditions = canonical conditions })
    else None

-- no scan is made where a sent condition has no value, or where one column would have to equal two values
abbrev pub unit_of : List KeyDecl → List ℕ → List Condition → Option ScanUnit
unit_of keys connection conditions = unit_of_sent connection (filter (is_sent keys) conditions)

abbrev pub with_value : List ℕ → List Condition → Cell → List Condition
with_value column conditions x = (record { column = column; operator = op.Eq; value = x }) ∷ conditions

-- the conditions of one unit for each value of the `in` list that is fanned out, or of one unit without a fan
abbrev pub fanned : Option (List ℕ × List Cell) → List Condition → List (List Condition)
fanned None conditions = conditions ∷ []
fanned (Some fan) conditions = map (with_value fan.0 conditions) (distinct_values [] fan.1)

abbrev pub flat_map : {X Y : Type 0} → (X → List Y) → List X → List Y
flat_map f [] = []
flat_map f (x ∷ xs) = f x ++ flat_map f xs

-- for each connection, in order, the units of its fan
abbrev pub units : List KeyDecl → List (List ℕ) → Option (List ℕ × List Cell) → List Condition → List ScanUnit
units keys connections fan conditions = flat_map (λ connection. filter_map (unit_of keys connection) (fanned fan conditions)) connections

-- what a unit still has to give of a limit, None where nothing is missing
abbrev pub still_missing : ℕ → ℕ → Option ℕ
still_missing limit rows = if nat_lt rows limit then Some (limit - rows) else None
