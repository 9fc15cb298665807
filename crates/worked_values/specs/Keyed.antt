-- Keys: the conditions that are sent, how items are asked for, and the units of a source.
use Rattle.std.specs.Prelude.{◌≡◌, ℕ, true, false, List, [], ◌∷◌, codes, Some, None, Ok, Err}
use Rattle.sp_value.specs.declared.cell.Cell.{Cell}
use Rattle.sp_value.specs.declared.cell.Cell as c
use Rattle.sp_value.specs.declared.truth.Op.TheVariants as op
use Rattle.sp_model.specs.Keys.{sent, is_met, missing_keys, choose}
use Rattle.sp_model.specs.Requests.{fan_for}
use Rattle.sp_model.specs.Units.{ScanUnit, distinct_values, units, still_missing}
use Rattle.sp_model.specs.declared.call.Condition.{Condition}
use Rattle.sp_model.specs.declared.declaration.TableDecl.{TableDecl}
use Rattle.sp_model.specs.declared.scan.Access.TheVariants as access
use Rattle.worked_values.specs.Samples.{number, is, table_of, item, item_keys, object, tag, tag_keys, event, event_keys}

abbrev pub equals : List ℕ → ℕ → Condition
equals name n = is name op.Eq (number n)

-- ---- sent and missing

-- `body` is no key, and `<` none of its operators
abbrev pub OnlyKeysAreSent : Type 0
OnlyKeysAreSent =
    (sent event_keys (is (codes "zone") op.Lt (number 1) ∷ equals (codes "zone") 1 ∷ equals (codes "body") 1 ∷ []) ≡ equals (codes "zone") 1 ∷ [])
    × ((sent tag_keys (equals (codes "label") 5 ∷ is (codes "bucket") op.Gt (number 5) ∷ []) ≡ [])
    × ((sent tag_keys (equals (codes "bucket") 5 ∷ []) ≡ equals (codes "bucket") 5 ∷ []) × (sent item_keys (equals (codes "name") 5 ∷ is (codes "id") op.Gt (number 5) ∷ []) ≡ is (codes "id") op.Gt (number 5) ∷ [])))

-- in canonical order, each once
abbrev pub SentInOrder : Type 0
SentInOrder =
    sent item_keys (is (codes "id") op.Gt (number 1) ∷ equals (codes "id") 6 ∷ equals (codes "id") 5 ∷ equals (codes "id") 6 ∷ [])
    ≡ equals (codes "id") 5 ∷ equals (codes "id") 6 ∷ is (codes "id") op.Gt (number 1) ∷ []

abbrev pub EventNeedsRegionOrZone : Type 0
EventNeedsRegionOrZone =
    (missing_keys event_keys [] ≡ codes "region" ∷ codes "zone" ∷ []) × ((is_met event_keys [] ≡ false) × (is_met event_keys (equals (codes "zone") 1 ∷ []) ≡ true))

abbrev pub TagNeedsBucket : Type 0
TagNeedsBucket = (missing_keys tag_keys (equals (codes "label") 1 ∷ []) ≡ codes "bucket" ∷ []) × (is_met tag_keys (equals (codes "label") 1 ∷ []) ≡ false)

-- ---- access

abbrev pub TagIsListedByBucket : Type 0
TagIsListedByBucket =
    (choose tag (equals (codes "label") 5 ∷ []) [] ≡ Err (codes "bucket" ∷ []))
    × ((choose tag (equals (codes "bucket") 5 ∷ []) [] ≡ Ok access.List)
    × ((choose tag (is (codes "bucket") op.Gt (number 5) ∷ []) [] ≡ Err (codes "bucket" ∷ [])) × (choose tag (equals (codes "label") 5 ∷ []) (codes "bucket" ∷ []) ≡ Ok access.List)))

abbrev pub EventIsListedByEither : Type 0
EventIsListedByEither =
    (choose event (equals (codes "body") 5 ∷ []) [] ≡ Err (codes "region" ∷ codes "zone" ∷ [])) × (choose event (equals (codes "zone") 5 ∷ []) [] ≡ Ok access.List)

-- by `=`, also by an `in` conjunct; by `>` it is listed
abbrev pub ItemIsGotById : Type 0
ItemIsGotById =
    (choose item (equals (codes "id") 5 ∷ []) [] ≡ Ok access.Get)
    × ((choose item (is (codes "id") op.Gt (number 5) ∷ []) [] ≡ Ok access.List) × (choose item (equals (codes "name") 5 ∷ []) (codes "id" ∷ []) ≡ Ok access.Get))

abbrev pub ObjectIsListedByParents : Type 0
ObjectIsListedByParents = choose object [] [] ≡ Ok access.Parents

-- items without a list
abbrev pub got_only : TableDecl
got_only = table_of (codes "item") item.columns None item.get []

abbrev pub WithoutAListTheGetsKeysAreMissing : Type 0
WithoutAListTheGetsKeysAreMissing = choose got_only (equals (codes "name") 5 ∷ []) [] ≡ Err (codes "id" ∷ [])

-- the first of the columns of `in` conjuncts that is a key by `=`
abbrev pub FanIsOfTheChosenAccess : Type 0
FanIsOfTheChosenAccess =
    ((fan_for item access.Get (codes "name" ∷ codes "id" ∷ []) ≡ Some (codes "id")) × (fan_for event access.List (codes "zone" ∷ codes "region" ∷ []) ≡ Some (codes "zone")))
    × ((fan_for event access.List (codes "body" ∷ []) ≡ None) × (fan_for tag access.Get (codes "bucket" ∷ []) ≡ None))

-- ---- units

abbrev pub unit : List ℕ → List Condition → ScanUnit
unit connection conditions = record { connection = connection; conditions = conditions }

abbrev pub one_connection : List (List ℕ)
one_connection = codes "c" ∷ []

-- nulls and values that stand before are left out
abbrev pub FanHasEachValueOnce : Type 0
FanHasEachValueOnce =
    (distinct_values [] (number 5 ∷ number 5 ∷ c.Null ∷ number 6 ∷ []) ≡ number 5 ∷ number 6 ∷ [])
    × (units item_keys one_connection (Some (codes "id", number 5 ∷ number 5 ∷ c.Null ∷ number 6 ∷ [])) []
    ≡ unit (codes "c") (equals (codes "id") 5 ∷ []) ∷ unit (codes "c") (equals (codes "id") 6 ∷ []) ∷ [])

abbrev pub TwoValuesOfOneKeyMakeNoScan : Type 0
TwoValuesOfOneKeyMakeNoScan =
    (units item_keys one_connection None (equals (codes "id") 5 ∷ equals (codes "id") 6 ∷ []) ≡ [])
    × (units item_keys one_connection None (equals (codes "id") 5 ∷ equals (codes "id") 5 ∷ []) ≡ unit (codes "c") (equals (codes "id") 5 ∷ []) ∷ [])

-- conditions that aren't sent don't count, and one that is sent has a value
abbrev pub OnlySentConditionsCount : Type 0
OnlySentConditionsCount =
    (units item_keys one_connection None (equals (codes "name") 5 ∷ equals (codes "name") 6 ∷ is (codes "id") op.Gt (number 1) ∷ [])
    ≡ unit (codes "c") (is (codes "id") op.Gt (number 1) ∷ []) ∷ [])
    × (units item_keys one_connection None (is (codes "id") op.Eq c.Null ∷ []) ≡ [])

-- each member of an aggregator, in order, and in it the values of the fan
abbrev pub EachMemberHasItsUnits : Type 0
EachMemberHasItsUnits =
    (units item_keys (codes "a" ∷ codes "b" ∷ codes "d" ∷ []) None [] ≡ unit (codes "a") [] ∷ unit (codes "b") [] ∷ unit (codes "d") [] ∷ [])
    × (units item_keys (codes "a" ∷ codes "b" ∷ []) (Some (codes "id", number 5 ∷ number 6 ∷ [])) []
    ≡ unit (codes "a") (equals (codes "id") 5 ∷ []) ∷ unit (codes "a") (equals (codes "id") 6 ∷ []) ∷ unit (codes "b") (equals (codes "id") 5 ∷ [])
    ∷ unit (codes "b") (equals (codes "id") 6 ∷ []) ∷ [])

abbrev pub TenOfFiftyAreMissing : Type 0
TenOfFiftyAreMissing = (still_missing 50 40 ≡ Some 10) × (still_missing 40 40 ≡ None)
