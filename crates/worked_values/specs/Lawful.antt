-- Lawful calls, and one of each kind that isn't.
use Rattle.std.specs.Prelude.{◌≡◌, ℕ, true, false, List, [], ◌∷◌, codes, Option, Some, None}
use Rattle.sp_value.specs.declared.cell.Cell as c
use Rattle.sp_value.specs.declared.truth.Op.TheVariants as op
use Rattle.sp_model.specs.Calls.{is_lawful, is_lawful_request}
use Rattle.sp_model.specs.declared.call.Call.{Call}
use Rattle.sp_model.specs.declared.call.Call.TheVariants as call
use Rattle.sp_model.specs.declared.call.Condition.{Condition}
use Rattle.sp_model.specs.declared.declaration.TableDecl.{TableDecl}
use Rattle.worked_values.specs.Samples.{number, named, is, item, bucket, object, tag}

abbrev pub tables : List TableDecl
tables = item ∷ bucket ∷ tag ∷ object ∷ []

abbrev pub IsLawful : Call → ℕ → Type 0
IsLawful asked attempt = is_lawful tables asked attempt ≡ true

abbrev pub IsUnlawful : Call → ℕ → Type 0
IsUnlawful asked attempt = is_lawful tables asked attempt ≡ false

abbrev pub id_is : ℕ → Condition
id_is n = is (codes "id") op.Eq (number n)

abbrev pub above : ℕ → Condition
above n = is (codes "id") op.Gt (number n)

abbrev pub list_items : List Condition → Call
list_items conditions = call.List (codes "item") conditions None

-- an attempt is from 1 to the rule's number
abbrev pub AttemptsAreOfTheRule : Type 0
AttemptsAreOfTheRule =
    (IsLawful (list_items []) 1 × IsLawful (list_items []) 3)
    × ((IsUnlawful (list_items []) 0 × IsUnlawful (list_items []) 4)
    × (IsLawful (call.Parents (codes "object")) 1 × IsUnlawful (call.Parents (codes "object")) 2))

-- conditions of a list are in canonical order, each once, of a value, on a key by one of its operators, and meet the keys
abbrev pub ListHasItsKeys : Type 0
ListHasItsKeys =
    (IsLawful (list_items (id_is 5 ∷ above 1 ∷ [])) 1 × (IsUnlawful (list_items (above 1 ∷ id_is 5 ∷ [])) 1 × IsUnlawful (list_items (id_is 5 ∷ id_is 5 ∷ [])) 1))
    × ((IsUnlawful (list_items (is (codes "id") op.Eq c.Null ∷ [])) 1 × (IsUnlawful (list_items (is (codes "id") op.Lt (number 5) ∷ [])) 1 × IsUnlawful (list_items (is (codes "name") op.Eq (number 5) ∷ [])) 1))
    × (IsUnlawful (call.List (codes "tag") [] None) 1 × IsLawful (call.List (codes "tag") (is (codes "bucket") op.Eq (number 5) ∷ []) None) 1))

-- a parent stands exactly where one is declared
abbrev pub ParentIsDeclared : Type 0
ParentIsDeclared =
    (IsLawful (call.List (codes "object") [] (Some (named (codes "p")))) 1 × IsUnlawful (call.List (codes "object") [] None) 1)
    × (IsUnlawful (call.List (codes "item") [] (Some (named (codes "p")))) 1 × IsUnlawful (call.Parents (codes "item")) 1)

-- conditions of a get are by `=`, and meet its keys
abbrev pub GetHasItsKeys : Type 0
GetHasItsKeys =
    IsLawful (call.Get (codes "item") (id_is 5 ∷ [])) 1
    × (IsUnlawful (call.Get (codes "item") []) 1 × (IsUnlawful (call.Get (codes "item") (above 5 ∷ [])) 1 × IsUnlawful (call.Get (codes "tag") []) 1))

-- a function has exactly the results of its dependencies
abbrev pub FunctionHasItsResults : Type 0
FunctionHasItsResults =
    (IsLawful (call.Hydrate (codes "bucket") (codes "getAcl") (named (codes "b1")) []) 1
    × IsLawful (call.Hydrate (codes "bucket") (codes "getPolicy") (named (codes "b1")) ((codes "getAcl", c.Null) ∷ [])) 1)
    × ((IsUnlawful (call.Hydrate (codes "bucket") (codes "getAcl") (named (codes "b1")) ((codes "getPolicy", c.Null) ∷ [])) 1
    × IsUnlawful (call.Hydrate (codes "bucket") (codes "getPolicy") (named (codes "b1")) []) 1)
    × IsUnlawful (call.Hydrate (codes "bucket") (codes "getOwner") (named (codes "b1")) []) 1)

abbrev pub TableIsDeclared : Type 0
TableIsDeclared = IsUnlawful (call.List (codes "none") [] None) 1

abbrev pub IsLawfulRequest : Call → Option (List ℕ) → Type 0
IsLawfulRequest asked function = is_lawful_request tables asked 1 function ≡ true

abbrev pub IsUnlawfulRequest : Call → Option (List ℕ) → Type 0
IsUnlawfulRequest asked function = is_lawful_request tables asked 1 function ≡ false

-- a line names the function that the table declares for its call
abbrev pub RequestNamesTheDeclaredFunction : Type 0
RequestNamesTheDeclaredFunction =
    (IsLawfulRequest (list_items []) (Some (codes "listItems")) × (IsUnlawfulRequest (list_items []) (Some (codes "getItem")) × IsUnlawfulRequest (list_items []) None))
    × ((IsLawfulRequest (call.Parents (codes "object")) (Some (codes "listOwners")) × IsUnlawfulRequest (call.Parents (codes "object")) (Some (codes "listObjects")))
    × (IsLawfulRequest (call.Get (codes "item") (id_is 5 ∷ [])) (Some (codes "getItem"))
    × IsLawfulRequest (call.Hydrate (codes "bucket") (codes "getAcl") (named (codes "b1")) []) (Some (codes "getAcl"))))
