-- A request line but for its number.
use Rattle.std.specs.Prelude.{◌≡◌, ℕ, ◌<◌, ◌≤◌, ◌^◌, Bool, true, false, List, [], ◌∷◌, ◌++◌, Option, Some, Ok, codes, decimal}
use Rattle.json.specs.Print.{quoted}
use Rattle.json.specs.Tree.{HasNumbers, depth}
use Rattle.serde_json.specs.Data.{Data, object}
use Rattle.serde_json.specs.Read.{of_json, max_depth}
use Rattle.serde_json.specs.Written.{outline, compact_text, comma_if}
use Rattle.sp_value.specs.Json.{data_of, pairs_data}
use Rattle.sp_model.specs.Conditions.{is_canonical}
use Rattle.sp_model.specs.Sayable.{IsItem}
use Rattle.sp_model.specs.declared.call.Asked.{Asked}
use Rattle.sp_model.specs.declared.call.Asked.TheVariants as asked
use Rattle.sp_model.specs.declared.call.Call.{Call}
use Rattle.sp_model.specs.declared.call.Call.TheVariants as call
use Rattle.sp_world.specs.ReplyLines.{item_of}
use Rattle.sp_world.specs.RequestLines.{request_of, request_text, conditions_data, conditions_of, parent_data, parent_of, results_of, IsParentForm, AreResults}
use Rattle.sp_world.specs.declared.line.Request.TheVariants.{Ask}

-- with any number between them, a head and a tail are the request's line
abbrev pub AreParts : Asked → Option (List ℕ) → List ℕ → List ℕ → Type 0
AreParts what function head tail = (id : ℕ) → request_text (Ask id what function) ≡ head ++ (decimal id ++ tail)

-- a request is read from its line, under each number that lines can say
abbrev pub IsReadBack : Asked → Option (List ℕ) → Type 0
IsReadBack what function = (id : ℕ) → id < 2 ^ 63 → request_of (request_text (Ask id what function)) ≡ Ok (Ask id what function)

-- JSON that is written without floats and read as itself
pub record IsRound (d : Data) : Type 0 where
  pub back : of_json (outline d) ≡ Some d
  pub numbers : HasNumbers (outline d)
  pub shallow : depth (outline d) ≤ max_depth

-- the text of members, with a comma before each but the first
abbrev pub member_texts : Bool → List (List ℕ × Data) → List ℕ
member_texts later [] = []
member_texts later (m ∷ ms) = comma_if later ++ (quoted m.0 ++ 58 ∷ (compact_text m.1 ++ member_texts true ms))

-- an object's text up to the number, which follows these members
abbrev pub head_text : List (List ℕ × Data) → List ℕ
head_text before = 123 ∷ (member_texts false before ++ codes ",\"id\":")

-- and from the number on
abbrev pub tail_text : List (List ℕ × Data) → List ℕ
tail_text behind = member_texts true behind ++ 125 ∷ []

-- what stands in front of the number has the protocol's form
abbrev pub IsCallBeforeForm : Call → Type 0
IsCallBeforeForm (call.List table conditions parent) = is_canonical conditions ≡ true
IsCallBeforeForm (call.Get table conditions) = is_canonical conditions ≡ true
IsCallBeforeForm _ = Unit {0}

abbrev pub IsBeforeForm : Asked → Type 0
IsBeforeForm (asked.Call key) = IsCallBeforeForm key.call
IsBeforeForm _ = Unit {0}

-- and what stands behind it
abbrev pub IsCallBehindForm : Call → Type 0
IsCallBehindForm (call.List table conditions parent) = IsParentForm parent
IsCallBehindForm (call.Hydrate table own row results) = IsItem row × AreResults results
IsCallBehindForm _ = Unit {0}

abbrev pub IsBehindForm : Asked → Type 0
IsBehindForm (asked.Call key) = (key.version < 2 ^ 63) × IsCallBehindForm key.call
IsBehindForm (asked.Version connection tick) = tick < 2 ^ 63
IsBehindForm (asked.Declare connection) = Unit {0}

-- what stands in front of it is read again
abbrev pub IsCallReadBefore : Call → Type 0
IsCallReadBefore (call.List table conditions parent) = conditions_of (conditions_data conditions) ≡ Some conditions
IsCallReadBefore (call.Get table conditions) = conditions_of (conditions_data conditions) ≡ Some conditions
IsCallReadBefore _ = Unit {0}

abbrev pub IsReadBefore : Asked → Type 0
IsReadBefore (asked.Call key) = (key.attempt < 2 ^ 32) × IsCallReadBefore key.call
IsReadBefore _ = Unit {0}

-- and what stands behind it
abbrev pub IsCallReadBehind : Call → Type 0
IsCallReadBehind (call.List table conditions parent) = parent_of (parent_data parent) ≡ Some parent
IsCallReadBehind (call.Hydrate table own row results) = (item_of (data_of row) ≡ Some row) × (results_of (object (pairs_data results)) ≡ Some results)
IsCallReadBehind _ = Unit {0}

abbrev pub IsReadBehind : Asked → Type 0
IsReadBehind (asked.Call key) = IsCallReadBehind key.call
IsReadBehind _ = Unit {0}
