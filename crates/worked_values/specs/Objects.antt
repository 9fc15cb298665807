-- Objects, listed by their owners; items by a get; and the scan of a whole book.
use Rattle.std.specs.Prelude.{◌≡◌, ℕ, List, [], ◌∷◌, codes, Option, Some, None}
use Rattle.serde_json.specs.Data.{null}
use Rattle.sp_value.specs.declared.cell.Cell.{Cell}
use Rattle.sp_value.specs.declared.cell.Cell as c
use Rattle.sp_value.specs.declared.truth.Op.TheVariants as op
use Rattle.sp_model.specs.Book.{Book}
use Rattle.sp_model.specs.Settling.{Answers}
use Rattle.sp_model.specs.Walk.{scan_value}
use Rattle.sp_model.specs.declared.call.Call.{Call}
use Rattle.sp_model.specs.declared.call.Call.TheVariants as call
use Rattle.sp_model.specs.declared.call.Ending.TheVariants.{End}
use Rattle.sp_model.specs.declared.call.Version.TheVariants.{Is, Bad}
use Rattle.sp_model.specs.declared.outcome.ScanValue.TheVariants.{Rows, Failed}
use Rattle.sp_model.specs.declared.scan.Access.TheVariants as access
use Rattle.sp_model.specs.declared.scan.Cause.TheVariants as cause
use Rattle.sp_model.specs.declared.scan.ScanRequest.{ScanRequest}
use Rattle.worked_values.specs.Samples.{number, named, is, bucket, object, item, request_of, answers_by, ends, Gives, FailsAt, Calls}

-- ---- owners

abbrev pub thing : List ℕ → List ℕ → Cell
thing owner name = c.Object ((codes "bucket", c.Text owner) ∷ (codes "name", c.Text name) ∷ [])

-- p has k1 and k2, and q has k3
abbrev pub owners : Answers
owners = answers_by
    (ends (codes "parents") [] 1 (named (codes "p") ∷ named (codes "q") ∷ [])
    ∷ ends (codes "list") (codes "p") 1 (thing (codes "p") (codes "k1") ∷ thing (codes "p") (codes "k2") ∷ [])
    ∷ ends (codes "list") (codes "q") 1 (thing (codes "q") (codes "k3") ∷ [])
    ∷ [])

abbrev pub objects : Option ℕ → ScanRequest
objects limit = request_of object access.Parents [] (codes "bucket" ∷ codes "name" ∷ []) limit

abbrev pub row : List ℕ → List ℕ → List Cell
row owner name = c.Text owner ∷ c.Text name ∷ []

abbrev pub owners_call : Call × ℕ
owners_call = (call.Parents (codes "object"), 1)

abbrev pub list_call : List ℕ → Call × ℕ
list_call owner = (call.List (codes "object") [] (Some (named owner)), 1)

abbrev pub all_calls : List (Call × ℕ)
all_calls = owners_call ∷ list_call (codes "p") ∷ list_call (codes "q") ∷ []

abbrev pub EachOwnerIsListed : Type 0
EachOwnerIsListed =
    Gives object (objects None) owners (row (codes "p") (codes "k1") ∷ row (codes "p") (codes "k2") ∷ row (codes "q") (codes "k3") ∷ [])
    × Calls object (objects None) owners all_calls all_calls

-- the list of q is reached, and not used
abbrev pub LimitEndsWithTheFirstOwner : Type 0
LimitEndsWithTheFirstOwner =
    Gives object (objects (Some 2)) owners (row (codes "p") (codes "k1") ∷ row (codes "p") (codes "k2") ∷ [])
    × Calls object (objects (Some 2)) owners (owners_call ∷ list_call (codes "p") ∷ []) all_calls

-- ---- a get

abbrev pub eel : Cell
eel = c.Object ((codes "id", number 5) ∷ (codes "name", c.Text (codes "eel")) ∷ [])

abbrev pub got : Option ℕ → ScanRequest
got limit = request_of item access.Get (is (codes "id") op.Eq (number 5) ∷ []) (codes "id" ∷ codes "name" ∷ []) limit

abbrev pub get_call : Call × ℕ
get_call = (call.Get (codes "item") (is (codes "id") op.Eq (number 5) ∷ []), 1)

abbrev pub GetGivesItsItem : Type 0
GetGivesItsItem =
    Gives item (got None) (answers_by (ends (codes "get") [] 1 (eel ∷ []) ∷ [])) ((number 5 ∷ c.Text (codes "eel") ∷ []) ∷ [])
    × Calls item (got None) (answers_by (ends (codes "get") [] 1 (eel ∷ []) ∷ [])) (get_call ∷ []) (get_call ∷ [])

abbrev pub TwoItemsOfAGetAreTooMany : Type 0
TwoItemsOfAGetAreTooMany = FailsAt item (got None) (answers_by (ends (codes "get") [] 1 (eel ∷ eel ∷ []) ∷ [])) 3 None (cause.TooMany (codes "getItem") 2)

-- an item for which a sent condition isn't true is no row
abbrev pub OtherItemIsNoRow : Type 0
OtherItemIsNoRow =
    Gives item (got None) (answers_by (ends (codes "get") [] 1 (c.Object ((codes "id", number 6) ∷ []) ∷ []) ∷ [])) []

-- ---- a book

-- every reply is one null, and every version is 7
abbrev pub one_null : Book
one_null = record {
  reply = λ key. record { items = c.Null ∷ []; ending = End };
  version = λ connection tick. Is 7;
  declaration = λ connection. null;
}

abbrev pub policies : ScanRequest
policies = request_of bucket access.List [] (codes "name" ∷ codes "policy" ∷ []) None

abbrev pub BookHasAScanValue : Type 0
BookHasAScanValue = scan_value one_null bucket policies (one_null.version (codes "c") 0) ≡ Some (Rows ((c.Null ∷ c.Null ∷ []) ∷ []))

abbrev pub BadVersionFailsAtRow0 : Type 0
BadVersionFailsAtRow0 = scan_value one_null bucket policies (Bad (codes "gone")) ≡ Some (Failed 0 None (cause.BadVersion (codes "gone")))
