-- The book that a text of JSON is: a declaration, and the replies to calls that are spelled out.
use Rattle.std.specs.Prelude.{ℕ, Bool, false, ◌&&◌, not, List, [], ◌∷◌, length, codes, bytes_eq, nat_lt, if◌then◌else◌, Option, Some, None, option_and_then, Result, Ok, Err}
use Rattle.serde_json.specs.Data.{Data, null, object, no_members, Items, no_items, item}
use Rattle.serde_json.specs.Find.{get, as_array}
use Rattle.serde_json.specs.Written.{compact_text}
use Rattle.sp_value.specs.Json.{has_odd_number}
use Rattle.sp_value.specs.declared.cell.Cell.{Cell}
use Rattle.sp_model.specs.Book.{Book}
use Rattle.sp_model.specs.declared.call.Asked.TheVariants.{Call}
use Rattle.sp_model.specs.declared.call.CallKey.{CallKey}
use Rattle.sp_model.specs.declared.call.Ending.{Ending}
use Rattle.sp_model.specs.declared.call.Ending.TheVariants.{End, Error}
use Rattle.sp_model.specs.declared.call.Reply.{Reply}
use Rattle.sp_model.specs.declared.call.Version.TheVariants.{Is}
use Rattle.sp_world.specs.LineJson.{json_of, whole, text_at}
use Rattle.sp_world.specs.ReplyLines.{item_of, is_shallow_object}
use Rattle.sp_world.specs.RequestLines.{request_text}
use Rattle.sp_world.specs.declared.line.LineFault.{LineFault}
use Rattle.sp_world.specs.declared.line.Request.TheVariants.{Ask}

abbrev pub or_null : Result Data LineFault → Data
or_null (Ok d) = d
or_null (Err fault) = null

-- the JSON of a text, null where it is none
abbrev pub text_data : List ℕ → Data
text_data text = or_null (whole (json_of text))

-- the list under a name, empty where there is none
abbrev pub or_no_items : Option Items → Items
or_no_items None = no_items
or_no_items (Some ds) = ds

abbrev pub list_at : List ℕ → Data → Items
list_at name d = or_no_items (option_and_then as_array (get name d))

abbrev pub with_item : Option Cell → List Cell → List Cell
with_item None cells = cells
with_item (Some cell) cells = cell ∷ cells

-- the items of a list; what is no item is left out
abbrev pub items_in : Items → List Cell
items_in no_items = []
items_in (item d ds) = with_item (item_of d) (items_in ds)

-- as many as a reply may have, or none
abbrev pub few : List Cell → List Cell
few cells = if nat_lt (length cells) 1000000 then cells else []

abbrev pub ending_of : Option (List ℕ) → Ending
ending_of None = End
ending_of (Some text) = Error text

-- an entry's items, and its error or the end
abbrev pub reply_of : Data → Reply
reply_of d = record { items = few (items_in (list_at (codes "items") d)); ending = ending_of (text_at (codes "error") d) }

abbrev pub is_spelled : List ℕ → Option Data → Bool
is_spelled text None = false
is_spelled text (Some d) = if has_odd_number d then false else bytes_eq (compact_text d) text

-- the first entry whose `call` is spelled so
abbrev pub entry_in : List ℕ → Items → Option Data
entry_in text no_items = None
entry_in text (item d ds) = if is_spelled text (get (codes "call") d) then Some d else entry_in text ds

abbrev pub or_no_reply : Option Data → Reply
or_no_reply None = record { items = []; ending = Error (codes "no reply") }
or_no_reply (Some d) = reply_of d

-- the request of a call, without a number and a function
abbrev pub call_text : CallKey → List ℕ
call_text key = request_text (Ask 0 (Call key) None)

abbrev pub or_no_declaration : Option Data → Data
or_no_declaration None = object no_members
or_no_declaration (Some d) = if is_shallow_object d && not (has_odd_number d) then d else object no_members

-- the book of a text's JSON, at version 7
abbrev pub book_of : Data → Book
book_of d = record {
  reply = λ key. or_no_reply (entry_in (call_text key) (list_at (codes "replies") d));
  version = λ connection tick. Is 7;
  declaration = λ connection. or_no_declaration (get (codes "declaration") d);
}

abbrev pub text_book : List ℕ → Book
text_book text = book_of (text_data text)
