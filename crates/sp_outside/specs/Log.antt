-- What a child's log says of its open calls.
use Rattle.std.specs.Prelude.{◌≡◌, ℕ, ◌+◌, ◌%◌, ◌==◌, List, [], ◌∷◌, ◌++◌, if◌then◌else◌, Option, Some, None, slice_get, length, fold, Result, Ok, Err}
use Rattle.sp_model.specs.Book.{Book}
use Rattle.sp_world.specs.ReplyLines.{ReplyLine, Item, End, Error, Version, Declaration, line_of}
use Rattle.sp_world.specs.Fits.{book_line}
use Rattle.sp_world.specs.RequestLines.{request_of}
use Rattle.sp_world.specs.declared.line.LineFault.{LineFault}
use Rattle.sp_world.specs.declared.line.Request.{Request}
use Rattle.sp_world.specs.declared.line.Request.TheVariants.{Ask}
use Rattle.sp_outside.specs.declared.log.Event.{Event}
use Rattle.sp_outside.specs.declared.log.Event.TheVariants.{Heard, Given, Started}
use Rattle.sp_outside.specs.declared.log.OpenCall.{OpenCall}

-- ---- the open calls

-- the calls after a request was heard: the new one is the last
abbrev pub opened : Result Request LineFault → List OpenCall → List OpenCall
opened (Ok (Ask id asked function)) calls = calls ++ record { id = id; asked = asked; taken = 0 } ∷ []
opened (Err fault) calls = calls

-- the call has given one item more
abbrev pub one_more : OpenCall → OpenCall
one_more call = record { id = call.id; asked = call.asked; taken = call.taken + 1 }

-- the first call of this number has given one item more
abbrev pub item_taken : ℕ → List OpenCall → List OpenCall
item_taken id [] = []
item_taken id (call ∷ calls) = if call.id == id then one_more call ∷ calls else call ∷ item_taken id calls

-- the first call of this number is no longer open
abbrev pub closed : ℕ → List OpenCall → List OpenCall
closed id [] = []
closed id (call ∷ calls) = if call.id == id then calls else call ∷ closed id calls

-- the calls after a line was given: an item leaves its call open, every other line ends it
abbrev pub line_taken : Result ReplyLine LineFault → List OpenCall → List OpenCall
line_taken (Ok (Item id item)) calls = item_taken id calls
line_taken (Ok (End id)) calls = closed id calls
line_taken (Ok (Error id text)) calls = closed id calls
line_taken (Ok (Version id number)) calls = closed id calls
line_taken (Ok (Declaration id value)) calls = closed id calls
line_taken (Err fault) calls = calls

abbrev pub after : List OpenCall → Event → List OpenCall
after calls (Heard line) = opened (request_of line) calls
after calls (Given line) = line_taken (line_of line) calls
after calls Started = []

-- the calls that are open after these events
abbrev pub pending : List Event → List OpenCall
pending log = fold after [] log

-- the first open call of this number
abbrev pub find_open : ℕ → List OpenCall → Option OpenCall
find_open id [] = None
find_open id (call ∷ calls) = if call.id == id then Some call else find_open id calls

-- ---- the next line of an open call

-- the next line of an open call
abbrev pub next_line : Book → OpenCall → ReplyLine
next_line book call = book_line book call.id call.asked call.taken

-- the bytes are the next line of an open call, which is the first of its number
pub record IsNextLine (book : Book) (calls : List OpenCall) (bytes : List ℕ) : Type 0 where
  pub call : OpenCall
  pub is_open : find_open call.id calls ≡ Some call
  pub reads : line_of bytes ≡ Ok (next_line book call)

-- the bytes are the next line of a picked call: of the open call at a place, counted around the open calls, or of the first of its number
pub record IsPickedLine (book : Book) (pick : ℕ) (calls : List OpenCall) (bytes : List ℕ) : Type 0 where
  pub like : OpenCall
  pub call : OpenCall
  pub is_there : slice_get calls (pick % length calls) ≡ Some like
  pub is_open : find_open like.id calls ≡ Some call
  pub reads : line_of bytes ≡ Ok (next_line book call)
