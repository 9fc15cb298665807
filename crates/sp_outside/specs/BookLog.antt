-- A child that answers from a book: its open calls and the replies to them.
use Rattle.std.specs.Prelude.{◌≡◌, ℕ, zero, suc, ◌<◌, ◌^◌, ◌==◌, true, false, List, [], ◌∷◌, length, map, nat_lt, if◌then◌else◌, Option, None, Some, slice_get, Ok, IsErr}
use Rattle.std.specs.List.{AllByRecursion}
use Rattle.sp_model.specs.Book.{Book}
use Rattle.sp_model.specs.declared.call.Asked.{Asked}
use Rattle.sp_model.specs.declared.call.Asked.TheVariants as asked
use Rattle.sp_model.specs.declared.call.Ending.TheVariants as ending
use Rattle.sp_model.specs.declared.call.Reply.{Reply}
use Rattle.sp_world.specs.RequestLines.{request_of}
use Rattle.sp_world.specs.declared.line.Request.TheVariants.{Ask}
use Rattle.sp_outside.specs.Log.{pending, one_more}
use Rattle.sp_outside.specs.declared.log.Event.{Event}
use Rattle.sp_outside.specs.declared.log.OpenCall.{OpenCall}
use Rattle.sp_outside.specs.declared.book_log.Answering.{Answering}

-- the book's reply to a call, an empty one to what is no call
abbrev pub reply_of : Book → Asked → Reply
reply_of book (asked.Call key) = book.reply key
reply_of book _ = record { items = []; ending = ending.End }

-- the reply is the book's, and the number is one that lines can say
abbrev pub IsAnswered : Book → Answering → Type 0
IsAnswered book answering = (answering.reply ≡ reply_of book answering.call.asked) × (answering.call.id < 2 ^ 63)

-- the call, without its reply
abbrev pub call_of : Answering → OpenCall
call_of answering = answering.call

-- the open calls are those of the events, each with its reply
abbrev pub Stands : Book → List Event → List Answering → Type 0
Stands book events calls = (pending events ≡ map call_of calls) × AllByRecursion (IsAnswered book) calls

-- the call that a line opens, with its reply
abbrev pub Opens : Book → List ℕ → Option Answering → Type 0
Opens book line None = IsErr (request_of line)
Opens book line (Some answering) =
    ((function : Option (List ℕ)) × (request_of line ≡ Ok (Ask answering.call.id answering.call.asked function)))
    × (answering.call.taken ≡ 0) × IsAnswered book answering

-- the first call of this number stands at this place
abbrev pub IsFirst : ℕ → List Answering → ℕ → Type 0
IsFirst id [] place = ⊥
IsFirst id (answering ∷ calls) zero = (answering.call.id == id) ≡ true
IsFirst id (answering ∷ calls) (suc place) = ((answering.call.id == id) ≡ false) × IsFirst id calls place

-- the first call that has the number of the call at a place
pub record IsFirstLike (at : ℕ) (calls : List Answering) (place : ℕ) : Type 0 where
  pub like : Answering
  pub is_there : slice_get calls at ≡ Some like
  pub is_first : IsFirst like.call.id calls place

-- the call has given one item more
abbrev pub one_later : Answering → Answering
one_later answering = record { call = one_more answering.call; reply = answering.reply }

-- the calls after the one at a place gave a line: it is open for the next one where that was an item
abbrev pub advanced : ℕ → List Answering → List Answering
advanced place [] = []
advanced zero (answering ∷ calls) = if nat_lt answering.call.taken (length answering.reply.items) then one_later answering ∷ calls else calls
advanced (suc place) (answering ∷ calls) = answering ∷ advanced place calls
