-- The text that requests are answered with.
use Rattle.std.specs.Prelude.{ℕ, zero, suc, List, [], ◌∷◌, ◌++◌, length, Option, Some, None}
use Rattle.std.specs.Io.KnownBytes.{Appends}
use Rattle.sp_model.specs.Book.{Book}
use Rattle.sp_model.specs.declared.call.Asked.{Asked}
use Rattle.sp_model.specs.declared.call.Asked.TheVariants as asked
use Rattle.sp_world.specs.Fits.{book_line}
use Rattle.sp_world.specs.ReplyLines.{ReplyLine, reply_text}
use Rattle.sp_world.specs.declared.line.Request.{Request}
use Rattle.sp_world.specs.declared.line.Request.TheVariants.{Ask}
use Rattle.sp_outside.specs.Writing.{GrewByPrefix}

-- the text of a reply line, with its line feed
unfoldable pub line_text : ReplyLine → List ℕ
line_text l = reply_text l ++ 10 ∷ []

-- how many lines answer what was asked: one for each item of a reply and one for its ending, or one
abbrev pub lines_for : Book → Asked → ℕ
lines_for book (asked.Call key) = suc (length (book.reply key).items)
lines_for book (asked.Version connection tick) = 1
lines_for book (asked.Declare connection) = 1

-- the texts of so many of a book's lines under a number, once `place` items of its reply were given
abbrev pub lines_from : Book → ℕ → Asked → ℕ → ℕ → List ℕ
lines_from book id what place zero = []
lines_from book id what place (suc count) = line_text (book_line book id what place) ++ lines_from book id what (suc place) count

-- the text that a request is answered with by a book: all of the book's lines
unfoldable pub answer_to : Book → Request → List ℕ
answer_to book (Ask id what function) = lines_from book id what 0 (lines_for book what)

-- requests are answered one after another
abbrev pub answers_to : Book → List Request → List ℕ
answers_to book [] = []
answers_to book (request ∷ requests) = answer_to book request ++ answers_to book requests

-- what a sink holds grew by the answers to the requests, where the book is told
abbrev pub Answered : Option Book → Option (List ℕ) → Option (List ℕ) → List Request → Type 0
Answered None held now requests = Unit {0}
Answered (Some book) held now requests = Appends held now (answers_to book requests)

-- it grew by a beginning of them
abbrev pub AnsweredInPart : Option Book → Option (List ℕ) → Option (List ℕ) → List Request → Type 0
AnsweredInPart None held now requests = Unit {0}
AnsweredInPart (Some book) held now requests = GrewByPrefix held now (answers_to book requests)
