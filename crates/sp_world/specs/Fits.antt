-- What a line says of what was asked.
use Rattle.std.specs.Prelude.{ℕ, ◌<◌, ◌≤◌, ◌^◌, length, nat_lt, if◌then◌else◌, Option, Some, None, IsSome, Bool, true, false, slice_get}
use Rattle.sp_value.specs.declared.cell.Cell.{Cell}
use Rattle.sp_model.specs.Book.{Book}
use Rattle.sp_model.specs.Sayable.{KeepsForms}
use Rattle.sp_model.specs.declared.call.Asked.{Asked}
use Rattle.sp_model.specs.declared.call.Asked.TheVariants as asked
use Rattle.sp_model.specs.declared.call.Reply.{Reply}
use Rattle.sp_model.specs.declared.call.Ending.TheVariants as ending
use Rattle.sp_model.specs.declared.call.Piece.TheVariants as piece
use Rattle.sp_model.specs.declared.call.Version.TheVariants as version
use Rattle.sp_world.specs.Told.{Answer}
use Rattle.sp_world.specs.Told as told
use Rattle.sp_world.specs.ReplyLines.{ReplyLine, Item, End, Error, Version, Declaration, reply_text}

-- what a line tells of what was asked, at a place of the reply: an item, if its place is one that a reply may have, or the end or an
-- error for a call; a version, or why there is none; a declaration
abbrev pub told_by : Asked → ℕ → ReplyLine → Option Answer
told_by (asked.Call key) place (Item id item) = if nat_lt place 999999 then Some (told.Piece (piece.Item place item)) else None
told_by (asked.Call key) place (End id) = Some (told.Piece (piece.Ending place ending.End))
told_by (asked.Call key) place (Error id text) = Some (told.Piece (piece.Ending place (ending.Error text)))
told_by (asked.Version connection tick) place (Version id v) = Some (told.Version (version.Is v))
told_by (asked.Version connection tick) place (Error id text) = Some (told.Version (version.Bad text))
told_by (asked.Declare connection) place (Declaration id d) = Some (told.Declaration d)
told_by _ _ _ = None

-- a line fits what was asked
abbrev pub Fits : Asked → ℕ → ReplyLine → Type 0
Fits what place l = IsSome (told_by what place l)

-- whether it is the last line that answers
abbrev pub is_last : Answer → Bool
is_last (told.Piece (piece.Item place item)) = false
is_last _ = true

-- ---- the lines of a book

-- the piece of a reply at a place: the item there, or the ending
abbrev pub piece_or : ℕ → Reply → Option Cell → Answer
piece_or place r (Some item) = told.Piece (piece.Item place item)
piece_or place r None = told.Piece (piece.Ending place r.ending)

abbrev pub book_answer : Book → Asked → ℕ → Answer
book_answer book (asked.Call key) place = piece_or place (book.reply key) (slice_get (book.reply key).items place)
book_answer book (asked.Version connection tick) place = told.Version (book.version connection tick)
book_answer book (asked.Declare connection) place = told.Declaration (book.declaration connection)

-- the line of a number that says it
abbrev pub line_for : ℕ → Answer → ReplyLine
line_for id (told.Piece (piece.Item place item)) = Item id item
line_for id (told.Piece (piece.Ending count ending.End)) = End id
line_for id (told.Piece (piece.Ending count (ending.Error text))) = Error id text
line_for id (told.Version (version.Is v)) = Version id v
line_for id (told.Version (version.Bad text)) = Error id text
line_for id (told.Declaration d) = Declaration id d

-- the book's next line for what was asked under a number, once `place` items of its reply were given
abbrev pub book_line : Book → ℕ → Asked → ℕ → ReplyLine
book_line book id what place = line_for id (book_answer book what place)

-- each reply line of the book has at most 1,048,576 bytes, under any number
abbrev pub HasShortLines : Book → Type 0
HasShortLines book = (id : ℕ) (what : Asked) (place : ℕ) → id < 2 ^ 63 → length (reply_text (book_line book id what place)) ≤ 1048576

-- every answer of the book can be said by a line: it keeps the forms of items, versions and declarations, and its lines are short
abbrev pub IsSayable : Book → Type 0
IsSayable book = KeepsForms book × HasShortLines book
