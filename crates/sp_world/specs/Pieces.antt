-- Pieces of a reply.
use Rattle.std.specs.Prelude.{◌≡◌, ◌<◌, length, Some, slice_get}
use Rattle.serde_json.specs.View.{view}
use Rattle.serde_json.specs.declared.value.Value.{Value}
use Rattle.sp_model.specs.Book.{Book}
use Rattle.sp_model.specs.Sayable.{IsItem, IsSayableVersion}
use Rattle.sp_model.specs.declared.call.Asked.{Asked}
use Rattle.sp_model.specs.declared.call.Asked.TheVariants.{Call, Version, Declare}
use Rattle.sp_model.specs.declared.call.Reply.{Reply}
use Rattle.sp_model.specs.declared.call.Piece.{Piece}
use Rattle.sp_model.specs.declared.call.Piece.TheVariants.{Item, Ending}
use Rattle.sp_model.specs.declared.call.Version as version

-- the piece is one of the reply
abbrev pub IsPieceOf : Reply → Piece → Type 0
IsPieceOf r (Item place item) = slice_get r.items place ≡ Some item
IsPieceOf r (Ending count ending) = (count ≡ length r.items) × (ending ≡ r.ending)

-- the piece is what the book has for what was asked
abbrev pub IsToldPiece : Book → Asked → Piece → Type 0
IsToldPiece book (Call key) piece = IsPieceOf (book.reply key) piece
IsToldPiece book (Version connection tick) piece = Unit {0}
IsToldPiece book (Declare connection) piece = Unit {0}

-- an item is an object that nests at most 100 deep, at a place that a reply may have
abbrev pub IsSoundPiece : Piece → Type 0
IsSoundPiece (Item place item) = IsItem item × (place < 999999)
IsSoundPiece (Ending count ending) = Unit {0}

abbrev pub IsToldVersion : Book → Asked → version.Version → Type 0
IsToldVersion book (Call key) v = Unit {0}
IsToldVersion book (Version connection tick) v = v ≡ book.version connection tick
IsToldVersion book (Declare connection) v = Unit {0}

abbrev pub IsToldDeclaration : Book → Asked → Value → Type 0
IsToldDeclaration book (Call key) value = Unit {0}
IsToldDeclaration book (Version connection tick) value = Unit {0}
IsToldDeclaration book (Declare connection) value = view value ≡ book.declaration connection

abbrev pub IsSoundDeclaration : Value → Type 0
IsSoundDeclaration value = Unit {0}

abbrev pub IsSoundVersion : version.Version → Type 0
IsSoundVersion v = IsSayableVersion v
