-- What is told of a book.
use Rattle.serde_json.specs.Data.{Data}
use Rattle.sp_model.specs.declared.call.Piece as piece
use Rattle.sp_model.specs.declared.call.Version as version

-- a piece of a reply, a version or a declaration
pub data Answer : Type 0 where
  Piece : piece.Piece → Answer
  Version : version.Version → Answer
  Declaration : Data → Answer
