-- What comes in.
use Rattle.std.specs.Prelude.{ℕ, List, []}
use Rattle.serde_json.specs.View.{view}
use Rattle.sp_value.specs.declared.cell.Cell.{Cell}
use Rattle.sp_model.specs.Book.{Book}
use Rattle.sp_model.specs.declared.call.Asked.{Asked}
use Rattle.sp_model.specs.declared.call.Asked.TheVariants as asked
use Rattle.sp_world.specs.Told.{Answer}
use Rattle.sp_world.specs.Told as told
use Rattle.sp_world.specs.ReplyLines.{ReplyLine}
use Rattle.sp_world.specs.ReplyLines as line
use Rattle.sp_world.specs.declared.told.ToldLine.{ToldLine}
use Rattle.sp_world.specs.declared.told.ToldLine.TheVariants as tells

-- the number that a line names
abbrev pub number_of : ReplyLine → ℕ
number_of (line.Item id item) = id
number_of (line.End id) = id
number_of (line.Error id text) = id
number_of (line.Version id v) = id
number_of (line.Declaration id d) = id

-- what was asked, and what is told of it
abbrev pub shown : {X : Type 0} → ToldLine X → Asked × Answer
shown (tells.Piece t) = (t.0, told.Piece t.1)
shown (tells.Version t) = (t.0, told.Version t.1)
shown (tells.Declaration t) = (t.0, told.Declaration (view t.1))

-- the items of the reply to what was asked, none to what is no call
abbrev pub replied : Book → Asked → List Cell
replied book (asked.Call key) = (book.reply key).items
replied book _ = []
