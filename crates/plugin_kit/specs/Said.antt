-- For private clauses: the texts of the lines that answer a request, part by part.
use Rattle.std.specs.Prelude.{ℕ, List, [], ◌∷◌, ◌++◌}
use Rattle.sp_value.specs.declared.cell.Cell.{Cell}
use Rattle.sp_model.specs.Book.{Book}
use Rattle.sp_model.specs.declared.call.Asked.{Asked}
use Rattle.sp_model.specs.declared.call.Asked.TheVariants as asked
use Rattle.sp_model.specs.declared.call.Ending.{Ending}
use Rattle.sp_model.specs.declared.call.Ending.TheVariants as ending
use Rattle.sp_model.specs.declared.call.Reply.{Reply}
use Rattle.sp_model.specs.declared.call.Version.{Version}
use Rattle.sp_model.specs.declared.call.Version.TheVariants as version
use Rattle.sp_world.specs.ReplyLines.{ReplyLine}
use Rattle.sp_world.specs.ReplyLines as line
use Rattle.plugin_kit.specs.Replies.{line_text}

-- a line for each item, in order
abbrev pub items_text : ℕ → List Cell → List ℕ
items_text id [] = []
items_text id (item ∷ items) = line_text (line.Item id item) ++ items_text id items

abbrev pub ending_line : ℕ → Ending → ReplyLine
ending_line id ending.End = line.End id
ending_line id (ending.Error text) = line.Error id text

-- the items of a reply, and its ending
abbrev pub reply_lines : ℕ → Reply → List ℕ
reply_lines id reply = items_text id reply.items ++ line_text (ending_line id reply.ending)

-- a version, or the error why there is none
abbrev pub version_line : ℕ → Version → ReplyLine
version_line id (version.Is number) = line.Version id number
version_line id (version.Bad text) = line.Error id text

-- the texts of all lines that answer what was asked under a number
abbrev pub asked_text : Book → ℕ → Asked → List ℕ
asked_text book id (asked.Call key) = reply_lines id (book.reply key)
asked_text book id (asked.Version connection tick) = line_text (version_line id (book.version connection tick))
asked_text book id (asked.Declare connection) = line_text (line.Declaration id (book.declaration connection))
