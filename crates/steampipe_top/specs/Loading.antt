-- What a load of generated rows answers and writes.
use Rattle.std.specs.Prelude.{◌≡◌, ℕ, IsTrue, List, [], ◌∷◌, Option, Some, None}
use Rattle.std.specs.Io.KnownBytes.{Appends}
use Rattle.sp_value.specs.declared.cell.Cell.{Cell}
use Rattle.sp_outside.specs.declared.child.Child.{Ghosts as Child}
use Rattle.sp_world.specs.declared.world.World.{Ghosts as World}
use Rattle.sp_outside.specs.Writing.{GrewByPrefix}
use Rattle.input_lines.specs.declared.line.Line.{Line}
use Rattle.input_lines.specs.declared.line.Line.TheVariants.{Statement}
use Rattle.load_gen.specs.Summary.{load_settings, statement, summary}
use Rattle.run_lines.specs.Blocks.{AreAnswers, AreByText, AreOver, with_child}
use Rattle.run_lines.specs.Calls.{AreCounted}
use Rattle.run_lines.specs.declared.block.Block.{Block}
use Rattle.scan_run.specs.Asked.{SubsetKeysFilter}
use Rattle.statement_run.specs.declared.answer.AnswerEnd.{AnswerEnd}
use Rattle.statement_run.specs.declared.answer.AnswerEnd.TheVariants as end
use Rattle.answer_text.specs.declared.answer.Form.{Form}
use Rattle.steampipe_top.specs.Running.{AsksToLoad, blocks_status}
use Rattle.steampipe_top.specs.Shown.{blocks_text}
use Rattle.steampipe_top.specs.declared.status.Status.{Status}
use Rattle.steampipe_top.specs.declared.status.Status.TheVariants.{WriteFault}

-- the only line of a load: its statement
abbrev pub load_line : ℕ → Line
load_line count = Statement 1 (statement count)

abbrev pub rows_in : AnswerEnd → Option (List (List Cell))
rows_in (end.Rows rows) = Some rows
rows_in _ = None

-- the rows of the only answer, where it has some
abbrev pub rows_of : List Block → Option (List (List Cell))
rows_of (b ∷ []) = rows_in b.answer.end
rows_of _ = None

abbrev pub text_by : Option (List (List Cell)) → Form → List Block → ℕ → List ℕ
text_by (Some rows) form blocks calls = summary rows calls
text_by None form blocks calls = blocks_text form blocks

-- what a load prints: how many rows and calls there were and the sum; where the answer isn't rows, its block
abbrev pub load_text : Form → List Block → ℕ → List ℕ
load_text form blocks calls = text_by (rows_of blocks) form blocks calls

-- what the sink of answers holds after a load of this status: the whole text, or a beginning of it where writing stopped
abbrev pub IsLoadWritten : Form → Status → List Block → ℕ → Option (List ℕ) → Option (List ℕ) → Type 0
IsLoadWritten form WriteFault blocks calls held held_after = GrewByPrefix held held_after (load_text form blocks calls)
IsLoadWritten form status blocks calls held held_after = (status ≡ blocks_status blocks) × Appends held held_after (load_text form blocks calls)

-- a load of so many rows ran: the answer to its statement is the defined one, where the children tell and their subset keys only filter; the
-- child of its one connection came back, and the calls are those that it was sent; the text was written
pub record HasLoaded {Kid W : Type 0} (kid : Child Kid W) (world : World W) (count : ℕ) (form : Form) (status : Status) (held held_after : Option (List ℕ)) (back back_after : List Kid) : Type 0 where
  pub blocks : List Block
  pub calls : ℕ
  pub defined : IsTrue world.tells → SubsetKeysFilter world.book → AreAnswers world.book load_settings (load_line count ∷ []) blocks
  pub text : AreByText load_settings (load_line count ∷ []) blocks
  pub over : AreOver kid world 0 (with_child load_settings.connections) back back_after blocks
  pub counted : AreCounted kid back back_after calls
  pub written : IsLoadWritten form status blocks calls held held_after

-- the words ask for a load, of so many rows and in a form of which this holds
pub record IsToLoad (words : List (List ℕ)) (P : ℕ → Form → Type 0) : Type 0 where
  pub count : ℕ
  pub form : Form
  pub named : AsksToLoad words count form
  pub fact : P count form
