-- What a run of the program answers.
use Rattle.std.specs.Prelude.{◌≡◌, ◌⊎◌, ◌^◌, ℕ, List, codes, Bool, true, false, IsTrue, Option, Some, None, if◌then◌else◌}
use Rattle.std.specs.List.{list_any, list_all}
use Rattle.std.specs.Io.KnownBytes.{Appends}
use Rattle.sp_model.specs.declared.settings.Settings.{Settings}
use Rattle.sp_outside.specs.declared.child.Child.{Ghosts as Child}
use Rattle.sp_world.specs.declared.world.World.{Ghosts as World}
use Rattle.sp_outside.specs.Causes.{Rose}
use Rattle.sp_outside.specs.Files.{FileTold}
use Rattle.sp_outside.specs.Writing.{GrewByPrefix}
use Rattle.input_lines.specs.Lines.{lines_to_answer}
use Rattle.run_lines.specs.Blocks.{AreAnswers, AreByText, AreTrulyNoted, AreOver, CameBack, with_child, block_ticks}
use Rattle.run_lines.specs.declared.block.Block.{Block}
use Rattle.statement_words.specs.Turns.{AreInTurn}
use Rattle.statement_run.specs.declared.answer.AnswerEnd.{AnswerEnd}
use Rattle.statement_run.specs.declared.answer.AnswerEnd.TheVariants as end
use Rattle.scan_run.specs.Asked.{SubsetKeysFilter}
use Rattle.settings_text.specs.Reading.{read_settings}
use Rattle.answer_text.specs.declared.answer.Form.{Form}
use Rattle.command_words.specs.Words.{words_of}
use Rattle.command_words.specs.declared.words.Command.TheVariants.{Query, Explain, Load}
use Rattle.command_words.specs.declared.words.Words.{Words}
use Rattle.load_gen.specs.Summary.{load_settings}
use Rattle.steampipe_top.specs.Reading.{refusal_line, AreSettings, AreBadSettings, AreRefused, IsInput}
use Rattle.steampipe_top.specs.Shown.{blocks_text, notes_text}
use Rattle.steampipe_top.specs.declared.task.Task.{Task}
use Rattle.steampipe_top.specs.declared.task.Task.TheVariants as task
use Rattle.steampipe_top.specs.declared.status.Status.{Status}
use Rattle.steampipe_top.specs.declared.status.Status.TheVariants.{Done, Failed, Usage, Settings as BadSettings, FileFault, ReadFault, InputLimit, WriteFault, Memory}

-- ---- what the words ask for

-- to answer the lines of the input by the settings of a file, in a form
abbrev pub Asks : List (List ℕ) → List ℕ → Form → Type 0
Asks words file form = words_of words ≡ Some (record { command = Query file; form = form })

-- to explain the lines of the input by the settings of a file and the declaration of another; the form is passed over
abbrev pub AsksToExplain : List (List ℕ) → List ℕ → List ℕ → Type 0
AsksToExplain words file second = (form : Form) × (words_of words ≡ Some (record { command = Explain file second; form = form }))

-- to run the statement of a load over so many rows; an answer that isn't rows has the form
abbrev pub AsksToLoad : List (List ℕ) → ℕ → Form → Type 0
AsksToLoad words count form = words_of words ≡ Some (record { command = Load count; form = form })

abbrev pub IsTask : Task → List (List ℕ) → Type 0
IsTask (task.Query file form) words = Asks words file form
IsTask (task.Explain file second) words = AsksToExplain words file second
IsTask (task.Load count form) words = AsksToLoad words count form
IsTask task.Nothing words = words_of words ≡ None
IsTask task.Memory words = Unit {0}

-- the same of words that were read
abbrev pub IsTaskOf : Task → Words → Type 0
IsTaskOf (task.Query file form) w = w ≡ record { command = Query file; form = form }
IsTaskOf (task.Explain file second) w = (form : Form) × (w ≡ record { command = Explain file second; form = form })
IsTaskOf (task.Load count form) w = w ≡ record { command = Load count; form = form }
IsTaskOf _ w = ⊥

-- ---- statuses

abbrev pub is_rows : AnswerEnd → Bool
is_rows (end.Rows rows) = true
is_rows _ = false

abbrev pub is_memory : AnswerEnd → Bool
is_memory end.Memory = true
is_memory _ = false

abbrev pub any_memory : List Block → Bool
any_memory blocks = list_any (λ b. is_memory b.answer.end) blocks

abbrev pub all_rows : List Block → Bool
all_rows blocks = list_all (λ b. is_rows b.answer.end) blocks

-- Memory where an answer wants memory, else Done where all are rows, else Failed
abbrev pub blocks_status : List Block → Status
blocks_status blocks = if any_memory blocks then Memory else (if all_rows blocks then Done else Failed)

-- a run that answered, whose writing may have failed; where memory was wanting it may have written nothing instead
abbrev pub IfAnswered : Status → Type 0 → Type 0 → Type 0
IfAnswered Done silent P = P
IfAnswered Failed silent P = P
IfAnswered WriteFault silent P = P
IfAnswered Memory silent P = silent ⊎ P
IfAnswered _ silent P = Unit {0}

-- a run that was refused before it answered, with the line that says so
abbrev pub IfRefused : Status → (List ℕ → Type 0) → Type 0
IfRefused Usage P = P (codes "usage: steampipe [--output line|csv|json|table] query SETTINGS, explain SETTINGS DECLARATION, load NUMBER\n")
IfRefused FileFault P = P (codes "error: file fault\n")
IfRefused ReadFault P = P (codes "error: read fault\n")
IfRefused InputLimit P = P (codes "error: input limit\n")
IfRefused _ P = Unit {0}

-- a run that read its files
abbrev pub IsPastFiles : Status → Type 0
IsPastFiles Usage = ⊥
IsPastFiles BadSettings = ⊥
IsPastFiles FileFault = ⊥
IsPastFiles _ = Unit {0}

-- a line was written whole; or a beginning of it, to a sink whose count of faults rose
abbrev pub IsNoted : ℕ → ℕ → Option (List ℕ) → Option (List ℕ) → List ℕ → Type 0
IsNoted faults faults_after held held_after line = Appends held held_after line ⊎ (GrewByPrefix held held_after line × Rose faults faults_after)

-- writing stopped: in the answers, before any note; or in the notes
abbrev pub IsStopped : Form → List Block → Option (List ℕ) → Option (List ℕ) → Option (List ℕ) → Option (List ℕ) → Type 0
IsStopped form blocks held held_after notes notes_after =
    (GrewByPrefix held held_after (blocks_text form blocks) × (notes_after ≡ notes))
    ⊎ (Appends held held_after (blocks_text form blocks) × GrewByPrefix notes notes_after (notes_text blocks))

-- what the sinks of answers and notes hold after a run of this status: the whole texts, or beginnings of them where writing stopped
abbrev pub IsWritten : Form → Status → List Block → Option (List ℕ) → Option (List ℕ) → Option (List ℕ) → Option (List ℕ) → Type 0
IsWritten form WriteFault blocks held held_after notes notes_after = IsStopped form blocks held held_after notes notes_after
IsWritten form status blocks held held_after notes notes_after =
    (status ≡ blocks_status blocks) × Appends held held_after (blocks_text form blocks) × Appends notes notes_after (notes_text blocks)

-- the number that a program ends with
abbrev pub status_number : Status → ℕ
status_number Done = 0
status_number Failed = 1
status_number Usage = 2
status_number BadSettings = 3
status_number FileFault = 4
status_number ReadFault = 5
status_number InputLimit = 6
status_number WriteFault = 7
status_number Memory = 8

-- what stands outside a run: the input that is left, what the sinks of answers and of notes hold, and the children that came back
pub record Outside (Kid : Type 0) : Type 0 where
  pub left : Option (List ℕ)
  pub held : Option (List ℕ)
  pub notes : Option (List ℕ)
  pub back : List Kid

-- an input was answered by settings: its whole was read; the answers are the defined ones, where the children tell and their subset keys only
-- filter, and the notes are true; the ticks at which statements began and scans were noted never fall; the children of all plain connections
-- came back in their order, each spent restart budget has its lost child among them; the texts of the answers and of their notes were written
pub record HasAnswered {Kid W : Type 0} (kid : Child Kid W) (world : World W) (settings : Settings) (form : Form) (status : Status) (before after : Outside Kid) : Type 0 where
  pub input : List ℕ
  pub read : IsInput before.left after.left input
  pub blocks : List Block
  pub defined : IsTrue world.tells → SubsetKeysFilter world.book → AreAnswers world.book settings (lines_to_answer input) blocks
  pub noted : IsTrue world.tells → AreTrulyNoted world.book settings.options blocks
  pub text : AreByText settings (lines_to_answer input) blocks
  pub turns : AreInTurn 0 (2 ^ 62) (block_ticks (lines_to_answer input) blocks)
  pub over : AreOver kid world 0 (with_child settings.connections) before.back after.back blocks
  pub written : IsWritten form status blocks before.held after.held before.notes after.notes

-- the words ask for answers by a file, whose settings these are, in a form
pub record AreNamed (words : List (List ℕ)) (files : List ℕ → FileTold) (settings : Settings) (form : Form) : Type 0 where
  pub file : List ℕ
  pub named : Asks words file form
  pub are : AreSettings read_settings (files file) settings

-- the words ask for answers by these settings: those of a file, or those of a load
abbrev pub AnswersBy : List (List ℕ) → (List ℕ → FileTold) → Settings → Type 0
AnswersBy words files settings = ((form : Form) × AreNamed words files settings form) ⊎ ((count : ℕ) × (form : Form) × AsksToLoad words count form × (settings ≡ load_settings))

-- no child came back; or those of the first plain connections of the settings by which the words ask for answers, in their order, and where
-- children tell, each heard only lawful requests of its own connection
abbrev pub AreReturned : {Kid W : Type 0} → Child Kid W → World W → List (List ℕ) → (List ℕ → FileTold) → List Kid → List Kid → Type 0
AreReturned {Kid} kid world words files back back_after =
    (back_after ≡ back) ⊎ ((settings : Settings) × AnswersBy words files settings × ((children : List Kid) × CameBack kid world (with_child settings.connections) back back_after children))

-- the words name a file whose settings are refused, by a line of which this holds
pub record AreNone (words : List (List ℕ)) (files : List ℕ → FileTold) (faults faults_after : ℕ) (P : List ℕ → Type 0) : Type 0 where
  pub file : List ℕ
  pub form : Form
  pub named : Asks words file form
  pub why : List ℕ
  pub refused : AreRefused (AreBadSettings read_settings) (files file) faults faults_after why
  pub line : P (refusal_line (codes "settings") why)

-- a run answered its input, by the settings that its words name
pub record HasRun {Kid W : Type 0} (kid : Child Kid W) (world : World W) (words : List (List ℕ)) (files : List ℕ → FileTold) (status : Status) (before after : Outside Kid) : Type 0 where
  pub settings : Settings
  pub form : Form
  pub named : AreNamed words files settings form
  pub answered : HasAnswered kid world settings form status before after
