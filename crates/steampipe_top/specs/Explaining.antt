-- What a run of the program explains.
use Rattle.std.specs.Prelude.{◌≡◌, ◌⊎◌, ℕ, List, codes, Bool, true, false, Option, if◌then◌else◌}
use Rattle.std.specs.List.{list_any}
use Rattle.std.specs.Io.KnownBytes.{Appends}
use Rattle.sp_model.specs.declared.declaration.Declaration.{Declaration}
use Rattle.sp_model.specs.declared.settings.Settings.{Settings}
use Rattle.sp_outside.specs.Causes.{Rose}
use Rattle.sp_outside.specs.Files.{FileTold}
use Rattle.sp_outside.specs.Writing.{GrewByPrefix}
use Rattle.input_lines.specs.Lines.{lines_to_answer}
use Rattle.settings_text.specs.Reading.{read_all_settings}
use Rattle.sql_bind.specs.Known.{Known, declaration_of}
use Rattle.answer_text.specs.declared.answer.Form.{Form}
use Rattle.explain_text.specs.Alike.{DeclareAlike}
use Rattle.explain_text.specs.Blocks.{AreBlocks, blocks_text}
use Rattle.explain_text.specs.declared.blocks.Block.{Block}
use Rattle.explain_text.specs.declared.blocks.Block.TheVariants as block
use Rattle.steampipe_top.specs.Reading.{refusal_line, AreSettings, AreBadSettings, AreRefused, IsDeclaration, IsBadDeclaration, IsInput}
use Rattle.steampipe_top.specs.Running.{AreNamed, AsksToExplain}
use Rattle.steampipe_top.specs.declared.reading.FileEnd.{FileEnd}
use Rattle.steampipe_top.specs.declared.reading.FileEnd.TheVariants as no_file
use Rattle.steampipe_top.specs.declared.status.Status.{Status}
use Rattle.steampipe_top.specs.declared.status.Status.TheVariants.{Done, Failed, WriteFault, Memory}

abbrev pub is_refused : Block → Bool
is_refused (block.Refused e) = true
is_refused _ = false

abbrev pub is_memory : Block → Bool
is_memory block.Memory = true
is_memory _ = false

-- Memory where a block wants memory, else Failed where one is refused, else Done
abbrev pub explained_status : List Block → Status
explained_status blocks = if list_any is_memory blocks then Memory else (if list_any is_refused blocks then Failed else Done)

-- what the sink of answers holds after a run of this status: the whole text, or a beginning of it where writing stopped
abbrev pub IsExplanationWritten : Status → List Block → Option (List ℕ) → Option (List ℕ) → Type 0
IsExplanationWritten WriteFault blocks held held_after = GrewByPrefix held held_after (blocks_text blocks)
IsExplanationWritten status blocks held held_after = (status ≡ explained_status blocks) × Appends held held_after (blocks_text blocks)

-- an input was explained by what is known: its whole was read, each line has its block, and the text of the blocks was written, and nothing to the notes
pub record HasExplained (known : Known) (status : Status) (left left_after held held_after notes notes_after : Option (List ℕ)) : Type 0 where
  pub input : List ℕ
  pub read : IsInput left left_after input
  pub blocks : List Block
  pub are : AreBlocks known.settings (declaration_of known) (lines_to_answer input) blocks
  pub written : IsExplanationWritten status blocks held held_after
  pub silent : notes_after ≡ notes

-- both files can be read
pub record AreBoth (files : List ℕ → FileTold) (file second : List ℕ) (settings : Settings) (declaration : Declaration) : Type 0 where
  pub are : AreSettings read_all_settings (files file) settings
  pub is : IsDeclaration (files second) declaration

-- the line by which a file is refused: that of settings; or, where there are settings, that of a declaration
abbrev pub IsRefusedBy : (List ℕ → FileTold) → List ℕ → List ℕ → ℕ → ℕ → List ℕ → Type 0
IsRefusedBy files file second faults faults_after line =
    ((why : List ℕ) × AreRefused (AreBadSettings read_all_settings) (files file) faults faults_after why × (line ≡ refusal_line (codes "settings") why))
    ⊎ ((settings : Settings) × AreSettings read_all_settings (files file) settings
    × ((why : List ℕ) × AreRefused IsBadDeclaration (files second) faults faults_after why × (line ≡ refusal_line (codes "declaration") why)))

-- what is known by both files: the settings, and for each of their connections the declaration
pub record AreKnown (files : List ℕ → FileTold) (file second : List ℕ) (known : Known) : Type 0 where
  pub settings : Settings
  pub declaration : Declaration
  pub both : AreBoth files file second settings declaration
  pub alike : DeclareAlike settings declaration known

-- a run explained its input, by the files of these names
pub record HasExplainedBy (files : List ℕ → FileTold) (file second : List ℕ) (status : Status) (left left_after held held_after notes notes_after : Option (List ℕ)) : Type 0 where
  pub known : Known
  pub are : AreKnown files file second known
  pub explained : HasExplained known status left left_after held held_after notes notes_after

-- the words ask to explain, by two files of which this holds
pub record IsToExplain (words : List (List ℕ)) (P : List ℕ → List ℕ → Type 0) : Type 0 where
  pub file : List ℕ
  pub second : List ℕ
  pub named : AsksToExplain words file second
  pub fact : P file second

-- the words name files that can be read
abbrev pub IsReady : List (List ℕ) → (List ℕ → FileTold) → Type 0
IsReady words files =
    ((settings : Settings) × (form : Form) × AreNamed words files settings form)
    ⊎ IsToExplain words (λ file second. (settings : Settings) × (declaration : Declaration) × AreBoth files file second settings declaration)

-- ---- for private clauses

abbrev pub IsBothEnd : (List ℕ → FileTold) → List ℕ → List ℕ → ℕ → ℕ → FileEnd → Type 0
IsBothEnd files file second faults faults_after (no_file.Refused line) = IsRefusedBy files file second faults faults_after line.items
IsBothEnd files file second faults faults_after no_file.Fault = Rose faults faults_after
IsBothEnd files file second faults faults_after no_file.Memory = Unit {0}
