-- What the files and the input of a run have, or why they have nothing.
use Rattle.std.specs.Prelude.{◌≡◌, ◌⊎◌, ℕ, ◌≤◌, List, [], ◌∷◌, ◌++◌, length, codes, Option, Some, None, Err, Ok, Result}
use Rattle.std.specs.Fmt.{decimal}
use Rattle.serde_json.specs.Data.{Data}
use Rattle.sp_model.specs.declared.declaration.Declaration.{Declaration}
use Rattle.sp_model.specs.declared.settings.Settings.{Settings}
use Rattle.sp_outside.specs.Causes.{Rose}
use Rattle.sp_outside.specs.Files.{FileTold, IsFile, IsAbsent, IsTooLong}
use Rattle.sp_outside.specs.Reading.{ReadsWhole, IsLonger}
use Rattle.sp_world.specs.LineJson.{json_of}
use Rattle.decl_words.specs.Reading.{read_declaration}
use Rattle.decl_words.specs.declared.fault.DeclFault.{DeclFault}
use Rattle.input_lines.specs.Lines.{HasTooManyLines}
use Rattle.settings_text.specs.declared.fault.Entry.{Entry}
use Rattle.settings_text.specs.declared.fault.Entry.TheVariants as entry
use Rattle.settings_text.specs.declared.fault.SettingsFault.{SettingsFault}
use Rattle.settings_text.specs.declared.fault.SettingsFault.TheVariants as fault
use Rattle.answer_text.specs.Errors.{declaration_words}
use Rattle.answer_text.specs.declared.answer.DeclarationFault.{DeclarationFault}
use Rattle.steampipe_top.specs.Shown.{declaration_fault}
use Rattle.steampipe_top.specs.declared.reading.FileEnd.{FileEnd}
use Rattle.steampipe_top.specs.declared.reading.FileEnd.TheVariants as no_file
use Rattle.steampipe_top.specs.declared.reading.InputEnd.{InputEnd}
use Rattle.steampipe_top.specs.declared.reading.InputEnd.TheVariants as no_lines

-- ---- the words of refusals

abbrev pub entry_words : Entry → List ℕ
entry_words entry.Top = codes "top"
entry_words entry.Options = codes "options"
entry_words (entry.Connection n) = codes "connection " ++ decimal n
entry_words (entry.Limiter n) = codes "limiter " ++ decimal n

abbrev pub at_entry : List ℕ → Entry → List ℕ
at_entry words at = words ++ (codes " in " ++ entry_words at)

abbrev pub settings_words : SettingsFault → List ℕ
settings_words fault.Toml = codes "toml"
settings_words (fault.Shape at) = at_entry (codes "shape") at
settings_words (fault.NotYet at) = at_entry (codes "not yet") at
settings_words (fault.Duplicate at) = at_entry (codes "duplicate") at
settings_words (fault.EmptyAggregator at) = at_entry (codes "empty aggregator") at
settings_words (fault.MembersDiffer at) = at_entry (codes "members differ") at
settings_words (fault.Limit at) = at_entry (codes "limit") at
settings_words fault.Memory = codes "memory"

abbrev pub at_table : DeclarationFault → ℕ → List ℕ
at_table f table = declaration_words f ++ (codes " in table " ++ decimal table)

abbrev pub refusal_words : Option (DeclarationFault × ℕ) → List ℕ
refusal_words None = codes "memory"
refusal_words (Some p) = at_table p.0 p.1

-- the line that says that a file is refused: what it should have been, and why it isn't
abbrev pub refusal_line : List ℕ → List ℕ → List ℕ
refusal_line what words = codes "error: " ++ (what ++ (codes ": " ++ (words ++ 10 ∷ [])))

-- ---- files

-- a file with a text of which this holds
pub record HasText (file : FileTold) (P : List ℕ → Type 0) : Type 0 where
  pub bytes : List ℕ
  pub found : IsFile file bytes
  pub fact : P bytes

-- there is no file, or it is too long
abbrev pub IsUnread : FileTold → ℕ → ℕ → List ℕ → Type 0
IsUnread file faults faults_after words = ((words ≡ codes "no file") × IsAbsent file faults faults_after) ⊎ ((words ≡ codes "too long") × IsTooLong file)

-- why a file gives nothing, in these words: it can't be read, or its text is refused
abbrev pub AreRefused : (List ℕ → List ℕ → Type 0) → FileTold → ℕ → ℕ → List ℕ → Type 0
AreRefused R file faults faults_after words = IsUnread file faults faults_after words ⊎ HasText file (λ bytes. R bytes words)

-- the end where a file gives nothing: the line that says why; or the count of faults rose; or want of memory
abbrev pub IsFileEnd : (List ℕ → List ℕ → Type 0) → List ℕ → FileTold → ℕ → ℕ → FileEnd → Type 0
IsFileEnd R what file faults faults_after (no_file.Refused line) = (words : List ℕ) × AreRefused R file faults faults_after words × (line.items ≡ refusal_line what words)
IsFileEnd R what file faults faults_after no_file.Fault = Rose faults faults_after
IsFileEnd R what file faults faults_after no_file.Memory = Unit {0}

-- the settings of a file, and in which words its text is refused, by a reader of settings
abbrev pub AreSettings : (List ℕ → Result Settings SettingsFault) → FileTold → Settings → Type 0
AreSettings read file settings = HasText file (λ bytes. read bytes ≡ Ok settings)

abbrev pub AreBadSettings : (List ℕ → Result Settings SettingsFault) → List ℕ → List ℕ → Type 0
AreBadSettings read bytes words = (f : SettingsFault) × (read bytes ≡ Err f) × (words ≡ settings_words f)

-- the declaration of a file, and in which words its text is refused: it is no JSON, or no declaration
abbrev pub ReadsAs : List ℕ → Result Declaration DeclFault → Type 0
ReadsAs bytes answer = (d : Data) × (json_of bytes ≡ Some d) × (read_declaration d ≡ answer)

abbrev pub IsDeclaration : FileTold → Declaration → Type 0
IsDeclaration file declaration = HasText file (λ bytes. ReadsAs bytes (Ok declaration))

abbrev pub IsBadDeclaration : List ℕ → List ℕ → Type 0
IsBadDeclaration bytes words =
    ((words ≡ codes "json") × (json_of bytes ≡ None)) ⊎ ((f : DeclFault) × ReadsAs bytes (Err f) × (words ≡ refusal_words (declaration_fault f)))

-- ---- the input

-- the whole input was read, of at most 1,048,576 bytes and 10,000 lines
pub record IsInput (left left_after : Option (List ℕ)) (input : List ℕ) : Type 0 where
  pub read : ReadsWhole left left_after input
  pub within : length input ≤ 1048576
  pub few : HasTooManyLines input → ⊥

-- the input has more than 1,048,576 bytes or 10,000 lines
abbrev pub IsOverLimit : Option (List ℕ) → Option (List ℕ) → Type 0
IsOverLimit left left_after = IsLonger left 1048576 ⊎ ((input : List ℕ) × ReadsWhole left left_after input × HasTooManyLines input)

-- the end where there are no lines
abbrev pub IsInputEnd : Option (List ℕ) → Option (List ℕ) → ℕ → ℕ → InputEnd → Type 0
IsInputEnd left left_after faults faults_after no_lines.Fault = Rose faults faults_after
IsInputEnd left left_after faults faults_after no_lines.Limit = IsOverLimit left left_after
IsInputEnd left left_after faults faults_after no_lines.Memory = Unit {0}

-- ---- for private clauses

-- a file can't be read
abbrev pub IsUnreadEnd : List ℕ → FileTold → ℕ → ℕ → FileEnd → Type 0
IsUnreadEnd what file faults faults_after (no_file.Refused line) = (words : List ℕ) × IsUnread file faults faults_after words × (line.items ≡ refusal_line what words)
IsUnreadEnd what file faults faults_after no_file.Fault = Rose faults faults_after
IsUnreadEnd what file faults faults_after no_file.Memory = Unit {0}

-- a text is refused, in words of which this holds
abbrev pub IsTextEnd : (List ℕ → Type 0) → List ℕ → FileEnd → Type 0
IsTextEnd R what (no_file.Refused line) = (words : List ℕ) × R words × (line.items ≡ refusal_line what words)
IsTextEnd R what no_file.Fault = ⊥
IsTextEnd R what no_file.Memory = Unit {0}

-- the line with these words
abbrev pub IsRefusal : List ℕ → List ℕ → FileEnd → Type 0
IsRefusal what words (no_file.Refused line) = line.items ≡ refusal_line what words
IsRefusal what words no_file.Fault = ⊥
IsRefusal what words no_file.Memory = Unit {0}

abbrev pub IsSettingsRefusal : SettingsFault → FileEnd → Type 0
IsSettingsRefusal fault.Memory e = e ≡ no_file.Memory
IsSettingsRefusal f e = IsRefusal (codes "settings") (settings_words f) e

abbrev pub IsDeclarationRefusal : Option (DeclarationFault × ℕ) → FileEnd → Type 0
IsDeclarationRefusal None e = e ≡ no_file.Memory
IsDeclarationRefusal (Some p) e = IsRefusal (codes "declaration") (at_table p.0 p.1) e
