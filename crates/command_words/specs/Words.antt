-- The words of the command.
use Rattle.std.specs.Prelude.{ℕ, Bool, true, ◌&&◌, List, [], ◌∷◌, Option, Some, None, if◌then◌else◌, codes, not, nat_eq, nat_le, bytes_eq, option_map}
use Rattle.clap.specs.Faults.{fault_of}
use Rattle.clap.specs.Simple.{App, new_app, new_rule, with_rule, matches_of}
use Rattle.clap.specs.Walk.{Row, Rule, first_of, is_empty}
use Rattle.spelled_counts.specs.Counts.{count_of}
use Rattle.answer_text.specs.declared.answer.Form.{Form}
use Rattle.answer_text.specs.declared.answer.Form.TheVariants as form
use Rattle.command_words.specs.declared.words.Command.{Command}
use Rattle.command_words.specs.declared.words.Command.TheVariants.{Query, Explain, Load}
use Rattle.command_words.specs.declared.words.Words.{Words}

-- ---- the simple command by which words are matched

-- the option `--output` of one value, by default `table`
abbrev pub output : Rule
output = record (new_rule (codes "output")) { long = Some (codes "output"); defaults = codes "table" ∷ [] }

-- a positional that has to be there
abbrev pub needed : List ℕ → Rule
needed name = record (new_rule name) { required = true }

-- `--output`, COMMAND, NAME, and perhaps SECOND
unfoldable pub simple_command : App
simple_command = with_rule (with_rule (with_rule (with_rule (new_app (codes "steampipe")) output) (needed (codes "COMMAND"))) (needed (codes "NAME"))) (new_rule (codes "SECOND"))

-- ---- what the matched words say

abbrev pub form_of : List ℕ → Option Form
form_of word =
    if bytes_eq word (codes "line") then Some form.Line
    else (if bytes_eq word (codes "csv") then Some form.Csv
    else (if bytes_eq word (codes "json") then Some form.Json
    else (if bytes_eq word (codes "table") then Some form.Table else None)))

-- how many rows `load` may have
abbrev pub most_rows : ℕ
most_rows = 100000

-- `query SETTINGS`, `load NUMBER`
abbrev pub command_of_two : List ℕ → List ℕ → Option Command
command_of_two word name =
    if bytes_eq word (codes "query") then Some (Query name)
    else (if bytes_eq word (codes "load") then option_map Load (count_of most_rows name) else None)

-- `explain SETTINGS DECLARATION`
abbrev pub command_of_three : List ℕ → List ℕ → List ℕ → Option Command
command_of_three word name second = if bytes_eq word (codes "explain") then Some (Explain name second) else None

abbrev pub command_of : List ℕ → List ℕ → Option (List ℕ) → Option Command
command_of word name None = command_of_two word name
command_of word name (Some second) = command_of_three word name second

abbrev pub words_with : Option Command → Option Form → Option Words
words_with (Some command) (Some form) = Some (record { command = command; form = form })
words_with _ _ = None

-- of `--output`, COMMAND, NAME and SECOND
abbrev pub words_by : Option (List ℕ) → Option (List ℕ) → Option (List ℕ) → Option (List ℕ) → Option Words
words_by (Some form) (Some word) (Some name) second = words_with (command_of word name second) (form_of form)
words_by _ _ _ second = None

abbrev pub words_of_rows : List Row → Option Words
words_of_rows rows = words_by (first_of (codes "output") rows) (first_of (codes "COMMAND") rows) (first_of (codes "NAME") rows) (first_of (codes "SECOND") rows)

-- what the words say, the first of which is the program's name: nothing where the simple command refuses them
abbrev pub words_of : List (List ℕ) → Option Words
words_of words = if is_empty (fault_of simple_command words) then words_of_rows (matches_of simple_command words) else None
