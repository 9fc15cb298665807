-- Words that are taken, and words that are not.
use Rattle.std.specs.Prelude.{◌≡◌, ℕ, List, [], ◌∷◌, Option, Some, None, codes}
use Rattle.answer_text.specs.declared.answer.Form.{Form}
use Rattle.answer_text.specs.declared.answer.Form.TheVariants as form
use Rattle.command_words.specs.declared.words.Command.TheVariants.{Query, Explain, Load}
use Rattle.command_words.specs.declared.words.Words.{Words}
use Rattle.command_words.specs.Words.{words_of}

abbrev pub name : List ℕ
name = codes "steampipe"

abbrev pub file : List ℕ
file = codes "s.toml"

abbrev pub query_in : Form → Option Words
query_in f = Some (record { command = Query file; form = f })

-- the form is `table` where nothing is said
abbrev pub Plain : Type 0
Plain = words_of (name ∷ codes "query" ∷ file ∷ []) ≡ query_in form.Table

-- the form stands before or after the command, behind a space or `=`
abbrev pub InForms : Type 0
InForms = (words_of (name ∷ codes "query" ∷ file ∷ codes "--output" ∷ codes "csv" ∷ []) ≡ query_in form.Csv)
    × (words_of (name ∷ codes "--output=json" ∷ codes "query" ∷ file ∷ []) ≡ query_in form.Json)
    × (words_of (name ∷ codes "--output" ∷ codes "line" ∷ codes "query" ∷ file ∷ []) ≡ query_in form.Line)
    × (words_of (name ∷ codes "query" ∷ codes "--" ∷ file ∷ []) ≡ query_in form.Table)

abbrev pub OtherCommands : Type 0
OtherCommands = (words_of (name ∷ codes "explain" ∷ file ∷ codes "d.json" ∷ []) ≡ Some (record { command = Explain file (codes "d.json"); form = form.Table }))
    × (words_of (name ∷ codes "load" ∷ codes "100000" ∷ []) ≡ Some (record { command = Load 100000; form = form.Table }))

-- words too few or too many, another command or form, a form twice, a request for help
abbrev pub Refused : Type 0
Refused = (words_of (name ∷ codes "query" ∷ []) ≡ None)
    × (words_of (name ∷ codes "query" ∷ file ∷ codes "d.json" ∷ []) ≡ None)
    × (words_of (name ∷ codes "explain" ∷ file ∷ []) ≡ None)
    × (words_of (name ∷ codes "explain" ∷ file ∷ codes "d.json" ∷ codes "e" ∷ []) ≡ None)
    × (words_of (name ∷ codes "ask" ∷ file ∷ []) ≡ None)
    × (words_of (name ∷ codes "query" ∷ file ∷ codes "--output" ∷ codes "xml" ∷ []) ≡ None)
    × (words_of (name ∷ codes "query" ∷ file ∷ codes "--output=csv" ∷ codes "--output=csv" ∷ []) ≡ None)
    × (words_of (name ∷ codes "query" ∷ file ∷ codes "--help" ∷ []) ≡ None)

abbrev pub RefusedNumbers : Type 0
RefusedNumbers = (words_of (name ∷ codes "load" ∷ codes "0" ∷ []) ≡ None)
    × (words_of (name ∷ codes "load" ∷ codes "010" ∷ []) ≡ None)
    × (words_of (name ∷ codes "load" ∷ codes "100001" ∷ []) ≡ None)
    × (words_of (name ∷ codes "load" ∷ codes "+7" ∷ []) ≡ None)
