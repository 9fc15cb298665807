-- The notes of an answer.
use Rattle.std.specs.Prelude.{ℕ, ◌+◌, List, [], ◌∷◌, ◌++◌, codes, Option, Some, None}
use Rattle.serde_json.specs.Data.{Data, null, string, object}
use Rattle.sp_value.specs.Json.{members_from}
use Rattle.sp_model.specs.declared.call.Version.{Version}
use Rattle.sp_model.specs.declared.call.Version.TheVariants.{Is, Bad}
use Rattle.sp_model.specs.declared.scan.Access.{Access}
use Rattle.sp_model.specs.declared.scan.Access.TheVariants.{Get, List as OfList, Parents}
use Rattle.sp_model.specs.declared.scan.Mark.{Mark}
use Rattle.sp_model.specs.declared.scan.Mark.TheVariants.{Fresh, Cached}
use Rattle.sp_model.specs.declared.scan.ScanNote.{ScanNote}
use Rattle.sp_world.specs.RequestLines.{conditions_data}
use Rattle.answer_text.specs.JsonLines.{natural, texts_data, json_line}
use Rattle.answer_text.specs.declared.answer.Answer.{Answer}
use Rattle.answer_text.specs.declared.answer.ErrorLine.TheVariants as error
use Rattle.answer_text.specs.declared.answer.ShownEnd.{ShownEnd}
use Rattle.answer_text.specs.declared.answer.ShownEnd.TheVariants as end
use Rattle.answer_text.specs.declared.note_text.NotePlace.{NotePlace}

abbrev pub access_word : Access → List ℕ
access_word Get = codes "get"
access_word OfList = codes "list"
access_word Parents = codes "parents"

abbrev pub mark_word : Mark → List ℕ
mark_word Fresh = codes "fresh"
mark_word Cached = codes "cached"

-- null where the version was bad
abbrev pub version_data : Version → Data
version_data (Is v) = natural v
version_data (Bad text) = null

abbrev pub limit_data : Option ℕ → Data
limit_data (Some n) = natural n
limit_data None = null

abbrev pub note_members : NotePlace → ScanNote → Data → Data → Data → Data → Data
note_members place note columns conditions limit version = object (members_from (
    (codes "access", string (access_word note.request.access)) ∷ (codes "asked", natural note.asked) ∷ (codes "at", natural note.at)
    ∷ (codes "block", natural place.block) ∷ (codes "columns", columns) ∷ (codes "conditions", conditions)
    ∷ (codes "connection", string note.request.connection) ∷ (codes "limit", limit) ∷ (codes "mark", string (mark_word note.mark))
    ∷ (codes "scan", natural place.scan) ∷ (codes "session", natural place.session) ∷ (codes "table", string note.request.table) ∷ (codes "version", version) ∷ []))

abbrev pub note_data : NotePlace → ScanNote → Data
note_data place note = note_members place note (texts_data note.request.columns) (conditions_data note.request.conditions) (limit_data note.request.limit) (version_data note.version)

abbrev pub began_data : ℕ → ℕ → ℕ → Data
began_data block session began = object (members_from ((codes "began", natural began) ∷ (codes "block", natural block) ∷ (codes "session", natural session) ∷ []))

-- what is noted of a cleared cache
abbrev pub cleared_data : ℕ → ℕ → Data
cleared_data block session = object (members_from ((codes "block", natural block) ∷ (codes "cache", string (codes "clear")) ∷ (codes "session", natural session) ∷ []))

-- the line that says when a block began
unfoldable pub began_line : ℕ → ℕ → ℕ → List ℕ
began_line block session began = json_line (began_data block session began)

-- the line of a note
unfoldable pub note_line : NotePlace → ScanNote → List ℕ
note_line place note = json_line (note_data place note)

-- a line for each scan, counted on from one that was counted
abbrev pub scan_lines : ℕ → ℕ → ℕ → List ScanNote → List ℕ
scan_lines block session counted [] = []
scan_lines block session counted (note ∷ notes) = note_line (record { block = block; session = session; scan = counted + 1 }) note ++ scan_lines block session (counted + 1) notes

-- a line where the cache was cleared
abbrev pub cleared_lines : ℕ → ℕ → ShownEnd → List ℕ
cleared_lines block session end.Cleared = json_line (cleared_data block session)
cleared_lines block session _ = []

-- when an answer began, that the cache was cleared, and its scans
abbrev pub answer_notes : ℕ → ℕ → Answer → List ℕ
answer_notes block session answer = began_line block session answer.began ++ (cleared_lines block session answer.end ++ scan_lines block session 0 answer.notes)

-- a line of bad form has no notes
abbrev pub noted : ShownEnd → List ℕ → List ℕ
noted (end.Error error.LineForm) text = []
noted _ text = text

-- the notes of an answer, by the number of its block and its session
abbrev pub block_notes : ℕ → ℕ → Answer → List ℕ
block_notes block session answer = noted answer.end (answer_notes block session answer)
