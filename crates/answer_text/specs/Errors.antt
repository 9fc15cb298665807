-- The line of an error.
use Rattle.std.specs.Prelude.{ℕ, List, [], ◌∷◌, ◌++◌, codes}
use Rattle.std.specs.Fmt.{decimal}
use Rattle.sp_model.specs.declared.scan.Cause.{Cause}
use Rattle.sp_model.specs.declared.scan.Cause.TheVariants as cause
use Rattle.answer_text.specs.Columns.{escaped}
use Rattle.answer_text.specs.Spelled.{cell_json}
use Rattle.answer_text.specs.declared.answer.DeclarationFault.{DeclarationFault}
use Rattle.answer_text.specs.declared.answer.DeclarationFault.TheVariants as fault
use Rattle.answer_text.specs.declared.answer.ErrorLine.{ErrorLine}
use Rattle.answer_text.specs.declared.answer.ErrorLine.TheVariants as error

-- names with a comma and a space between two of them
abbrev pub listed : List (List ℕ) → List ℕ
listed [] = []
listed (name ∷ []) = name
listed (name ∷ next ∷ names) = name ++ (codes ", " ++ listed (next ∷ names))

abbrev pub at_place : List ℕ → ℕ → List ℕ
at_place words place = words ++ (codes " at " ++ decimal place)

abbrev pub declaration_words : DeclarationFault → List ℕ
declaration_words fault.Shape = codes "shape"
declaration_words fault.DuplicateName = codes "duplicate name"
declaration_words fault.UnknownFunction = codes "unknown function"
declaration_words (fault.Cycle functions) = codes "cycle " ++ listed functions
declaration_words fault.SubsetKeyIsHydrated = codes "subset key is hydrated"
declaration_words fault.NoAccess = codes "no access"
declaration_words fault.Limit = codes "limit"

abbrev pub cause_words : Cause → List ℕ
cause_words (cause.Error function attempt text) = function ++ (codes " attempt " ++ (decimal attempt ++ (codes ": " ++ text)))
cause_words (cause.BadValue cell) = codes "bad value " ++ cell_json cell
cause_words (cause.TooMany function count) = function ++ (codes " gave " ++ (decimal count ++ codes " items"))
cause_words (cause.BadVersion text) = text

abbrev pub scan_words : ℕ → List ℕ → List ℕ
scan_words scan words = codes "scan " ++ (decimal scan ++ (codes " " ++ words))

abbrev pub row_words : ℕ → ℕ → List ℕ → List ℕ
row_words scan row words = scan_words scan (codes "row " ++ (decimal row ++ words))

abbrev pub connection_words : List ℕ → List ℕ → List ℕ
connection_words connection words = codes "connection " ++ (connection ++ (codes ": " ++ words))

abbrev pub error_words : ErrorLine → List ℕ
error_words error.LineForm = codes "line form"
error_words error.NotYet = codes "not yet"
error_words (error.Syntax place) = at_place (codes "syntax") place
error_words (error.TooDeep place) = at_place (codes "too deep") place
error_words (error.UnknownConnection place) = at_place (codes "unknown connection") place
error_words (error.UnknownTable place) = at_place (codes "unknown table") place
error_words (error.UnknownColumn place) = at_place (codes "unknown column") place
error_words (error.Ambiguous place) = at_place (codes "ambiguous") place
error_words (error.TypeMismatch place) = at_place (codes "type mismatch") place
error_words (error.TooManyTables place) = at_place (codes "too many tables") place
error_words (error.BadDeclaration connection f table) = connection_words connection (codes "declaration " ++ (declaration_words f ++ (codes " in table " ++ decimal table)))
error_words (error.DeclarationsDiffer connection) = connection_words connection (codes "declaration differs")
error_words (error.MissingKeys source columns) = codes "source " ++ (decimal source ++ (codes ": missing keys " ++ listed columns))
error_words (error.ColumnFailed scan row column c) = row_words scan row (codes " column " ++ (column ++ (codes ": " ++ cause_words c)))
error_words (error.ScanFailed scan row c) = row_words scan row (codes ": " ++ cause_words c)
error_words (error.VersionFailed scan text) = scan_words scan (codes "version: " ++ text)
error_words (error.RestartsSpent connection losses) = connection_words connection (codes "restarts spent (" ++ (decimal losses ++ codes " losses)"))

abbrev pub error_line : List ℕ → List ℕ
error_line words = codes "error: " ++ (escaped words ++ codes "\n")

abbrev pub error_text : ErrorLine → List ℕ
error_text e = error_line (error_words e)
