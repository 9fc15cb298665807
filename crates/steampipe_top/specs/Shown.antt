-- Answers as they are shown.
use Rattle.std.specs.Prelude.{ℕ, ◌+◌, List, [], ◌∷◌, ◌++◌, map, Option, Some, None}
use Rattle.answer_text.specs.Blocks.{block_text}
use Rattle.answer_text.specs.Notes.{block_notes}
use Rattle.answer_text.specs.declared.answer.Answer.{Answer as ShownAnswer}
use Rattle.answer_text.specs.declared.answer.DeclarationFault.{DeclarationFault}
use Rattle.answer_text.specs.declared.answer.DeclarationFault.TheVariants as wrong
use Rattle.answer_text.specs.declared.answer.ErrorLine.{ErrorLine}
use Rattle.answer_text.specs.declared.answer.ErrorLine.TheVariants as line
use Rattle.answer_text.specs.declared.answer.Form.{Form}
use Rattle.answer_text.specs.declared.answer.ShownEnd.{ShownEnd}
use Rattle.answer_text.specs.declared.answer.ShownEnd.TheVariants as shown
use Rattle.decl_words.specs.declared.fault.DeclFault.{DeclFault}
use Rattle.decl_words.specs.declared.fault.DeclFault.TheVariants as decl
use Rattle.run_lines.specs.declared.block.Block.{Block}
use Rattle.statement_run.specs.declared.answer.Answer.{Answer}
use Rattle.statement_run.specs.declared.answer.AnswerEnd.{AnswerEnd}
use Rattle.statement_run.specs.declared.answer.AnswerEnd.TheVariants as end
use Rattle.statement_run.specs.declared.answer.BlockFault.{BlockFault}
use Rattle.statement_run.specs.declared.answer.BlockFault.TheVariants as fault
use Rattle.sp_model.specs.declared.scan.Cause.{Cause}
use Rattle.sp_model.specs.declared.scan.Cause.TheVariants as cause
use Rattle.sql_bind.specs.declared.fault.BindFault.{BindFault}
use Rattle.sql_bind.specs.declared.fault.BindFault.TheVariants as bind
use Rattle.sql_parser.specs.declared.fault.SqlFault.{SqlFault}
use Rattle.sql_parser.specs.declared.fault.SqlFault.TheVariants as sql
use Rattle.steampipe_top.specs.declared.shown.ShownBlock.{ShownBlock}

abbrev pub shown_sql : SqlFault → ShownEnd
shown_sql (sql.Syntax place) = shown.Error (line.Syntax place)
shown_sql (sql.TooDeep place) = shown.Error (line.TooDeep place)
shown_sql sql.Memory = shown.Memory

abbrev pub shown_bind : BindFault → ShownEnd
shown_bind (bind.UnknownConnection place) = shown.Error (line.UnknownConnection place)
shown_bind (bind.UnknownTable place) = shown.Error (line.UnknownTable place)
shown_bind (bind.UnknownColumn place) = shown.Error (line.UnknownColumn place)
shown_bind (bind.Ambiguous place) = shown.Error (line.Ambiguous place)
shown_bind (bind.TypeMismatch place) = shown.Error (line.TypeMismatch place)
shown_bind (bind.TooManyTables place) = shown.Error (line.TooManyTables place)
shown_bind bind.Memory = shown.Memory

-- why a declaration is refused, and in which table; nothing for want of memory
abbrev pub declaration_fault : DeclFault → Option (DeclarationFault × ℕ)
declaration_fault (decl.Shape table) = Some (wrong.Shape, table)
declaration_fault (decl.DuplicateName table) = Some (wrong.DuplicateName, table)
declaration_fault (decl.UnknownFunction table) = Some (wrong.UnknownFunction, table)
declaration_fault (decl.Cycle table functions) = Some (wrong.Cycle functions, table)
declaration_fault (decl.SubsetKeyIsHydrated table) = Some (wrong.SubsetKeyIsHydrated, table)
declaration_fault (decl.NoAccess table) = Some (wrong.NoAccess, table)
declaration_fault (decl.Limit table) = Some (wrong.Limit, table)
declaration_fault decl.Memory = None

abbrev pub shown_refusal : List ℕ → Option (DeclarationFault × ℕ) → ShownEnd
shown_refusal connection None = shown.Memory
shown_refusal connection (Some p) = shown.Error (line.BadDeclaration connection p.0 p.1)

abbrev pub shown_declaration : List ℕ → DeclFault → ShownEnd
shown_declaration connection f = shown_refusal connection (declaration_fault f)

abbrev pub shown_fault : BlockFault → ShownEnd
shown_fault fault.LineForm = shown.Error line.LineForm
shown_fault fault.NotYet = shown.Error line.NotYet
shown_fault (fault.Sql f) = shown_sql f
shown_fault (fault.Bind f) = shown_bind f
shown_fault (fault.BadDeclaration connection f) = shown_declaration connection f
shown_fault (fault.DeclarationsDiffer connection) = shown.Error (line.DeclarationsDiffer connection)
shown_fault (fault.MissingKeys source columns) = shown.Error (line.MissingKeys source columns)

-- a scan that failed as a whole: by its version, or after a row
abbrev pub scan_failure : ℕ → ℕ → Cause → ErrorLine
scan_failure scan row (cause.BadVersion text) = line.VersionFailed scan text
scan_failure scan row c = line.ScanFailed scan row c

abbrev pub shown_failure : ℕ → ℕ → Option (List ℕ) → Cause → ErrorLine
shown_failure scan row None c = scan_failure scan row c
shown_failure scan row (Some column) c = line.ColumnFailed scan row column c

-- want of memory inside a refusal is want of memory
abbrev pub shown_end : AnswerEnd → ShownEnd
shown_end (end.Rows rows) = shown.Rows rows
shown_end (end.Refused f) = shown_fault f
shown_end (end.ScanFailed scan row column c) = shown.Error (shown_failure scan row column c)
shown_end (end.RestartsSpent connection losses) = shown.Error (line.RestartsSpent connection losses)
shown_end end.Memory = shown.Memory

abbrev pub shown_answer : Answer → ShownAnswer
shown_answer a = record { end = shown_end a.end; names = a.names; kinds = a.kinds; notes = a.notes; began = a.began }

abbrev pub shown_block : Block → ShownBlock
shown_block b = record { session = b.session; answer = shown_answer b.answer }

-- an empty line before a block, where there is one
abbrev pub parted : List ShownBlock → List ℕ → List ℕ
parted [] text = text
parted (b ∷ bs) text = 10 ∷ text

-- blocks, with one empty line between two of them
abbrev pub texts_of : Form → List ShownBlock → List ℕ
texts_of form [] = []
texts_of form (b ∷ bs) = block_text form b.answer ++ parted bs (texts_of form bs)

abbrev pub blocks_text : Form → List Block → List ℕ
blocks_text form blocks = texts_of form (map shown_block blocks)

-- the notes of blocks, counted on from those that were counted
abbrev pub notes_from : ℕ → List ShownBlock → List ℕ
notes_from counted [] = []
notes_from counted (b ∷ bs) = block_notes (counted + 1) b.session b.answer ++ notes_from (counted + 1) bs

abbrev pub notes_text : List Block → List ℕ
notes_text blocks = notes_from 0 (map shown_block blocks)
