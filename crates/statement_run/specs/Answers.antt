-- The answer to a statement's text, over any desk.
use Rattle.std.specs.Prelude.{◌≡◌, ◌⊎◌, ℕ, Bool, true, false, List, [], ◌∷◌, ◌++◌, map, Option, Some, None, IsSome, Result, Ok, Err}
use Rattle.sp_value.specs.declared.cell.Cell.{Cell}
use Rattle.sp_model.specs.Book.{Book}
use Rattle.sp_model.specs.Names.{has_name}
use Rattle.sp_model.specs.declared.declaration.Declaration.{Declaration}
use Rattle.sp_model.specs.declared.settings.Settings.{Settings}
use Rattle.sql_lex.specs.Lex.{tokens}
use Rattle.sql_grammar.specs.Grammar.{StatementPhrase}
use Rattle.sql_grammar.specs.Theorem.{depth}
use Rattle.sql_grammar.specs.declared.ast.Statement.{Statement}
use Rattle.sql_parser.specs.Answer.{IsFaultAt}
use Rattle.sql_parser.specs.declared.fault.SqlFault.{SqlFault}
use Rattle.sql_parser.specs.declared.fault.SqlFault.TheVariants as sql
use Rattle.sql_bind.specs.Answer.{connections_named, needed, bound}
use Rattle.sql_bind.specs.Members.{members_named}
use Rattle.sql_bind.specs.declared.bound.Bound.{Bound}
use Rattle.sql_bind.specs.declared.fault.BindFault.{BindFault}
use Rattle.sql_bind.specs.declared.fault.BindFault.TheVariants as bind
use Rattle.decl_words.specs.BookTables.{book_declaration}
use Rattle.decl_words.specs.declared.fault.DeclFault.{DeclFault}
use Rattle.declaration_run.specs.Declaring.{Differs, AllAgree}
use Rattle.statement_plan.specs.Plans.{first_missing, IsPlanOf}
use Rattle.statement_plan.specs.declared.plan.Plan.{Plan}
use Rattle.statement_words.specs.Answered.{IsAnswer as IsCourseAnswer}
use Rattle.statement_words.specs.Course.{course}
use Rattle.statement_words.specs.Turns.{ticks_of}
use Rattle.statement_words.specs.declared.stop.Stop.{Stop}
use Rattle.statement_words.specs.declared.stop.Stop.TheVariants as stop
use Rattle.plan_run.specs.Statements.{statement_of}
use Rattle.statement_run.specs.declared.answer.Answer.{Answer}
use Rattle.statement_run.specs.declared.answer.AnswerEnd.{AnswerEnd}
use Rattle.statement_run.specs.declared.answer.AnswerEnd.TheVariants as end
use Rattle.statement_run.specs.declared.answer.BlockFault.{BlockFault}
use Rattle.statement_run.specs.declared.answer.BlockFault.TheVariants as fault

-- an answer without rows and notes
abbrev pub plain_answer : ℕ → AnswerEnd → Answer
plain_answer began e = record { end = e; names = []; kinds = []; notes = []; began = began }

abbrev pub refused : ℕ → BlockFault → Answer
refused began f = plain_answer began (end.Refused f)

-- the ticks of an answer: where the statement began, and where its scans were noted
abbrev pub answer_ticks : Answer → List ℕ
answer_ticks answer = answer.began ∷ ticks_of answer.notes

-- ---- declarations

abbrev pub sound_declaration : Result Declaration DeclFault → Option Declaration
sound_declaration (Ok d) = Some d
sound_declaration (Err f) = None

-- what the book's connections declare, where that isn't refused
abbrev pub declarations : Book → List ℕ → Option Declaration
declarations book connection = sound_declaration (book_declaration book connection)

-- the connections that one name of the statement stands for have to declare the same
abbrev pub groups_of : Settings → Statement → List (List (List ℕ))
groups_of settings s = map (members_named settings) (connections_named s)

-- each of these connections has a declaration, and agrees with those before it
pub record AreDeclared (book : Book) (groups : List (List (List ℕ))) (connections : List (List ℕ)) : Type 0 where
  pub each : (connection : List ℕ) → has_name connections connection ≡ true → IsSome (declarations book connection)
  pub agree : AllAgree (declarations book) groups [] connections

-- a connection that comes after these is refused: its declaration is, or it declares something else than another one of its group
abbrev pub IsRefusal : Book → List (List (List ℕ)) → List (List ℕ) → List ℕ → BlockFault → Type 0
IsRefusal book groups before connection (fault.BadDeclaration name f) = (name ≡ connection) × (book_declaration book connection ≡ Err f)
IsRefusal book groups before connection (fault.DeclarationsDiffer name) = (name ≡ connection) × Differs (declarations book) (before ++ connection ∷ []) groups connection
IsRefusal book groups before connection _ = ⊥

-- of these connections the first that isn't declared so is this one
pub record IsNext (book : Book) (groups : List (List (List ℕ))) (connections before : List (List ℕ)) (connection : List ℕ) : Type 0 where
  pub after : List (List ℕ)
  pub among : connections ≡ before ++ connection ∷ after
  pub declared : AreDeclared book groups before

abbrev pub IsFirstRefusal : Book → List (List (List ℕ)) → List (List ℕ) → BlockFault → Type 0
IsFirstRefusal book groups connections f = (before : List (List ℕ)) × (connection : List ℕ) × IsNext book groups connections before connection × IsRefusal book groups before connection f

abbrev pub IsAskedNext : Book → List (List (List ℕ)) → List (List ℕ) → List ℕ → Type 0
IsAskedNext book groups connections connection = (before : List (List ℕ)) × IsNext book groups connections before connection

-- ---- the plan

-- rows, or why the statement stopped, as an end
abbrev pub end_of : Result (List (List Cell)) Stop → AnswerEnd
end_of (Ok rows) = end.Rows rows
end_of (Err (stop.ScanFailed scan row column cause)) = end.ScanFailed scan row column cause
end_of (Err (stop.RestartsSpent connection losses)) = end.RestartsSpent connection losses
end_of (Err stop.Memory) = end.Memory

-- the answer by the plan of a bound statement: at the versions of its notes it is the statement's course
pub record IsRun (book : Book) (b : Bound) (answer : Answer) : Type 0 where
  pub plan : Plan
  pub of_statement : IsPlanOf b plan
  pub names : answer.names ≡ plan.heading.names
  pub kinds : answer.kinds ≡ plan.heading.kinds
  pub result : Result (List (List Cell)) Stop
  pub ends : answer.end ≡ end_of result
  pub course : IsCourseAnswer (course book (statement_of plan)) answer.notes result

-- ---- the statement

-- the answer of a statement that is bound to columns: the keys that its first refused source lacks, or the answer by its plan
abbrev pub IsBoundAnswer : Book → Answer → Result Bound BindFault → Type 0
IsBoundAnswer book answer (Err f) = answer ≡ refused answer.began (fault.Bind f)
IsBoundAnswer book answer (Ok b) =
    ((source : ℕ) × (columns : List (List ℕ)) × (first_missing b ≡ Some (source, columns)) × (answer ≡ refused answer.began (fault.MissingKeys source columns))) ⊎ IsRun book b answer

-- of one that needs these connections: the first that is refused, or whose restarts are spent before it is declared; or, by their declarations,
-- that of the bound statement
pub data IsDeclaredAnswer (book : Book) (settings : Settings) (s : Statement) (answer : Answer) (connections : List (List ℕ)) : Type 0 where
  Refuses : (f : BlockFault) → IsFirstRefusal book (groups_of settings s) connections f → answer ≡ refused answer.began f → IsDeclaredAnswer book settings s answer connections
  Stops : (connection : List ℕ) (losses : ℕ) → IsAskedNext book (groups_of settings s) connections connection → answer ≡ plain_answer answer.began (end.RestartsSpent connection losses)
      → IsDeclaredAnswer book settings s answer connections
  Goes : AreDeclared book (groups_of settings s) connections → IsBoundAnswer book answer (bound settings (declarations book) s) → IsDeclaredAnswer book settings s answer connections

abbrev pub IsNeededAnswer : Book → Settings → Statement → Answer → Result (List (List ℕ)) BindFault → Type 0
IsNeededAnswer book settings s answer (Err f) = answer ≡ refused answer.began (fault.Bind f)
IsNeededAnswer book settings s answer (Ok connections) = IsDeclaredAnswer book settings s answer connections

-- the answer to a statement by the book
abbrev pub IsStatementAnswer : Book → Settings → Answer → Statement → Type 0
IsStatementAnswer book settings answer s = IsNeededAnswer book settings s answer (needed settings s)

-- ---- the text

abbrev pub sql_fault : Bool → ℕ → SqlFault
sql_fault true place = sql.TooDeep place
sql_fault false place = sql.Syntax place

-- a text that is no statement is refused at its first fault
pub record IsNoStatement (text : List ℕ) (f : BlockFault) : Type 0 where
  pub deep : Bool
  pub place : ℕ
  pub first : IsFaultAt text deep place
  pub same : f ≡ fault.Sql (sql_fault deep place)

-- a text that is a statement, of which this holds
pub record IsStatement (text : List ℕ) (P : Statement → Type 0) : Type 0 where
  pub statement : Statement
  pub phrase : StatementPhrase depth (tokens text) statement
  pub fact : P statement

-- want of memory before any scan; the refusal of a text that is no statement; or an answer to the statement that the text is, of which this holds
abbrev pub IsReadSo : List ℕ → Answer → (Statement → Type 0) → Type 0
IsReadSo text answer P =
    (answer ≡ plain_answer answer.began end.Memory)
    ⊎ ((f : BlockFault) × IsNoStatement text f × (answer ≡ refused answer.began f))
    ⊎ IsStatement text P

-- the answer to a text by the book
abbrev pub IsAnswer : Book → Settings → List ℕ → Answer → Type 0
IsAnswer book settings text answer = IsReadSo text answer (IsStatementAnswer book settings answer)

-- ---- what holds where the book isn't told, too

-- the end of a statement whose connections are known
abbrev pub IsPastNames : AnswerEnd → Type 0
IsPastNames (end.Refused (fault.Sql f)) = ⊥
IsPastNames (end.Refused (fault.Bind (bind.UnknownConnection place))) = ⊥
IsPastNames (end.Refused fault.LineForm) = ⊥
IsPastNames (end.Refused fault.NotYet) = ⊥
IsPastNames _ = Unit {0}

abbrev pub IsByNeeded : Answer → Result (List (List ℕ)) BindFault → Type 0
IsByNeeded answer (Err f) = answer ≡ refused answer.began (fault.Bind f)
IsByNeeded answer (Ok connections) = IsPastNames answer.end

-- the refusals that the text and the settings decide come exactly there
abbrev pub IsByText : Settings → List ℕ → Answer → Type 0
IsByText settings text answer = IsReadSo text answer (λ s. IsByNeeded answer (needed settings s))

-- the end is a spent restart budget, of a connection and a number of losses with this property
abbrev pub IfSpent : AnswerEnd → (List ℕ → ℕ → Type 0) → Type 0
IfSpent (end.RestartsSpent connection losses) P = P connection losses
IfSpent _ P = Unit {0}
