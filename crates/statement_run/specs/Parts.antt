-- Parts of a statement's answer, for private clauses.
use Rattle.std.specs.Prelude.{◌≡◌, ◌⊎◌, ℕ, Bool, List, All, Result, Ok, Err, Some, IsTrue}
use Rattle.sp_model.specs.Book.{Book}
use Rattle.sp_model.specs.declared.settings.Settings.{Settings}
use Rattle.desk.specs.States.{DeskState}
use Rattle.sql_grammar.specs.declared.ast.Statement.{Statement}
use Rattle.sql_bind.specs.Answer.{needed, bound}
use Rattle.sql_bind.specs.declared.bound.Bound.{Bound}
use Rattle.sql_bind.specs.declared.fault.BindFault.{BindFault}
use Rattle.sql_bind.specs.declared.fault.BindFault.TheVariants as bind
use Rattle.source_run.specs.Ready.{IsReady}
use Rattle.statement_plan.specs.Plans.{first_missing, IsPlanOf}
use Rattle.statement_plan.specs.declared.plan.Plan.{Plan}
use Rattle.statement_words.specs.Runs.{IsGone}
use Rattle.declaration_run.specs.declared.undeclared.Undeclared.{Undeclared}
use Rattle.declaration_run.specs.declared.undeclared.Undeclared.TheVariants as undeclared
use Rattle.statement_run.specs.Answers.{plain_answer, declarations, groups_of, AreDeclared, IsNoStatement, IsStatementAnswer, IsByNeeded, IfSpent}
use Rattle.statement_run.specs.declared.answer.AnswerEnd.{AnswerEnd}
use Rattle.statement_run.specs.declared.answer.AnswerEnd.TheVariants as end
use Rattle.statement_run.specs.declared.answer.BlockFault.TheVariants as fault

-- the text is no statement, or memory is wanting
abbrev pub IsUnparsed : List ℕ → AnswerEnd → Type 0
IsUnparsed text end.Memory = Unit {0}
IsUnparsed text (end.Refused f) = IsNoStatement text f
IsUnparsed text _ = ⊥

-- a connection isn't known, or memory is wanting
abbrev pub IsUnknown : Result (List (List ℕ)) BindFault → AnswerEnd → Type 0
IsUnknown r end.Memory = Unit {0}
IsUnknown r (end.Refused (fault.Bind f)) = r ≡ Err f
IsUnknown r _ = ⊥

-- a name or a kind doesn't fit
abbrev pub IsEndOfFault : BindFault → AnswerEnd → Type 0
IsEndOfFault bind.Memory e = e ≡ end.Memory
IsEndOfFault f e = e ≡ end.Refused (fault.Bind f)

-- the end of a statement of which a connection has no declaration
abbrev pub undeclared_end : Undeclared → AnswerEnd
undeclared_end (undeclared.Refused connection f) = end.Refused (fault.BadDeclaration connection f)
undeclared_end (undeclared.Differs connection) = end.Refused (fault.DeclarationsDiffer connection)
undeclared_end (undeclared.RestartsSpent connection losses) = end.RestartsSpent connection losses
undeclared_end undeclared.Memory = end.Memory

-- the plan of a statement that is bound so
abbrev pub IsBoundPlan : Result Bound BindFault → Plan → Type 0
IsBoundPlan r plan = (b : Bound) × (r ≡ Ok b) × IsPlanOf b plan

-- a source of the statement lacks keys, or memory is wanting
abbrev pub IsMissingEnd : Bound → AnswerEnd → Type 0
IsMissingEnd b end.Memory = Unit {0}
IsMissingEnd b (end.Refused (fault.MissingKeys source columns)) = first_missing b ≡ Some (source, columns)
IsMissingEnd b _ = ⊥

-- a statement that is bound so has no plan, or memory is wanting
abbrev pub IsUnplanned : Result Bound BindFault → AnswerEnd → Type 0
IsUnplanned r end.Memory = Unit {0}
IsUnplanned r (end.Refused (fault.Bind f)) = r ≡ Err f
IsUnplanned r (end.Refused (fault.MissingKeys source columns)) = (b : Bound) × (r ≡ Ok b) × (first_missing b ≡ Some (source, columns))
IsUnplanned r _ = ⊥

-- a statement ends so before any scan, by the book where it is told; a spent budget is of a connection that the desk knows to be gone
pub record EndsEarly (tells : Bool) (book : Book) (s : DeskState) (settings : Settings) (statement : Statement) (e : AnswerEnd) : Type 0 where
  pub by_book : IsTrue tells → (began : ℕ) → IsStatementAnswer book settings (plain_answer began e) statement
  pub by_text : (began : ℕ) → IsByNeeded (plain_answer began e) (needed settings statement)
  pub spent : IfSpent e (IsGone s)

-- so, or for want of memory
abbrev pub IsEarlyEnd : Bool → Book → DeskState → Settings → Statement → AnswerEnd → Type 0
IsEarlyEnd tells book s settings statement e = (e ≡ end.Memory) ⊎ EndsEarly tells book s settings statement e

-- the plan of a statement all of whose connections are declared, where the book is told by what it declares; its sources may be scanned
pub record IsReadyPlan (tells : Bool) (book : Book) (settings : Settings) (statement : Statement) (plan : Plan) : Type 0 where
  pub connections : List (List ℕ)
  pub known : needed settings statement ≡ Ok connections
  pub declared : IsTrue tells → AreDeclared book (groups_of settings statement) connections
  pub planned : IsTrue tells → IsBoundPlan (bound settings (declarations book) statement) plan
  pub ready : All (IsReady tells book settings.connections) plan.sources
