-- Answers of plans that ran.
use Rattle.std.proofs.Common.{◌≡◌, ◌⊎◌, inl, inr, ℕ, Bool, true, false, List, [], Option, Result, Ok, Err, refl, ap, subst, sym, ◌∙◌}
use Rattle.std.specs.Prelude.{IsTrue, IfErr}
use Rattle.sp_value.specs.declared.cell.Cell.{Cell}
use Rattle.sp_model.specs.Book.{Book}
use Rattle.sp_model.specs.declared.scan.ScanNote.{ScanNote}
use Rattle.sp_model.specs.declared.settings.Options.{Options}
use Rattle.sp_model.specs.declared.settings.Settings.{Settings}
use Rattle.desk.specs.States.{DeskState}
use Rattle.plan_run.specs.Statements.{statement_of}
use Rattle.sql_lex.specs.Lex.{tokens}
use Rattle.sql_grammar.specs.Grammar.{StatementPhrase}
use Rattle.sql_grammar.specs.Theorem.{depth}
use Rattle.sql_grammar.specs.declared.ast.Statement.{Statement}
use Rattle.sql_bind.specs.Answer.{needed, bound}
use Rattle.sql_bind.specs.declared.bound.Bound.{Bound}
use Rattle.sql_bind.specs.declared.fault.BindFault.{BindFault}
use Rattle.statement_plan.specs.declared.plan.Plan.{Plan}
use Rattle.statement_words.specs.Advances.{IsKnownStop, AreTrue}
use Rattle.statement_words.specs.Answered.{IsAnswer as IsCourseAnswer}
use Rattle.statement_words.specs.Course.{course}
use Rattle.statement_words.specs.Runs.{IsGone}
use Rattle.statement_words.specs.declared.stop.Stop.{Stop}
use Rattle.statement_words.specs.declared.stop.Stop.TheVariants as stop
use Rattle.statement_run.specs.Answers.{plain_answer, declarations, end_of, IsRun, IsBoundAnswer, IsDeclaredAnswer, Goes, IsNeededAnswer, IsStatementAnswer, IsPastNames, IsByNeeded, IsReadSo, IfSpent}
use Rattle.statement_run.specs.Parts.{IsReadyPlan, IsEarlyEnd}
use Rattle.statement_run.specs.declared.answer.Answer.{Answer}
use Rattle.statement_run.specs.declared.answer.AnswerEnd.{AnswerEnd}
use Rattle.statement_run.specs.declared.answer.AnswerEnd.TheVariants as end

past_end : (r : Result (List (List Cell)) Stop) → IsPastNames (end_of r)
past_end (Ok rows) = tt
past_end (Err (stop.ScanFailed scan row column cause)) = tt
past_end (Err (stop.RestartsSpent connection losses)) = tt
past_end (Err stop.Memory) = tt

module _ (tells : Bool) (book : Book) (settings : Settings) (statement : Statement) (plan : Plan) (ready : IsReadyPlan tells book settings statement plan) (answer : Answer)
    (r : Result (List (List Cell)) Stop) (ends : answer.end ≡ end_of r) where
  pub ran_answer : IsTrue tells → answer.names ≡ plan.heading.names → answer.kinds ≡ plan.heading.kinds → IsCourseAnswer (course book (statement_of plan)) answer.notes r
      → IsStatementAnswer book settings answer statement
  ran_answer telling names kinds courses =
      let planned = ready.planned telling in
      let b : Bound = planned.0 in
      let run : IsRun book b answer = record { plan = plan; of_statement = planned.2; names = names; kinds = kinds; result = r; ends = ends; course = courses } in
      subst (IsNeededAnswer book settings statement answer) (sym ready.known)
      (Goes (ready.declared telling) (subst (IsBoundAnswer book answer) (sym planned.1) (inr run)))

  pub ran_by_needed : IsByNeeded answer (needed settings statement)
  ran_by_needed = subst (IsByNeeded answer) (sym ready.known) (subst IsPastNames (sym ends) (past_end r))

pub ran_spent : (s : DeskState) (answer : Answer) (r : Result (List (List Cell)) Stop) → answer.end ≡ end_of r → IfErr r (IsKnownStop s) → IfSpent answer.end (IsGone s)
ran_spent s answer r ends known = subst (λ e. IfSpent e (IsGone s)) (sym ends) (by r known)
  where
    by : (x : Result (List (List Cell)) Stop) → IfErr x (IsKnownStop s) → IfSpent (end_of x) (IsGone s)
    by (Ok rows) k = tt
    by (Err (stop.ScanFailed scan row column cause)) k = tt
    by (Err (stop.RestartsSpent connection losses)) k = k
    by (Err stop.Memory) k = tt

-- ---- ends before any scan

abbrev IsUnlessMemory : ℕ → Answer → Type 0 → Type 0
IsUnlessMemory began answer P = (answer ≡ plain_answer began end.Memory) ⊎ P

pub early_answer : (tells : Bool) (book : Book) (s : DeskState) (settings : Settings) (statement : Statement) (began : ℕ) (e : AnswerEnd) → IsEarlyEnd tells book s settings statement e
    → (IsTrue tells → IsUnlessMemory began (plain_answer began e) (IsStatementAnswer book settings (plain_answer began e) statement))
    × IsUnlessMemory began (plain_answer began e) (IsByNeeded (plain_answer began e) (needed settings statement))
    × IfSpent e (IsGone s)
early_answer tells book s settings statement began e (inl is) =
    let same : plain_answer began e ≡ plain_answer began end.Memory = ap (plain_answer began) is in
    (λ telling. inl same, inl same, subst (λ x. IfSpent x (IsGone s)) (sym is) tt)
early_answer tells book s settings statement began e (inr early) = (λ telling. inr (early.by_book telling began), inr (early.by_text began), early.spent)

pub none_true : (book : Book) (options : Options) (began : ℕ) → AreTrue book options began []
none_true book options began k n at = absurd (cc)

-- an answer to the statement that a text is answers the text
pub read_so : (text : List ℕ) (s : Statement) (P : Statement → Type 0) (began : ℕ) (answer : Answer) → StatementPhrase depth (tokens text) s → answer.began ≡ began → IsUnlessMemory began answer (P s)
    → IsReadSo text answer P
read_so text s P began answer phrase same (inl memory) = inl (subst (λ n. answer ≡ plain_answer n end.Memory) (sym same) memory)
read_so text s P began answer phrase same (inr fact) = inr (inr (record { statement = s; phrase = phrase; fact = fact }))
