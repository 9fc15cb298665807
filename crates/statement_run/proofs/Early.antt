-- Ends of a statement before any scan, and plans whose scans may be made.
use Rattle.std.proofs.Common.{◌≡◌, ◌⊎◌, inl, inr, ℕ, Bool, true, false, List, [], ◌∷◌, Option, Some, None, Result, Ok, Err, refl, ap, subst, sym, ◌∙◌}
use Rattle.std.specs.Prelude.{All, IfOk, IfErr, IsTrue}
use Rattle.sp_model.specs.Book.{Book}
use Rattle.sp_model.specs.declared.settings.Settings.{Settings}
use Rattle.desk.specs.States.{DeskState}
use Rattle.declaration_run.specs.Declaring.{IsTold, AllDeclared, AreDone, IsFirstUndeclared}
use Rattle.declaration_run.specs.declared.undeclared.Undeclared.{Undeclared}
use Rattle.declaration_run.specs.declared.undeclared.Undeclared.TheVariants as undeclared
use Rattle.source_run.specs.Ready.{IsReady}
use Rattle.sql_grammar.specs.declared.ast.Statement.{Statement}
use Rattle.sql_bind.specs.Answer.{needed, bound, plain_connections}
use Rattle.sql_bind.specs.Known.{Known, declaration_of}
use Rattle.sql_bind.specs.declared.bound.Bound.{Bound}
use Rattle.sql_bind.specs.declared.fault.BindFault.{BindFault}
use Rattle.sql_bind.specs.declared.fault.BindFault.TheVariants as bind
use Rattle.statement_plan.specs.Plans.{first_missing, IsPlanOf}
use Rattle.statement_plan.specs.declared.plan.Plan.{Plan}
use Rattle.statement_words.specs.Runs.{IsGone}
use Rattle.statement_run.specs.Answers.{plain_answer, refused, declarations, groups_of, AreDeclared, IsBoundAnswer, IsDeclaredAnswer, Refuses, Stops, Goes, IsNeededAnswer, IsStatementAnswer, IsByNeeded, IfSpent}
use Rattle.statement_run.specs.Parts.{IsUnknown, IsUnplanned, IsBoundPlan, EndsEarly, IsEarlyEnd, IsReadyPlan, undeclared_end}
use Rattle.statement_run.specs.declared.answer.AnswerEnd.{AnswerEnd}
use Rattle.statement_run.specs.declared.answer.AnswerEnd.TheVariants as end
use Rattle.statement_run.specs.declared.answer.BlockFault.{BlockFault}
use Rattle.statement_run.specs.declared.answer.BlockFault.TheVariants as fault
use Rattle.statement_run.proofs.Refusing.{past_names}
use Rattle.statement_run.proofs.Telling.{are_declared, bound_by_book, refused_first, differing_first, asked_next}

module _ (tells : Bool) (book : Book) (s : DeskState) (settings : Settings) (statement : Statement) where
  abbrev Early : AnswerEnd → Type 0
  Early e = IsEarlyEnd tells book s settings statement e

  -- ---- a connection that isn't known

  of_unknown : (f : BindFault) → needed settings statement ≡ Err f → EndsEarly tells book s settings statement (end.Refused (fault.Bind f))
  of_unknown f is = record {
    by_book = λ telling began. subst (IsNeededAnswer book settings statement (plain_answer began (end.Refused (fault.Bind f)))) (sym is) refl;
    by_text = λ began. subst (IsByNeeded (plain_answer began (end.Refused (fault.Bind f)))) (sym is) refl;
    spent = tt;
  }

  pub unknown_early : (e : AnswerEnd) → IsUnknown (needed settings statement) e → Early e
  unknown_early end.Memory h = inl refl
  unknown_early (end.Refused (fault.Bind f)) h = inr (of_unknown f h)
  unknown_early (end.Refused fault.LineForm) h = absurd h
  unknown_early (end.Refused fault.NotYet) h = absurd h
  unknown_early (end.Refused (fault.Sql f)) h = absurd h
  unknown_early (end.Refused (fault.BadDeclaration name f)) h = absurd h
  unknown_early (end.Refused (fault.DeclarationsDiffer name)) h = absurd h
  unknown_early (end.Refused (fault.MissingKeys source columns)) h = absurd h
  unknown_early (end.Rows rows) h = absurd h
  unknown_early (end.ScanFailed scan row column cause) h = absurd h
  unknown_early (end.RestartsSpent name losses) h = absurd h

  -- ---- a connection without a declaration

  module _ (known : Known) (connections : List (List ℕ)) (are : needed settings statement ≡ Ok connections) (told : IsTrue tells → IsTold book known) where
    abbrev groups : List (List (List ℕ))
    groups = groups_of settings statement

    -- an answer by the declarations is the statement's
    of_declared : (answer : _) → IsDeclaredAnswer book settings statement answer connections → IsStatementAnswer book settings answer statement
    of_declared answer h = subst (IsNeededAnswer book settings statement answer) (sym are) h

    by_names : (answer : _) → IsByNeeded answer (Ok connections) → IsByNeeded answer (needed settings statement)
    by_names answer h = subst (IsByNeeded answer) (sym are) h

    pub undeclared_early : (u : Undeclared) → IsFirstUndeclared tells book s known connections groups u → Early (undeclared_end u)
    undeclared_early undeclared.Memory h = inl refl
    undeclared_early (undeclared.Refused name f) h = inr (record {
      by_book = λ telling began. of_declared (plain_answer began (end.Refused (fault.BadDeclaration name f)))
          (Refuses (fault.BadDeclaration name f) (refused_first tells book s known connections groups (told telling) telling name f h) refl);
      by_text = λ began. by_names (plain_answer began (end.Refused (fault.BadDeclaration name f))) tt;
      spent = tt;
    })
    undeclared_early (undeclared.Differs name) h = inr (record {
      by_book = λ telling began. of_declared (plain_answer began (end.Refused (fault.DeclarationsDiffer name)))
          (Refuses (fault.DeclarationsDiffer name) (differing_first tells book s known connections groups (told telling) telling name h) refl);
      by_text = λ began. by_names (plain_answer began (end.Refused (fault.DeclarationsDiffer name))) tt;
      spent = tt;
    })
    undeclared_early (undeclared.RestartsSpent name losses) h = inr (record {
      by_book = λ telling began. of_declared (plain_answer began (end.RestartsSpent name losses))
          (Stops name losses (asked_next tells book s known connections groups (told telling) telling name losses h) refl);
      by_text = λ began. by_names (plain_answer began (end.RestartsSpent name losses)) tt;
      spent = gone h;
    })
      where
        gone : IsFirstUndeclared tells book s known connections groups (undeclared.RestartsSpent name losses) → IsGone s name losses
        gone u = u.is.1

  -- ---- a statement that has no plan

  module _ (known : Known) (of : known.settings ≡ settings) (is : needed settings statement ≡ Ok (plain_connections settings statement)) (told : IsTrue tells → IsTold book known)
      (done : AreDone known (groups_of settings statement) (plain_connections settings statement)) where
    abbrev by_known : Result Bound BindFault
    by_known = bound settings (declaration_of known) statement

    abbrev by_told : Result Bound BindFault
    by_told = bound settings (declarations book) statement

    declared : IsTrue tells → AreDeclared book (groups_of settings statement) (plain_connections settings statement)
    declared telling = are_declared book known (groups_of settings statement) (plain_connections settings statement) (told telling) done

    alike : IsTrue tells → by_known ≡ by_told
    alike telling = subst (λ (y : Settings). bound y (declaration_of known) statement ≡ bound y (declarations book) statement) of
        (bound_by_book book known statement (told telling) (subst (λ (y : Settings). AllDeclared known (plain_connections y statement)) (sym of) done.0))

    goes : (answer : _) → IsTrue tells → IsBoundAnswer book answer by_known → IsStatementAnswer book settings answer statement
    goes answer telling h =
        subst (IsNeededAnswer book settings statement answer) (sym is) (Goes (declared telling) (subst (IsBoundAnswer book answer) (alike telling) h))

    by_connections : (answer : _) → IsByNeeded answer (Ok (plain_connections settings statement)) → IsByNeeded answer (needed settings statement)
    by_connections answer h = subst (IsByNeeded answer) (sym is) h

    unbound : (f : BindFault) → by_known ≡ Err f → EndsEarly tells book s settings statement (end.Refused (fault.Bind f))
    unbound f h = record {
      by_book = λ telling began. goes (refused began (fault.Bind f)) telling (subst (IsBoundAnswer book (refused began (fault.Bind f))) (sym h) refl);
      by_text = λ began. by_connections (refused began (fault.Bind f)) (past_names settings (declaration_of known) statement (plain_connections settings statement) f is h);
      spent = tt;
    }

    pub unplanned_early : (e : AnswerEnd) → IsUnplanned by_known e → Early e
    unplanned_early end.Memory h = inl refl
    unplanned_early (end.Refused (fault.Bind f)) h = inr (unbound f h)
    unplanned_early (end.Refused (fault.MissingKeys source columns)) h = inr (record {
      by_book = λ telling began. goes (refused began (fault.MissingKeys source columns)) telling
          (subst (IsBoundAnswer book (refused began (fault.MissingKeys source columns))) (sym h.1) (inl (source, columns, h.2, refl)));
      by_text = λ began. by_connections (refused began (fault.MissingKeys source columns)) tt;
      spent = tt;
    })
    unplanned_early (end.Refused fault.LineForm) h = absurd h
    unplanned_early (end.Refused fault.NotYet) h = absurd h
    unplanned_early (end.Refused (fault.Sql f)) h = absurd h
    unplanned_early (end.Refused (fault.BadDeclaration name f)) h = absurd h
    unplanned_early (end.Refused (fault.DeclarationsDiffer name)) h = absurd h
    unplanned_early (end.Rows rows) h = absurd h
    unplanned_early (end.ScanFailed scan row column cause) h = absurd h
    unplanned_early (end.RestartsSpent name losses) h = absurd h

    pub ready_plan : (plan : Plan) → IsBoundPlan by_known plan → All (IsReady tells book settings.connections) plan.sources → IsReadyPlan tells book settings statement plan
    ready_plan plan planned ready = record {
      connections = plain_connections settings statement;
      known = is;
      declared = declared;
      planned = λ telling. subst (λ (r : Result Bound BindFault). IsBoundPlan r plan) (alike telling) planned;
      ready = ready;
    }

    pub ready_after : (r : Result Plan AnswerEnd) → IfOk r (IsBoundPlan (bound known.settings (declaration_of known) statement)) → IfOk r (λ p. All (IsReady tells book known.settings.connections) p.sources)
        → IfOk r (IsReadyPlan tells book settings statement)
    ready_after (Ok plan) planned ready =
        ready_plan plan (subst (λ (y : Settings). IsBoundPlan (bound y (declaration_of known) statement) plan) of planned)
        (subst (λ (y : Settings). All (IsReady tells book y.connections) plan.sources) of ready)
    ready_after (Err e) planned ready = tt

    pub unplanned_after : (r : Result Plan AnswerEnd) → IfErr r (IsUnplanned (bound known.settings (declaration_of known) statement)) → IfErr r Early
    unplanned_after (Ok plan) h = tt
    unplanned_after (Err e) h = unplanned_early e (subst (λ (y : Settings). IsUnplanned (bound y (declaration_of known) statement) e) of h)
