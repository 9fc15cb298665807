-- The sources of a plan may be scanned.
use Rattle.std.proofs.Common.{◌≡◌, ℕ, Bool, ◌+◌, List, [], ◌∷◌, Some, refl, sym, ap, subst, ◌∙◌}
use Rattle.std.specs.Prelude.{All}
use Rattle.std.specs.List.{list_all}
use Rattle.std.proofs.lemmas.List.Elements.{All-nil, All-cons, All-head, All-rest}
use Rattle.sp_model.specs.Book.{Book}
use Rattle.sp_model.specs.Keys.{choose}
use Rattle.sp_model.specs.Names.{has_name}
use Rattle.sp_model.specs.declared.declaration.TableDecl.{TableDecl}
use Rattle.sp_model.specs.declared.settings.Connection.{Connection}
use Rattle.decl_words.specs.BookTables.{book_table}
use Rattle.decl_words.specs.Sound.{IsSound}
use Rattle.plan_run.specs.Laws.{IsDeclared, PlannedSourcesAreReady}
use Rattle.source_run.specs.Laws.{gets_by_equals}
use Rattle.source_run.specs.Ready.{IsReady}
use Rattle.source_run.proofs.Choosing.{ready_of}
use Rattle.source_scans.specs.Planned.{IsPlanned}
use Rattle.source_scans.specs.declared.source.PlanSource.{PlanSource}
use Rattle.sql_bind.specs.declared.bound.Bound.{Bound}
use Rattle.sql_bind.specs.declared.bound.BoundSource.{BoundSource}
use Rattle.statement_plan.specs.Plans.{AreSourcesOf}
use Rattle.statement_plan.specs.Sources.{IsSourceOf, asked_for, listed_for}
use Rattle.statement_words.specs.Runs.{plain_names}

source_ready : (tells : Bool) (book : Book) (connections : List Connection) (b : Bound) (k : ℕ) (s : BoundSource) (p : PlanSource) → IsSourceOf b k s p → IsPlanned p → IsDeclared tells book connections s → IsReady tells book connections p
source_ready tells book connections b k s p of planned declared =
    ready_of tells book connections p
    (record {
      planned = planned;
      given = asked_for b k;
      lists = listed_for b k;
      access = ap (λ (t : TableDecl). choose t (asked_for b k) (listed_for b k)) of.table ∙ of.access;
      sound = subst (λ (t : TableDecl). IsSound t) (sym of.table) declared.sound;
      gets = ap gets_by_equals of.table ∙ declared.gets;
      plain = ap (list_all (has_name (plain_names connections))) of.connections ∙ declared.plain;
      of_book = λ told connection among.
          subst (λ (t : TableDecl). book_table book connection t.name ≡ Some t) (sym of.table)
          (declared.of_book told connection (sym (ap (λ (names : List (List ℕ)). has_name names connection) of.connections) ∙ among));
    })

sources_ready : (tells : Bool) (book : Book) (connections : List Connection) (b : Bound) (k : ℕ) (ss : List BoundSource) (ps : List PlanSource)
    → AreSourcesOf b k ss ps → All IsPlanned ps → All (IsDeclared tells book connections) ss → All (IsReady tells book connections) ps
sources_ready tells book connections b k [] [] h planned declared = All-nil (IsReady tells book connections)
sources_ready tells book connections b k [] (p ∷ ps) h planned declared = absurd h
sources_ready tells book connections b k (s ∷ ss) [] h planned declared = absurd h
sources_ready tells book connections b k (s ∷ ss) (p ∷ ps) h planned declared =
    All-cons (IsReady tells book connections) p ps
    (source_ready tells book connections b k s p h.0 (All-head IsPlanned p ps planned) (All-head (IsDeclared tells book connections) s ss declared))
    (sources_ready tells book connections b (k + 1) ss ps h.1 (All-rest IsPlanned p ps (p ∷ ps) refl planned) (All-rest (IsDeclared tells book connections) s ss (s ∷ ss) refl declared))

pub all_ready : PlannedSourcesAreReady
all_ready tells book connections b plan h planned declared = sources_ready tells book connections b 0 b.sources plan.sources h.sources planned declared
