-- What a scan lists in a run.
use Rattle.std.proofs.Common.{◌≡◌, ◌≤◌, ℕ, Bool, true, List, [], ◌∷◌, ◌++◌, Option, Some, None, IsSome, refl, sym, ap, subst, ◌∙◌, arith}
use Rattle.sp_model.specs.Book.{Book}
use Rattle.sp_model.specs.Calls.{used, reach}
use Rattle.sp_model.specs.Settling.{Answers, answers_of}
use Rattle.sp_model.specs.declared.call.Version.{Version}
use Rattle.sp_model.specs.declared.call.Version.TheVariants.{Is, Bad}
use Rattle.sp_model.specs.declared.declaration.TableDecl.{TableDecl}
use Rattle.sp_model.specs.declared.outcome.Walk.{Walk}
use Rattle.sp_model.specs.declared.scan.ScanRequest.{ScanRequest}
use Rattle.model_laws.specs.LawfulScans.{is_lawful_scan}
use Rattle.scan_laws.proofs.Stepping.{scan_begins, listed_within_reach, used_is_listed}
use Rattle.scan_laws.specs.Counts.{count, IsWithin}
use Rattle.scan_laws.specs.Reaching.{Made}
use Rattle.scan_laws.specs.Scans.{Agrees, HasListed, Keeps}
use Rattle.scan_laws.specs.States.{Scan}
use Rattle.scan_laws.specs.Steps.{begin_of}
use Rattle.scan_core.proofs.Keeping.{keeps_none, keeps_then}
use Rattle.one_scan.proofs.Lawful.{functions_apart}
use Rattle.one_scan.specs.Runs.{state_at, GoesAt, Goes, IsRun, listed_in, used_calls, reach_calls, RunListsWhatIsUsed}
use Rattle.one_scan.specs.Views.{ScanView, SameScan, scan_state}

-- a step at a version, by the table and the request that the run began with
step_at : (book : Book) (table : TableDecl) (request : ScanRequest) (v : ℕ) (version : Version) (s u : ScanView) (made : List Made) → s.table ≡ table → s.request ≡ request → version ≡ Is v → GoesAt book version s u made
    → Keeps table request (answers_of book request.connection v) (scan_state s) (scan_state u) made
step_at book table request v version s u made of_table of_request at goes =
    subst (λ (t : TableDecl). Keeps t request (answers_of book request.connection v) (scan_state s) (scan_state u) made) of_table
    (subst (λ (r : ScanRequest). Keeps s.table r (answers_of book r.connection v) (scan_state s) (scan_state u) made) of_request (subst (λ (w : Version). GoesAt book w s u made) at goes))

run_keeps : (book : Book) (table : TableDecl) (request : ScanRequest) (v : ℕ) (steps : List (ScanView × List Made)) (s t : ScanView) → s.table ≡ table → s.request ≡ request → s.version ≡ Is v
    → Agrees table request (answers_of book request.connection v) (scan_state s) → IsRun book steps s t → Keeps table request (answers_of book request.connection v) (scan_state s) (scan_state t) (listed_in steps)
run_keeps book table request v [] s t of_table of_request at agrees run = keeps_none table request (answers_of book request.connection v) (scan_state s) (scan_state t) (ap scan_state run) agrees
run_keeps book table request v (step ∷ steps) s t of_table of_request at agrees run =
    let u = step.0 in
    let first : Keeps table request (answers_of book request.connection v) (scan_state s) (scan_state u) step.1 = step_at book table request v s.version s u step.1 of_table of_request at run.1 in
    keeps_then table request (answers_of book request.connection v) (scan_state s) (scan_state u) (scan_state t) step.1 (listed_in steps) first
    (run_keeps book table request v steps u t (run.0.table ∙ of_table) (run.0.request ∙ of_request) (run.0.version ∙ at) first.agrees run.2)

-- at a bad version nothing is listed
none_at : (book : Book) (text : List ℕ) (version : Version) (s u : ScanView) (made : List Made) → version ≡ Bad text → GoesAt book version s u made → made ≡ []
none_at book text version s u made at goes = (subst (λ (w : Version). GoesAt book w s u made) at goes).1

run_none : (book : Book) (text : List ℕ) (steps : List (ScanView × List Made)) (s t : ScanView) → s.version ≡ Bad text → IsRun book steps s t → listed_in steps ≡ []
run_none book text [] s t at run = refl
run_none book text (step ∷ steps) s t at run =
    ap (λ (made : List Made). made ++ listed_in steps) (none_at book text s.version s step.0 step.1 at run.1) ∙ run_none book text steps step.0 t (run.0.version ∙ at) run.2

used_by : (table : TableDecl) (request : ScanRequest) (answers : Answers) (st : Scan) (calls : List Made) (end : Option Walk) → st.end ≡ end → IsSome end → Agrees table request answers st → HasListed table request answers st calls
    → IsWithin (used table request answers) calls
used_by table request answers st calls None e is agrees listed = absurd (cc)
used_by table request answers st calls (Some w) e is agrees listed = used_is_listed table request answers st calls w agrees e listed

run_at : (book : Book) (version : Version) (steps : List (ScanView × List Made)) (s t : ScanView) → is_lawful_scan s.table s.request ≡ true → s.version ≡ version → scan_state s ≡ state_at s.table s.request version → IsRun book steps s t
    → IsWithin (listed_in steps) (reach_calls book s.table s.request version) × (IsSome t.stands.end → IsWithin (used_calls book s.table s.request version) (listed_in steps))
run_at book (Is v) steps s t lawful at begins run =
    let answers : Answers = answers_of book s.request.connection v in
    let begun = scan_begins s.table s.request answers in
    let agrees : Agrees s.table s.request answers (scan_state s) = subst (Agrees s.table s.request answers) (sym begins) begun.0 in
    let none : HasListed s.table s.request answers (scan_state s) [] = subst (λ (st : Scan). HasListed s.table s.request answers st []) (sym begins) begun.1 in
    let keeps : Keeps s.table s.request answers (scan_state s) (scan_state t) (listed_in steps) = run_keeps book s.table s.request v steps s t refl refl at agrees run in
    let listed : HasListed s.table s.request answers (scan_state t) (listed_in steps) = keeps.listed [] none in (
      listed_within_reach s.table s.request answers (scan_state t) (listed_in steps) (functions_apart s.table s.request lawful) keeps.agrees listed,
      λ is. used_by s.table s.request answers (scan_state t) (listed_in steps) t.stands.end refl is keeps.agrees listed,
    )
run_at book (Bad text) steps s t lawful at begins run =
    let none : listed_in steps ≡ [] = run_none book text steps s t at run in (
      subst (λ (calls : List Made). IsWithin calls []) (sym none) (λ p. omega arith),
      λ is. λ p. omega arith,
    )

pub run_lists : RunListsWhatIsUsed
run_lists book steps s t lawful begins run = run_at book s.version steps s t lawful refl begins run
