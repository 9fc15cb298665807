-- Jobs of calls that a scan wants.
use Rattle.std.proofs.Common.{◌≡◌, ℕ, zero, suc, Bool, false, List, [], ◌∷◌, ◌++◌, slice_get, Option, Some, refl, sym, ap, subst, ◌∙◌, arith}
use Rattle.std.specs.Prelude.{All, Contains}
use Rattle.std.proofs.lemmas.List.Elements.{All-nil, All-pop, All-push}
use Rattle.sp_model.specs.Book.{Book}
use Rattle.sp_model.specs.declared.call.Asked.{Asked}
use Rattle.sp_model.specs.declared.call.Asked.TheVariants as asks
use Rattle.sp_model.specs.declared.declaration.TableDecl.{TableDecl}
use Rattle.sp_model.specs.declared.scan.ScanRequest.{ScanRequest}
use Rattle.sp_model.specs.declared.scan.Seat.{Seat}
use Rattle.sp_model.specs.declared.settings.Connection.{Connection}
use Rattle.decl_words.specs.BookTables.{book_table}
use Rattle.sp_world.specs.RequestLines.{IsAskedForm}
use Rattle.call_jobs.specs.Jobs.{asked_by, line_function, connection_of, tags_for, IsJob}
use Rattle.call_jobs.specs.Lawful.{IsLawful, IsOfConnections, IsLawfulJob}
use Rattle.call_jobs.specs.declared.job.Job.{Job}
use Rattle.row_flight.specs.declared.frame.Wanted.{Wanted}
use Rattle.one_scan.specs.Jobs.{IsScanJob, Adds}
use Rattle.one_scan.specs.Views.{ScanView, SameScan}
use Rattle.scan_run.specs.Asked.{IsTableOf}
use Rattle.scan_run.specs.Calls.{IsCallOf}

-- ---- what a scan wants

wanted_call : (s : ScanView) (scan : ℕ) (w : Wanted) → IsScanJob s scan w → IsCallOf s.table s.request.connection w
wanted_call s scan w h = record { lawful = h.lawful; connection = h.connection; form = h.form }

all_at : {X : Type 0} (P : X → Type 0) (xs : List X) → ((k : ℕ) (x : X) → slice_get xs k ≡ Some x → P x) → All P xs
all_at P [] each k d lt = absurd (omega (arith, lt))
all_at P (x ∷ xs) each zero d lt = each 0 x refl
all_at P (x ∷ xs) each (suc k) d lt = all_at P xs (λ j y e. each (suc j) y e) k d (omega (arith, lt))

calls_of : (s : ScanView) (scan : ℕ) (before after : List Wanted) → before ≡ [] → Adds s scan before after → All (IsCallOf s.table s.request.connection) after
calls_of s scan before after none h =
    subst (λ (ws : List Wanted). All (IsCallOf s.table s.request.connection) ws) (sym (h.grows ∙ ap (λ (ws : List Wanted). ws ++ h.more) none))
    (all_at (IsCallOf s.table s.request.connection) h.more (λ k w e. wanted_call s scan w (h.jobs k w e)))

pub calls_wanted : (old new : ScanView) (scan : ℕ) (before after : List Wanted) → before ≡ [] → Adds new scan before after → SameScan old new → All (IsCallOf old.table old.request.connection) after
calls_wanted old new scan before after none h same =
    subst (λ (t : TableDecl). All (IsCallOf t old.request.connection) after) same.table
    (subst (λ (r : ScanRequest). All (IsCallOf new.table r.connection) after) same.request (calls_of new scan before after none h))

-- ---- jobs

of_connections : (connections : List Connection) (c : Connection) (what : Asked) (table : Option TableDecl) (seat : Seat) (due : ℕ) (job : Job)
    → Contains connections c → c.aggregator ≡ false → c.name ≡ connection_of what → IsJob c what table seat due job → IsOfConnections connections job
of_connections connections c what table seat due job among plain named h = record {
  connection = c;
  among = among;
  plain = plain;
  named = named ∙ ap connection_of (sym h.asks);
  tagged =
      h.tagged ∙ ap (λ (a : Asked). tags_for c a table) (sym h.asks) ∙ ap (λ (t : Option TableDecl). tags_for c (asked_by job) t) (sym h.of_table);
}

lawful_job : (tells : Bool) (book : Book) (connections : List Connection) (c : Connection) (what : Asked) (table : Option TableDecl) (seat : Seat) (due : ℕ) (job : Job)
    → Contains connections c → c.aggregator ≡ false → c.name ≡ connection_of what → IsLawful tells book what table → IsAskedForm (line_function what table) what
    → IsJob c what table seat due job → IsLawfulJob tells book connections job
lawful_job tells book connections c what table seat due job among plain named lawful form h = record {
  lawful = subst (λ (t : Option TableDecl). IsLawful tells book (asked_by job) t) (sym h.of_table) (subst (λ (a : Asked). IsLawful tells book a table) (sym h.asks) lawful);
  of_connections = of_connections connections c what table seat due job among plain named h;
  form = subst (λ (t : Option TableDecl). IsAskedForm (line_function (asked_by job) t) (asked_by job)) (sym h.of_table) (subst (λ (a : Asked). IsAskedForm (line_function a table) a) (sym h.asks) form);
}

pub call_is_lawful : (tells : Bool) (book : Book) (connections : List Connection) (c : Connection) (table : TableDecl) (w : Wanted) (job : Job)
    → IsTableOf tells book connections c table → IsCallOf table c.name w → IsJob c (asks.Call w.call) (Some table) w.seat w.due job → IsLawfulJob tells book connections job
call_is_lawful tells book connections c table w job place call h =
    lawful_job tells book connections c (asks.Call w.call) (Some table) w.seat w.due job place.among place.plain (sym call.connection)
    (record { lawful = call.lawful; of_book = λ t. ap (λ (name : List ℕ). book_table book name table.name) call.connection ∙ place.of_book t }) call.form h

-- ---- lists

pub jobs_left : (tells : Bool) (book : Book) (connections : List Connection) (before after : List Job) (job : Job) → before ≡ after ++ job ∷ [] → All (IsLawfulJob tells book connections) before → All (IsLawfulJob tells book connections) after
jobs_left tells book connections before after job e all = (All-pop (IsLawfulJob tells book connections) before after (Some job) e all).0

pub job_popped : (tells : Bool) (book : Book) (connections : List Connection) (before after : List Job) (job : Job) → before ≡ after ++ job ∷ [] → All (IsLawfulJob tells book connections) before → IsLawfulJob tells book connections job
job_popped tells book connections before after job e all = (All-pop (IsLawfulJob tells book connections) before after (Some job) e all).1

pub no_jobs : (tells : Bool) (book : Book) (connections : List Connection) (jobs : List Job) → jobs ≡ [] → All (IsLawfulJob tells book connections) jobs
no_jobs tells book connections jobs e = subst (λ (xs : List Job). All (IsLawfulJob tells book connections) xs) (sym e) (All-nil (IsLawfulJob tells book connections))

pub jobs_more : (tells : Bool) (book : Book) (connections : List Connection) (before after : List Job) (job : Job) → after ≡ before ++ job ∷ [] → All (IsLawfulJob tells book connections) before → IsLawfulJob tells book connections job
    → All (IsLawfulJob tells book connections) after
jobs_more tells book connections before after job e all h =
    subst (λ (xs : List Job). All (IsLawfulJob tells book connections) xs) (sym e) (All-push (IsLawfulJob tells book connections) before job all h)

pub calls_left : (table : TableDecl) (connection : List ℕ) (before after : List Wanted) (w : Wanted) → before ≡ after ++ w ∷ [] → All (IsCallOf table connection) before → All (IsCallOf table connection) after
calls_left table connection before after w e all = (All-pop (IsCallOf table connection) before after (Some w) e all).0

pub call_popped : (table : TableDecl) (connection : List ℕ) (before after : List Wanted) (w : Wanted) → before ≡ after ++ w ∷ [] → All (IsCallOf table connection) before → IsCallOf table connection w
call_popped table connection before after w e all = (All-pop (IsCallOf table connection) before after (Some w) e all).1

pub calls_as : (table other : TableDecl) (connection name : List ℕ) (calls : List Wanted) → table ≡ other → connection ≡ name → All (IsCallOf table connection) calls → All (IsCallOf other name) calls
calls_as table other connection name calls e f all =
    subst (λ (n : List ℕ). All (IsCallOf other n) calls) f (subst (λ (t : TableDecl). All (IsCallOf t connection) calls) e all)
