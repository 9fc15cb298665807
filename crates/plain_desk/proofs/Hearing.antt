-- What a slot's child hears stays lawful.
use Rattle.std.proofs.Common.{◌≡◌, ℕ, ◌<◌, Bool, cond, List, [], ◌∷◌, ◌++◌, length, Option, Some, None, Result, IsTrue, option_map, refl, sym, ap, ◌∙◌, subst}
use Rattle.std.specs.Prelude.{slice_get, get_or, IfSome}
use Rattle.std.specs.List.{AllByRecursion, remove}
use Rattle.std.proofs.lemmas.Option.{slice_get-get_or, slice_get-map}
use Rattle.call_jobs.specs.Jobs.{asked_by, function_by, table_by, tags_for}
use Rattle.call_jobs.specs.Lawful.{IsLawfulJob}
use Rattle.call_jobs.specs.declared.job.Job.{Job}
use Rattle.rate_gate.specs.Tags.{tags_with, own_of}
use Rattle.rate_gate.specs.declared.tag_list.TagList.{TagList}
use Rattle.sp_model.specs.Book.{Book}
use Rattle.sp_model.specs.declared.call.Asked.{Asked}
use Rattle.sp_model.specs.declared.call.Asked.TheVariants as asked
use Rattle.sp_model.specs.declared.declaration.TableDecl.{TableDecl}
use Rattle.sp_model.specs.declared.settings.Connection.{Connection}
use Rattle.sp_model.specs.declared.settings.Pair.{Pair}
use Rattle.sp_outside.specs.declared.log.Event.{Event}
use Rattle.sp_outside.specs.declared.log.Event.TheVariants.{Started}
use Rattle.child_link.specs.Arrived.{GrewByGiven}
use Rattle.child_link.specs.Heard.{MayHear, HeardLawfully}
use Rattle.child_link.specs.Sent.{IsHeardIf}
use Rattle.child_link.specs.declared.prepared.Prepared.{Prepared}
use Rattle.child_link.proofs.Hearing.{start_keeps, send_keeps, receive_keeps}
use Rattle.plain_desk.specs.Hearing.{IsLawfulSlot, MayHearAt}
use Rattle.plain_desk.specs.Slots.{AreBeside, plain_names}
use Rattle.plain_desk.specs.declared.slot_parts.SlotParts.{SlotParts}
use Rattle.plain_desk.proofs.Granting.{all_removed, all_at}

-- ---- what waits

abbrev May : Bool → Book → List ℕ → Prepared → Type 0
May tells book name p = MayHear tells book name (asked_by p.job) (function_by p.job)

all_added : {A : Type 0} (P : A → Type 0) (xs : List A) (x : A) → AllByRecursion P xs → P x → AllByRecursion P (xs ++ x ∷ [])
all_added P [] x h p = (p, tt)
all_added P (y ∷ xs) x h p = (h.0, all_added P xs x h.1 p)

-- one more waits
pub waits_lawfully : {X Kid : Type 0} (tells : Bool) (book : Book) (own : Kid → List ℕ) (log : Kid → List Event) (old new : SlotParts X Kid) (p : Prepared) (job : Job) → new.link.child ≡ old.link.child
    → new.waiting.items ≡ old.waiting.items ++ p ∷ [] → p.job ≡ job → MayHear tells book (own old.link.child) (asked_by job) (function_by job) → IsLawfulSlot tells book own log old → IsLawfulSlot tells book own log new
waits_lawfully {X} {Kid} tells book own log old new p job same more is may h =
    record {
      heard = subst (λ (k : Kid). IsTrue tells → HeardLawfully tells book (own k) (log k)) (sym same) h.heard;
      waiting = subst (λ (k : Kid). AllByRecursion (May tells book (own k)) new.waiting.items) (sym same)
          (subst (λ ps. AllByRecursion (May tells book (own old.link.child)) ps) (sym more)
          (all_added (May tells book (own old.link.child)) old.waiting.items p h.waiting (subst (λ (j : Job). MayHear tells book (own old.link.child) (asked_by j) (function_by j)) (sym is) may)));
    }

-- the same waits at the same child
pub same_lawfully : {X Kid : Type 0} (tells : Bool) (book : Book) (own : Kid → List ℕ) (log : Kid → List Event) (old new : SlotParts X Kid) → new.link.child ≡ old.link.child
    → new.waiting.items ≡ old.waiting.items → IsLawfulSlot tells book own log old → IsLawfulSlot tells book own log new
same_lawfully {X} {Kid} tells book own log old new same left h =
    record {
      heard = subst (λ (k : Kid). IsTrue tells → HeardLawfully tells book (own k) (log k)) (sym same) h.heard;
      waiting = subst (λ (k : Kid). AllByRecursion (May tells book (own k)) new.waiting.items) (sym same)
          (subst (λ ps. AllByRecursion (May tells book (own old.link.child)) ps) (sym left) h.waiting);
    }

-- ---- the child moves on

moved : {X Kid : Type 0} (tells : Bool) (book : Book) (own : Kid → List ℕ) (log : Kid → List Event) (old new : SlotParts X Kid) → own new.link.child ≡ own old.link.child
    → (IsTrue tells → HeardLawfully tells book (own old.link.child) (log old.link.child) → HeardLawfully tells book (own old.link.child) (log new.link.child))
    → AllByRecursion (May tells book (own old.link.child)) new.waiting.items → IsLawfulSlot tells book own log old → IsLawfulSlot tells book own log new
moved tells book own log old new same keeps waiting h =
    record {
      heard = λ t. subst (λ name. HeardLawfully tells book name (log new.link.child)) (sym same) (keeps t (h.heard t));
      waiting = subst (λ name. AllByRecursion (May tells book name) new.waiting.items) (sym same) waiting;
    }

same_waiting : (tells : Bool) (book : Book) (name : List ℕ) (old new : List Prepared) → new ≡ old → AllByRecursion (May tells book name) old → AllByRecursion (May tells book name) new
same_waiting tells book name old new same h = subst (λ ps. AllByRecursion (May tells book name) ps) (sym same) h

-- by a start
pub started_lawfully : {X Kid : Type 0} (tells : Bool) (book : Book) (own : Kid → List ℕ) (log : Kid → List Event) (old new : SlotParts X Kid) (b : Bool) → own new.link.child ≡ own old.link.child
    → (IsTrue tells → log new.link.child ≡ cond b (log old.link.child ++ Started ∷ []) (log old.link.child)) → new.waiting.items ≡ old.waiting.items
    → IsLawfulSlot tells book own log old → IsLawfulSlot tells book own log new
started_lawfully tells book own log old new b same logs left h =
    moved tells book own log old new same (λ t. start_keeps tells book (own old.link.child) (log old.link.child) (log new.link.child) b (logs t))
    (same_waiting tells book (own old.link.child) old.waiting.items new.waiting.items left h.waiting) h

-- by a line that was received
pub received_lawfully : {X Kid : Type 0} (tells : Bool) (book : Book) (own : Kid → List ℕ) (log : Kid → List Event) (old new : SlotParts X Kid) → own new.link.child ≡ own old.link.child
    → (IsTrue tells → GrewByGiven (log old.link.child) (log new.link.child)) → new.waiting.items ≡ old.waiting.items → IsLawfulSlot tells book own log old → IsLawfulSlot tells book own log new
received_lawfully tells book own log old new same grew left h =
    moved tells book own log old new same (λ t. receive_keeps tells book (own old.link.child) (log old.link.child) (log new.link.child) (grew t))
    (same_waiting tells book (own old.link.child) old.waiting.items new.waiting.items left h.waiting) h

-- by a call that waited, where it is sent or not
pub sent_lawfully : {T E X Kid : Type 0} (tells : Bool) (book : Book) (own : Kid → List ℕ) (log : Kid → List Event) (old new : SlotParts X Kid) (at : ℕ) (call : Prepared) (r : Result T E) (id : ℕ)
    → own new.link.child ≡ own old.link.child → (IsTrue tells → IsHeardIf r id call.job (log old.link.child) (log new.link.child)) → at < length old.waiting.items → call ≡ get_or old.waiting.items at call
    → new.waiting.items ≡ remove old.waiting.items at → IsLawfulSlot tells book own log old → IsLawfulSlot tells book own log new
sent_lawfully tells book own log old new at call r id same logs within is left h =
    let name = own old.link.child in
    let may = all_at (May tells book name) old.waiting.items at call h.waiting (slice_get-get_or old.waiting.items at call within ∙ ap Some (sym is)) in
    moved tells book own log old new same (λ t heard. send_keeps tells book name (log old.link.child) (log new.link.child) r id call.job (logs t) may heard)
    (same_waiting tells book name (remove old.waiting.items at) new.waiting.items left (all_removed (May tells book name) old.waiting.items at h.waiting)) h

-- ---- jobs that are handed in

tagged_by : (connection : Connection) (table : TableDecl) (found : Option (List ℕ × List Pair)) → (tags_with connection table found).connection ≡ connection.name
tagged_by connection table None = refl
tagged_by connection table (Some found) = refl

-- tags name their connection
tagged : (connection : Connection) (what : Asked) (table : Option TableDecl) → (tags_for connection what table).connection ≡ connection.name
tagged connection (asked.Call key) (Some table) = tagged_by connection table (own_of table key.call)
tagged connection (asked.Call key) None = refl
tagged connection (asked.Version name tick) table = refl
tagged connection (asked.Declare name) table = refl

-- a lawful job may be heard by the child of the connection that its tags name
pub lawful_may : (tells : Bool) (book : Book) (connections : List Connection) (job : Job) → IsLawfulJob tells book connections job → MayHear tells book job.tags.connection (asked_by job) (function_by job)
lawful_may tells book connections job h =
    let of = h.of_connections in
    record {
      own = sym of.named ∙ sym (ap (λ (t : TagList). t.connection) of.tagged ∙ tagged of.connection (asked_by job) (table_by job));
      table = table_by job;
      lawful = h.lawful;
      declared = refl;
    }

-- so by the slot at its place
may_by : {S : Type 0} (tells : Bool) (book : Book) (own : S → List ℕ) (o : Option S) (name : List ℕ) (job : Job) → option_map own o ≡ Some name → MayHear tells book name (asked_by job) (function_by job)
    → IfSome o (λ s. MayHear tells book (own s) (asked_by job) (function_by job))
may_by tells book own None name job is may = tt
may_by tells book own (Some s) name job is may = let e : name ≡ own s = cc in subst (λ n. MayHear tells book n (asked_by job) (function_by job)) e may

pub may_at_place : {X Kid : Type 0} (tells : Bool) (book : Book) (own : Kid → List ℕ) (slots : List (SlotParts X Kid)) (connections : List Connection) (place : ℕ) (name : List ℕ) (job : Job)
    → AreBeside own slots connections → slice_get (plain_names connections) place ≡ Some name → MayHear tells book name (asked_by job) (function_by job) → MayHearAt tells book own slots place job
may_at_place tells book own slots connections place name job beside there may =
    may_by tells book (λ s. own s.link.child) (slice_get slots place) name job
    (sym (slice_get-map (λ s. own s.link.child) slots place) ∙ ap (λ ns. slice_get ns place) beside ∙ there) may
