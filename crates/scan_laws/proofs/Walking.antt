-- How what rests of a walk changes by each step.
use Rattle.std.proofs.Common.{◌≡◌, ◌-◌, ◌<◌, ℕ, zero, suc, false, ◌&&◌, nat_lt, if◌then◌else◌, List, [], ◌∷◌, ◌++◌, length, drop, Option, Some, None, refl, sym, ap, ◌∙◌, arith}
use Rattle.sp_value.specs.declared.cell.Cell.{Cell}
use Rattle.sp_model.proofs.Lawful as lawful
use Rattle.sp_model.proofs.Walking.{and_then_assoc, and_then_same}
use Rattle.sp_model.specs.Settling.{Seen, Answers, attempts_of, Verdict, Accept, Again, Refuse, Open, judged}
use Rattle.sp_model.specs.Calls.{child_call}
use Rattle.sp_model.specs.Walk.{start, and_then, visit_all, visit_item, visit_parent, Source, list_source, parent_source, parent_of, ended, unsteady, walk_in, walk_from}
use Rattle.sp_model.specs.declared.call.Call.TheVariants as call
use Rattle.sp_model.specs.declared.call.Ending.{Ending}
use Rattle.sp_model.specs.declared.declaration.Rule.{Rule}
use Rattle.sp_model.specs.declared.declaration.AccessDecl.{AccessDecl}
use Rattle.sp_model.specs.declared.declaration.TableDecl.{TableDecl}
use Rattle.sp_model.specs.declared.scan.Cause.TheVariants.{TooMany}
use Rattle.sp_model.specs.declared.scan.ScanRequest.{ScanRequest}
use Rattle.sp_model.specs.declared.outcome.Walk.{Walk}
use Rattle.sp_model.specs.declared.outcome.Walk.TheVariants.{Going, Full, Failed, Waiting}
use Rattle.sp_model.specs.declared.outcome.WalkState.{WalkState}
use Rattle.scan_laws.specs.States.{Outer, Inner, child_of}
use Rattle.scan_laws.specs.Rests.{rest_call, entry_of, rest_inner, rest_nested, rest_outer, rest_of}

-- ---- verdicts

-- a call is asked again below its rule's number of attempts
pub again_below : (rule : Rule) (a : ℕ) (e : Option Ending) → judged rule a e ≡ Again → a < attempts_of rule.retry
again_below rule a None h = cc
again_below rule a (Some e) h = lawful.again_below rule a e h

-- ---- lists

pub drop_tail : {X : Type 0} (items : List X) (k : ℕ) (x : X) (xs : List X) → drop k items ≡ x ∷ xs → drop (suc k) items ≡ xs
drop_tail [] zero x xs e = cc
drop_tail [] (suc k) x xs e = cc
drop_tail (y ∷ ys) zero x xs e = cc
drop_tail (y ∷ ys) (suc k) x xs e = drop_tail ys k x xs e

pub visit_append : (visit : Cell → WalkState → Walk) (xs ys : List Cell) (s : WalkState) → visit_all visit (xs ++ ys) s ≡ and_then (visit_all visit xs s) (λ t. visit_all visit ys t)
visit_append visit [] ys s = refl
visit_append visit (x ∷ xs) ys s =
    and_then_same (visit x s) (λ t. visit_all visit (xs ++ ys) t) (λ t. and_then (visit_all visit xs t) (λ u. visit_all visit ys u)) (λ t. visit_append visit xs ys t)
    ∙ sym (and_then_assoc (visit x s) (λ t. visit_all visit xs t) (λ u. visit_all visit ys u))

pub and_then_going : (w : Walk) → and_then w (λ s. Going s) ≡ w
and_then_going (Going s) = refl
and_then_going (Full s) = refl
and_then_going (Failed row column cause) = refl
and_then_going Waiting = refl

-- ---- a call

ended_same : (source : Source) (a : ℕ) (v : Verdict) (count : ℕ) (s : WalkState) (w u : Walk) → (v ≡ Again → w ≡ u) → ended source a v count s w ≡ ended source a v count s u
ended_same source a Accept count s w u same = refl
ended_same source a Again count s w u same = same refl
ended_same source a (Refuse text) count s w u same = refl
ended_same source a Open count s w u same = refl

-- the walk of an attempt is what rests of it at its begin
pub walk_rest : (visit : Cell → WalkState → Walk) (source : Source) (replies : ℕ → Seen) (a : ℕ) (entry : WalkState) → walk_from visit source replies a entry ≡ rest_call visit source replies a entry 0 entry
walk_rest visit source replies a entry =
    and_then_same (visit_all visit (replies a).items entry)
    (λ t. ended source a (judged source.rule a (replies a).ending) (length (replies a).items) t (walk_in (attempts_of source.rule.retry - a) visit source replies (suc a) (unsteady entry)))
    (λ t. ended source a (judged source.rule a (replies a).ending) (length (replies a).items) t (walk_from visit source replies (suc a) (unsteady entry)))
    (λ t. ended_same source a (judged source.rule a (replies a).ending) (length (replies a).items) t
    (walk_in (attempts_of source.rule.retry - a) visit source replies (suc a) (unsteady entry)) (walk_from visit source replies (suc a) (unsteady entry))
    (λ again.
    let below : a < attempts_of source.rule.retry = again_below source.rule a (replies a).ending again in
    let n : attempts_of source.rule.retry - a ≡ suc (attempts_of source.rule.retry - suc a) = omega arith in
    ap (λ m. walk_in m visit source replies (suc a) (unsteady entry)) n))

-- one more item is visited
pub rest_visit : (visit : Cell → WalkState → Walk) (source : Source) (replies : ℕ → Seen) (a : ℕ) (entry : WalkState) (k : ℕ) (x : Cell) (xs : List Cell) (s : WalkState) → drop k (replies a).items ≡ x ∷ xs
    → rest_call visit source replies a entry k s ≡ and_then (visit x s) (λ t. rest_call visit source replies a entry (suc k) t)
rest_visit visit source replies a entry k x xs s e =
    let d : drop (suc k) (replies a).items ≡ xs = drop_tail (replies a).items k x xs e in
    rw (e, d)
    (and_then_assoc (visit x s) (λ t. visit_all visit xs t)
    (λ t. ended source a (judged source.rule a (replies a).ending) (length (replies a).items) t (walk_from visit source replies (suc a) (unsteady entry))))

-- its ending
pub rest_end : (visit : Cell → WalkState → Walk) (source : Source) (replies : ℕ → Seen) (a : ℕ) (entry : WalkState) (k : ℕ) (s : WalkState) (v : Verdict) → drop k (replies a).items ≡ [] → judged source.rule a (replies a).ending ≡ v
    → rest_call visit source replies a entry k s ≡ ended source a v (length (replies a).items) s (walk_from visit source replies (suc a) (unsteady entry))
rest_end visit source replies a entry k s v e is =
    rw e (ap (λ w. ended source a w (length (replies a).items) s (walk_from visit source replies (suc a) (unsteady entry))) is)

-- a call that is accepted is the visit of the items that are left
pub rest_accept : (visit : Cell → WalkState → Walk) (source : Source) (replies : ℕ → Seen) (a : ℕ) (entry : WalkState) (k : ℕ) (items : List Cell) (s : WalkState) (more : WalkState → Walk)
    → drop k (replies a).items ≡ items → judged source.rule a (replies a).ending ≡ Accept → (source.single && nat_lt 1 (length (replies a).items)) ≡ false
    → and_then (rest_call visit source replies a entry k s) more ≡ and_then (visit_all visit items s) more
rest_accept visit source replies a entry k items s more e accept few =
    and_then_assoc (visit_all visit (drop k (replies a).items) s)
    (λ t. ended source a (judged source.rule a (replies a).ending) (length (replies a).items) t (walk_from visit source replies (suc a) (unsteady entry))) more
    ∙ and_then_same (visit_all visit (drop k (replies a).items) s)
    (λ t. and_then (ended source a (judged source.rule a (replies a).ending) (length (replies a).items) t (walk_from visit source replies (suc a) (unsteady entry))) more) more
    (λ t. ap (λ v. and_then (ended source a v (length (replies a).items) t (walk_from visit source replies (suc a) (unsteady entry))) more) accept
    ∙ rw few refl)
    ∙ ap (λ xs. and_then (visit_all visit xs s) more) e

-- ---- the items in front, an inner call and what comes after it

-- an item in front is visited
pub nested_first : (visit : Cell → WalkState → Walk) (answers : Answers) (more : WalkState → Walk) (inner : Option Inner) (x : Cell) (first : List Cell) (s : WalkState)
    → rest_nested visit answers more inner (x ∷ first) s ≡ and_then (visit x s) (λ t. rest_nested visit answers more inner first t)
nested_first visit answers more inner x first s = and_then_assoc (visit x s) (λ t. visit_all visit first t) (λ e. and_then (rest_inner visit answers inner e) more)

-- an item of the inner call is visited
pub nested_inside : (visit : Cell → WalkState → Walk) (answers : Answers) (more : WalkState → Walk) (i : Inner) (x : Cell) (xs : List Cell) (s : WalkState)
    → drop i.decided (answers i.asked i.attempt).items ≡ x ∷ xs
    → rest_nested visit answers more (Some i) [] s
    ≡ and_then (visit x s) (λ t. rest_nested visit answers more (Some (record i { entered = Some (entry_of i.entered s); decided = suc i.decided })) [] t)
nested_inside visit answers more i x xs s e =
    ap (λ w. and_then w more) (rest_visit visit i.source (answers i.asked) i.attempt (entry_of i.entered s) i.decided x xs s e)
    ∙ and_then_assoc (visit x s) (λ t. rest_call visit i.source (answers i.asked) i.attempt (entry_of i.entered s) (suc i.decided) t) more

-- the inner call is accepted: its items stand in front of what comes after it
pub nested_accept : (visit : Cell → WalkState → Walk) (answers : Answers) (more : WalkState → Walk) (i : Inner) (first inside : List Cell) (s : WalkState)
    → drop i.decided (answers i.asked i.attempt).items ≡ inside → judged i.source.rule i.attempt (answers i.asked i.attempt).ending ≡ Accept
    → (i.source.single && nat_lt 1 (length (answers i.asked i.attempt).items)) ≡ false
    → rest_nested visit answers more (Some i) first s ≡ rest_nested visit answers more None (first ++ inside) s
nested_accept visit answers more i first inside s e accept few =
    and_then_same (visit_all visit first s) (λ u. and_then (rest_inner visit answers (Some i) u) more) (λ u. and_then (visit_all visit inside u) more)
    (λ u. rest_accept visit i.source (answers i.asked) i.attempt (entry_of i.entered u) i.decided inside u more e accept few)
    ∙ sym (and_then_assoc (visit_all visit first s) (λ u. visit_all visit inside u) more)
    ∙ ap (λ w. and_then w more) (sym (visit_append visit first inside s))

-- the inner call is asked again once its items are decided: its next attempt is entered in the state in which it was entered
pub nested_again : (visit : Cell → WalkState → Walk) (answers : Answers) (more : WalkState → Walk) (i : Inner) (s : WalkState)
    → drop i.decided (answers i.asked i.attempt).items ≡ [] → judged i.source.rule i.attempt (answers i.asked i.attempt).ending ≡ Again
    → rest_nested visit answers more (Some i) [] s
    ≡ rest_nested visit answers more (Some (record i { attempt = suc i.attempt; listed = false; entered = None; decided = 0; ending = None })) [] (unsteady (entry_of i.entered s))
nested_again visit answers more i s e again =
    ap (λ w. and_then w more)
    (rest_end visit i.source (answers i.asked) i.attempt (entry_of i.entered s) i.decided s Again e again
    ∙ walk_rest visit i.source (answers i.asked) (suc i.attempt) (unsteady (entry_of i.entered s)))

-- the inner call ends the walk once its items are decided
pub nested_end : (visit : Cell → WalkState → Walk) (answers : Answers) (more : WalkState → Walk) (i : Inner) (s : WalkState) (v : Verdict)
    → drop i.decided (answers i.asked i.attempt).items ≡ [] → judged i.source.rule i.attempt (answers i.asked i.attempt).ending ≡ v
    → rest_nested visit answers more (Some i) [] s
    ≡ and_then (ended i.source i.attempt v (length (answers i.asked i.attempt).items) s (walk_from visit i.source (answers i.asked) (suc i.attempt) (unsteady (entry_of i.entered s)))) more
nested_end visit answers more i s v e is =
    ap (λ w. and_then w more) (rest_end visit i.source (answers i.asked) i.attempt (entry_of i.entered s) i.decided s v e is)

-- ---- the parents call

-- a parent's list is begun, whatever items stand in front
pub rest_child : (table : TableDecl) (request : ScanRequest) (answers : Answers) (o : Outer) (parent : Cell) (parents waiting first : List Cell) (s : WalkState)
    → drop o.walked (answers (call.Parents table.name) o.attempt).items ≡ parent ∷ parents
    → rest_of table request answers (Some o) None first s
    ≡ rest_of table request answers (Some (record o { walked = suc o.walked; waiting = waiting })) (Some (child_of table request parent)) first s
rest_child table request answers o parent parents waiting first s e =
    let visit : Cell → WalkState → Walk = visit_item table request answers in
    let later : WalkState → Walk = λ u. rest_outer table request answers (Some (record o { walked = suc o.walked; waiting = waiting })) u in
    and_then_same (visit_all visit first s) (λ u. rest_outer table request answers (Some o) u)
    (λ u. and_then (rest_inner visit answers (Some (child_of table request parent)) u) later)
    (λ u. rest_visit (visit_parent table request answers) (parent_source table (parent_of table.list)) (answers (call.Parents table.name)) o.attempt start o.walked parent parents u e
    ∙ ap (λ w. and_then w later) (walk_rest visit (list_source table table.list) (answers (child_call table request parent)) 1 u))

parent_single : (table : TableDecl) (d : Option AccessDecl) → (parent_source table d).single ≡ false
parent_single table None = refl
parent_single table (Some d) = refl

pub rest_outer_end : (table : TableDecl) (request : ScanRequest) (answers : Answers) (o : Outer) (v : Verdict) (s : WalkState)
    → drop o.walked (answers (call.Parents table.name) o.attempt).items ≡ []
    → judged (parent_source table (parent_of table.list)).rule o.attempt (answers (call.Parents table.name) o.attempt).ending ≡ v
    → rest_outer table request answers (Some o) s
    ≡ ended (parent_source table (parent_of table.list)) o.attempt v (length (answers (call.Parents table.name) o.attempt).items) s
    (walk_from (visit_parent table request answers) (parent_source table (parent_of table.list)) (answers (call.Parents table.name)) (suc o.attempt) (unsteady start))
rest_outer_end table request answers o v s e is =
    rest_end (visit_parent table request answers) (parent_source table (parent_of table.list)) (answers (call.Parents table.name)) o.attempt start o.walked s v e is

pub rest_outer_accept : (table : TableDecl) (request : ScanRequest) (answers : Answers) (o : Outer) (first : List Cell) (s : WalkState)
    → drop o.walked (answers (call.Parents table.name) o.attempt).items ≡ []
    → judged (parent_source table (parent_of table.list)).rule o.attempt (answers (call.Parents table.name) o.attempt).ending ≡ Accept
    → rest_of table request answers (Some o) None first s ≡ rest_of table request answers None None first s
rest_outer_accept table request answers o first s e accept =
    and_then_same (visit_all (visit_item table request answers) first s) (λ u. rest_outer table request answers (Some o) u) (λ u. rest_outer table request answers None u)
    (λ u. rest_outer_end table request answers o Accept u e accept
    ∙ ap (λ b. if b && nat_lt 1 (length (answers (call.Parents table.name) o.attempt).items)
    then Failed (suc u.items) None (TooMany (parent_source table (parent_of table.list)).function (length (answers (call.Parents table.name) o.attempt).items)) else Going u)
    (parent_single table (parent_of table.list)))

pub rest_outer_again : (table : TableDecl) (request : ScanRequest) (answers : Answers) (o : Outer) (s : WalkState)
    → drop o.walked (answers (call.Parents table.name) o.attempt).items ≡ []
    → judged (parent_source table (parent_of table.list)).rule o.attempt (answers (call.Parents table.name) o.attempt).ending ≡ Again
    → rest_of table request answers (Some o) None [] s
    ≡ rest_of table request answers (Some (record { attempt = suc o.attempt; listed = false; walked = 0; waiting = []; ending = None })) None [] (unsteady start)
rest_outer_again table request answers o s e again =
    rest_outer_end table request answers o Again s e again
    ∙ walk_rest (visit_parent table request answers) (parent_source table (parent_of table.list)) (answers (call.Parents table.name)) (suc o.attempt) (unsteady start)
