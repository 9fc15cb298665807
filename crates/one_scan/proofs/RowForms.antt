-- The form of rows in flight stays.
use Rattle.std.proofs.Common.{◌≡◌, ◌≤◌, ◌<◌, ◌⊎◌, inl, inr, ℕ, zero, suc, Bool, true, false, List, [], ◌∷◌, length, get_or, set, map, Option, Some, None, if◌then◌else◌, refl, sym, ap, subst, ◌∙◌, arith}
use Rattle.std.proofs.lemmas.Bool.{cases_eq}
use Rattle.sp_value.proofs.Computing.{cells, depth-Null}
use Rattle.sp_value.specs.declared.cell.Cell.{Cell}
use Rattle.sp_value.specs.declared.cell.Cell.TheVariants as c
use Rattle.sp_value.specs.declared.cell.Cell.TheOpen.{Cell-F}
use Rattle.sp_value.specs.declared.cell.Cell.TheViews.{out-Cell}
use Rattle.sp_model.proofs.Lawful.{again_below}
use Rattle.sp_model.specs.Fields.{or_null}
use Rattle.sp_model.specs.Sayable.{IsItem, IsObject_at}
use Rattle.sp_model.specs.Settling.{or_else, Answers, attempts_of, Verdict, Accept, Again, Refuse, Open, judged}
use Rattle.sp_model.specs.declared.call.Ending.{Ending}
use Rattle.sp_model.specs.declared.call.Piece.{Piece}
use Rattle.sp_model.specs.declared.call.Piece.TheVariants as piece
use Rattle.sp_model.specs.declared.declaration.Rule.{Rule}
use Rattle.sp_model.specs.declared.declaration.TableDecl.{TableDecl}
use Rattle.sp_model.specs.declared.outcome.Outcome.{Outcome}
use Rattle.sp_model.specs.declared.scan.Seat.{Seat}
use Rattle.sp_world.specs.Pieces.{IsSoundPiece}
use Rattle.sp_world.specs.RequestLines.{IsResultForm, IsNullOrObject_at}
use Rattle.hydrate_graph.specs.Graphs.{Plan, Graph}
use Rattle.hydrate_graph.specs.Numbers.{name_at}
use Rattle.hydrate_graph.specs.Plans.{AreApart}
use Rattle.row_flight.proofs.Fresh.{none_known, fresh_in, begun_hears}
use Rattle.row_flight.proofs.Viewing.{at_other}
use Rattle.row_flight.specs.Attempts.{fresh, accepted, outcome_by, attempt_by, heard_outcome, heard_attempt, listed_attempt}
use Rattle.row_flight.specs.Flying.{Seated, hears_at, is_at}
use Rattle.row_flight.specs.Hearing.{AllHear, RowHears}
use Rattle.row_flight.specs.Jobs.{DiffersInListed, DifferInListed}
use Rattle.row_flight.specs.Rows.{attempt_in, with_attempt, slot_of, attempt_of, begun, settled_so, rule_at, row_hears}
use Rattle.row_flight.specs.declared.attempt.Attempt.{Attempt}
use Rattle.row_flight.specs.declared.row.RowCalls.{RowCalls}
use Rattle.scan_core.specs.Going.{IsIn, GoesOn}
use Rattle.scan_core.specs.declared.course.Course.{Course}
use Rattle.one_scan.specs.Forms.{AreItems, IsResultOutcome, IsAttemptForm, IsRowForm, IsPlanForm}

-- ---- among

pub in_map : {X Y : Type 0} (h : X → Y) (y : Y) (xs : List X) → IsIn y (map h xs) → (x : X) × IsIn x xs × (y ≡ h x)
in_map h y [] none = absurd none
in_map h y (x ∷ xs) (inl e) = (x, inl refl, e)
in_map h y (x ∷ xs) (inr more) = let r = in_map h y xs more in (r.0, inr r.1, r.2)

pub in_differ : (xs ys : List Seated) (t : Seated) → DifferInListed xs ys → IsIn t ys → (s : Seated) × IsIn s xs × DiffersInListed s.row t.row
in_differ xs [] t d none = absurd none
in_differ [] (y ∷ ys) t d there = absurd d
in_differ (x ∷ xs) (y ∷ ys) t d (inl e) = (x, inl refl, subst (λ (z : Seated). DiffersInListed x.row z.row) (sym e) d.1)
in_differ (x ∷ xs) (y ∷ ys) t d (inr more) = let r = in_differ xs ys t d.2 more in (r.0, inr r.1, r.2)

pub items_in : (xs : List Cell) (x : Cell) → AreItems xs → IsIn x xs → IsItem x
items_in [] x all none = absurd none
items_in (y ∷ ys) x all (inl e) = subst IsItem (sym e) all.0
items_in (y ∷ ys) x all (inr more) = items_in ys x all.1 more

hear_in : (table : TableDecl) (answers : Answers) (rows : List Seated) (s : Seated) → AllHear table answers rows → IsIn s rows → RowHears table answers s.row
hear_in table answers [] s all none = absurd none
hear_in table answers (r ∷ rows) s all (inl e) = subst (λ (z : Seated). RowHears table answers z.row) (sym e) all.0
hear_in table answers (r ∷ rows) s all (inr more) = hear_in table answers rows s all.1 more

in_hear : (table : TableDecl) (answers : Answers) (rows : List Seated) → ((s : Seated) → IsIn s rows → RowHears table answers s.row) → AllHear table answers rows
in_hear table answers [] all = tt
in_hear table answers (r ∷ rows) all = (all r (inl refl), in_hear table answers rows (λ s there. all s (inr there)))

-- ---- values

result_of_object : (v : Cell-F Cell) → IsObject_at v → IsNullOrObject_at v
result_of_object (Cell-F.Object ms) is = tt
result_of_object Cell-F.Null is = absurd is
result_of_object (Cell-F.Bool b) is = absurd is
result_of_object (Cell-F.Int z) is = absurd is
result_of_object (Cell-F.Text s) is = absurd is
result_of_object (Cell-F.List xs) is = absurd is

item_result : (x : Cell) → IsItem x → IsResultForm x
item_result x is = (result_of_object (out-Cell x) is.0, is.1)

null_result : IsResultForm c.Null
unfolding cells
null_result = (tt, omega (arith, depth-Null))

or_null_result : (o : Option Cell) → ((x : Cell) → o ≡ Some x → IsItem x) → IsResultForm (or_null o)
or_null_result None h = null_result
or_null_result (Some x) h = item_result x (h x refl)

accepted_result : (name : List ℕ) (n : ℕ) (o : Option Cell) → ((x : Cell) → o ≡ Some x → IsItem x) → IsResultOutcome (Some (accepted name n o))
accepted_result name zero o h = null_result
accepted_result name (suc zero) o h = or_null_result o h
accepted_result name (suc (suc n)) o h = tt

outcome_result : (v : Verdict) (name : List ℕ) (n : ℕ) (a : Attempt) → ((x : Cell) → a.item ≡ Some x → IsItem x) → IsResultOutcome (outcome_by v name n a)
outcome_result Accept name n a h = accepted_result name n a.item h
outcome_result Again name n a h = tt
outcome_result (Refuse text) name n a h = tt
outcome_result Open name n a h = tt

heard_result : (rule : Rule) (name : List ℕ) (p : Piece) (a : Attempt) → ((x : Cell) → a.item ≡ Some x → IsItem x) → IsResultOutcome (heard_outcome rule name p a)
heard_result rule name (piece.Item place x) a h = tt
heard_result rule name (piece.Ending count e) a h = outcome_result (judged rule (suc a.tries) (Some e)) name count a h

-- ---- attempts

none_some : (x : Cell) → None ≡ Some x → IsItem x
none_some x e = absurd (cc)

or_item : (o : Option Cell) (x y : Cell) → ((z : Cell) → o ≡ Some z → IsItem z) → IsItem x → or_else o (Some x) ≡ Some y → IsItem y
or_item None x y h one e = let s : x ≡ y = cc in subst IsItem s one
or_item (Some z) x y h one e = h y e

ended_attempt : (rule : Rule) (tick : ℕ) (a : Attempt) (e : Ending) (v : Verdict) → judged rule (suc a.tries) (Some e) ≡ v → IsAttemptForm rule a → IsAttemptForm rule (attempt_by v rule tick a)
ended_attempt rule tick a e Accept is f = record { last = f.last; item = none_some }
ended_attempt rule tick a e Again is f =
    let below : suc a.tries < attempts_of rule.retry = again_below rule (suc a.tries) e is in
    record { last = omega (arith, below); item = none_some }
ended_attempt rule tick a e (Refuse text) is f = record { last = f.last; item = none_some }
ended_attempt rule tick a e Open is f = record { last = f.last; item = none_some }

heard_attempt_form : (rule : Rule) (tick : ℕ) (p : Piece) (a : Attempt) → IsSoundPiece p → IsAttemptForm rule a → IsAttemptForm rule (heard_attempt rule tick p a)
heard_attempt_form rule tick (piece.Item place x) a sound f = record { last = f.last; item = λ y e. or_item a.item x y f.item sound.0 e }
heard_attempt_form rule tick (piece.Ending count e) a sound f = ended_attempt rule tick a e (judged rule (suc a.tries) (Some e)) refl f

-- ---- lists

set_form : {X : Type 0} (P : X → Type 0) (xs : List X) (k : ℕ) (x d : X) → P x → ((j : ℕ) → P (get_or xs j d)) → (j : ℕ) → P (get_or (set xs k x) j d)
set_form P [] k x d here all j = all j
set_form P (y ∷ ys) zero x d here all zero = here
set_form P (y ∷ ys) zero x d here all (suc j) = all (suc j)
set_form P (y ∷ ys) (suc k) x d here all zero = all 0
set_form P (y ∷ ys) (suc k) x d here all (suc j) = set_form P ys k x d here (λ i. all (suc i)) j

set_here : {X : Type 0} (P : X → Type 0) (xs : List X) (k : ℕ) (x d : X) → P x → P d → P (get_or (set xs k x) k d)
set_here P [] k x d here default = default
set_here P (y ∷ ys) zero x d here default = here
set_here P (y ∷ ys) (suc k) x d here default = set_here P ys k x d here default

-- ---- a row

pub begun_form : (table : TableDecl) (plan : Plan) (item : Cell) → IsPlanForm table plan → IsItem item → IsRowForm plan (begun plan item)
begun_form table plan item p is = record {
  of_plan = refl;
  item = is;
  gave = λ k. subst IsResultOutcome (sym (none_known (length plan.functions) k)) tt;
  attempts = λ k. subst (IsAttemptForm (rule_at plan k)) (sym (fresh_in plan.room (slot_of plan k))) (record { last = p.attempts k; item = none_some });
}

settled_plan : (g : Graph) (k : ℕ) (o : Option Outcome) → (settled_so g k o).plan ≡ g.plan
settled_plan g k None = refl
settled_plan g k (Some o) = refl

settled_item : (g : Graph) (k : ℕ) (o : Option Outcome) → (settled_so g k o).item ≡ g.item
settled_item g k None = refl
settled_item g k (Some o) = refl

settled_gave : (g : Graph) (k : ℕ) (o : Option Outcome) → IsResultOutcome o → ((j : ℕ) → IsResultOutcome (get_or g.settled j None)) → (j : ℕ) → IsResultOutcome (get_or (settled_so g k o).settled j None)
settled_gave g k None is all = all
settled_gave g k (Some o) is all = set_form IsResultOutcome g.settled k (Some o) None is all

put_attempt : (plan : Plan) (attempts : List Attempt) (k : ℕ) (a : Attempt) → AreApart plan.slots → IsAttemptForm (rule_at plan k) a → 1 ≤ attempts_of (rule_at plan k).retry
    → ((j : ℕ) → IsAttemptForm (rule_at plan j) (attempt_in attempts (slot_of plan j))) → (t : Option ℕ) → slot_of plan k ≡ t → (j : ℕ) → IsAttemptForm (rule_at plan j) (attempt_in (with_attempt attempts t a) (slot_of plan j))
put_attempt plan attempts k a apart is some all None at j = all j
put_attempt plan attempts k a apart is some all (Some slot) at j = by (cases_eq j k)
  where
    by : (j ≡ k) ⊎ (j ≡ k → ⊥) → IsAttemptForm (rule_at plan j) (attempt_in (set attempts slot a) (slot_of plan j))
    by (inl e) =
        subst (λ (n : ℕ). IsAttemptForm (rule_at plan n) (attempt_in (set attempts slot a) (slot_of plan n))) (sym e)
        (subst (λ (t : Option ℕ). IsAttemptForm (rule_at plan k) (attempt_in (set attempts slot a) t)) (sym at)
        (set_here (IsAttemptForm (rule_at plan k)) attempts slot a fresh is (record { last = some; item = none_some })))
    by (inr other) = subst (IsAttemptForm (rule_at plan j)) (sym (at_other plan.slots attempts k slot a apart at j other (slot_of plan j) refl)) (all j)

-- a piece is taken in
heard_by : (row : RowCalls) (k : ℕ) (p : Piece) (tick : ℕ) → AreApart row.graph.plan.slots → IsSoundPiece p → IsRowForm row.graph.plan row
    → (o : Option Outcome) → IsResultOutcome o → IsRowForm row.graph.plan (record { graph = settled_so row.graph k o; attempts = with_attempt row.attempts (slot_of row.graph.plan k) (heard_attempt (rule_at row.graph.plan k) tick p (attempt_of row k)); all_listed = false })
heard_by row k p tick apart sound f o is =
    let some : 1 ≤ attempts_of (rule_at row.graph.plan k).retry = (let l = (f.attempts k).last in omega (arith, l)) in
    record {
      of_plan = settled_plan row.graph k o;
      item = subst IsItem (sym (settled_item row.graph k o)) f.item;
      gave = settled_gave row.graph k o is f.gave;
      attempts = λ j.
          subst (λ (q : Plan). IsAttemptForm (rule_at row.graph.plan j) (attempt_in (with_attempt row.attempts (slot_of row.graph.plan k) (heard_attempt (rule_at row.graph.plan k) tick p (attempt_of row k))) (slot_of q j))) (sym (settled_plan row.graph k o))
          (put_attempt row.graph.plan row.attempts k (heard_attempt (rule_at row.graph.plan k) tick p (attempt_of row k)) apart
          (heard_attempt_form (rule_at row.graph.plan k) tick p (attempt_of row k) sound (f.attempts k)) some f.attempts (slot_of row.graph.plan k) refl j);
    }

heard_row : (plan : Plan) (row : RowCalls) (k : ℕ) (p : Piece) (tick : ℕ) → AreApart plan.slots → IsSoundPiece p → IsRowForm plan row → IsRowForm plan (row_hears row k p tick)
heard_row plan row k p tick apart sound f =
    let own : IsRowForm row.graph.plan row = subst (λ (q : Plan). IsRowForm q row) (sym f.of_plan) f in
    subst (λ (q : Plan). IsRowForm q (row_hears row k p tick)) f.of_plan
    (heard_by row k p tick (subst (λ (q : Plan). AreApart q.slots) (sym f.of_plan) apart) sound own (heard_outcome (rule_at row.graph.plan k) (name_at row.graph.plan.functions k) p (attempt_of row k))
    (heard_result (rule_at row.graph.plan k) (name_at row.graph.plan.functions k) p (attempt_of row k) (own.attempts k).item))

heard_at_by : (plan : Plan) (seat : Seat) (p : Piece) (tick : ℕ) (s : Seated) (b : Bool) → AreApart plan.slots → IsSoundPiece p → IsRowForm plan s.row → IsRowForm plan (if b then record { key = s.key; row = row_hears s.row seat.function p tick } else s).row
heard_at_by plan seat p tick s true apart sound f = heard_row plan s.row seat.function p tick apart sound f
heard_at_by plan seat p tick s false apart sound f = f

pub heard_rows_form : (plan : Plan) (seat : Seat) (p : Piece) (tick : ℕ) (rows : List Seated) → AreApart plan.slots → IsSoundPiece p → ((s : Seated) → IsIn s rows → IsRowForm plan s.row)
    → (s : Seated) → IsIn s (map (hears_at seat p tick) rows) → IsRowForm plan s.row
heard_rows_form plan seat p tick rows apart sound all s there =
    let r = in_map (hears_at seat p tick) s rows there in
    subst (λ (z : Seated). IsRowForm plan z.row) (sym r.2) (heard_at_by plan seat p tick r.0 (is_at r.0.key seat) apart sound (all r.0 r.1))

-- calls are listed
listed_row : (plan : Plan) (old new : RowCalls) → DiffersInListed old new → IsRowForm plan old → IsRowForm plan new
listed_row plan old new d f = record {
  of_plan = ap (λ g. g.plan) d.graph ∙ f.of_plan;
  item = subst (λ (g : Graph). IsItem g.item) (sym d.graph) f.item;
  gave = λ k. subst (λ (g : Graph). IsResultOutcome (get_or g.settled k None)) (sym d.graph) (f.gave k);
  attempts = λ k.
      let a = f.attempts k in
      let e : listed_attempt (attempt_of new k) ≡ listed_attempt (attempt_of old k) = d.attempts k in
      record {
        last = subst (λ (n : ℕ). suc n ≤ attempts_of (rule_at plan k).retry) (sym (ap (λ z. z.tries) e)) a.last;
        item = λ x is. a.item x (sym (ap (λ z. z.item) e) ∙ is);
      };
}

pub listed_rows_form : (plan : Plan) (xs ys : List Seated) → DifferInListed xs ys → ((s : Seated) → IsIn s xs → IsRowForm plan s.row) → (s : Seated) → IsIn s ys → IsRowForm plan s.row
listed_rows_form plan xs ys d all s there = let r = in_differ xs ys s d there in listed_row plan r.0.row s.row r.2 (all r.0 r.1)

-- ---- a scan that goes on

pub goes_form : {X : Type 0} (table : TableDecl) (old new : Course X) → GoesOn old new → IsPlanForm table old.flight.plan → AreItems old.waiting.items → ((s : Seated) → IsIn s old.flight.rows → IsRowForm old.flight.plan s.row)
    → (s : Seated) → IsIn s new.flight.rows → IsRowForm new.flight.plan s.row
goes_form table old new goes p items all s there = subst (λ (q : Plan). IsRowForm q s.row) (sym goes.plan) (by (goes.rows s there))
  where
    by : IsIn s old.flight.rows ⊎ ((x : Cell) × IsIn x old.waiting.items × (s.row ≡ begun old.flight.plan x)) → IsRowForm old.flight.plan s.row
    by (inl here) = all s here
    by (inr fresh_one) = subst (IsRowForm old.flight.plan) (sym fresh_one.2) (begun_form table old.flight.plan fresh_one.0 p (items_in old.waiting.items fresh_one.0 items fresh_one.1))

pub goes_hear : {X : Type 0} (table : TableDecl) (answers : Answers) (old new : Course X) → GoesOn old new → AllHear table answers old.flight.rows → AllHear table answers new.flight.rows
goes_hear table answers old new goes all = in_hear table answers new.flight.rows (λ s there. by s (goes.rows s there))
  where
    by : (s : Seated) → IsIn s old.flight.rows ⊎ ((x : Cell) × IsIn x old.waiting.items × (s.row ≡ begun old.flight.plan x)) → RowHears table answers s.row
    by s (inl here) = hear_in table answers old.flight.rows s all here
    by s (inr one) = subst (λ (r : RowCalls). RowHears table answers r) (sym one.2) (begun_hears old.flight.plan one.0 table answers)
