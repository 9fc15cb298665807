-- Which step of a scan is the next.
use Rattle.std.proofs.Common.{◌≡◌, ℕ, Bool, true, false, List, [], ◌∷◌, length, Some, None, refl, sym, ap, subst, ◌∙◌, if◌then◌else◌}
use Rattle.sp_model.specs.Settling.{Verdict, Accept, Again, Refuse, Open, judged, is_ignored, is_retried}
use Rattle.sp_model.specs.declared.call.Ending.{Ending}
use Rattle.sp_model.specs.declared.call.Ending.TheVariants.{End, Error}
use Rattle.sp_model.specs.declared.declaration.Rule.{Rule}
use Rattle.sp_model.specs.declared.declaration.TableDecl.{TableDecl}
use Rattle.sp_model.specs.declared.scan.ScanRequest.{ScanRequest}
use Rattle.retry_ignore.specs.Verdicts.{verdict_of}
use Rattle.retry_ignore.specs.declared.verdict.Verdict.TheVariants.{Fail}
use Rattle.scan_laws.specs.States.{Outer, Inner, Scan}
use Rattle.sp_model.specs.Walk.{Source}
use Rattle.scan_core.specs.Advances.{AllDecided, is_too_many, InnerStands, OuterStands, OuterEnds, Finishes, RowDecides, ItemFills, CallEnds, ListBegins, ParentsEnd, NothingIsLeft}
use Rattle.scan_core.specs.Next.{FirstIsDecided, HasItem, HasParent, outer_source, IsStill, NoItemsStep, NoParentsStep, IsItemsNext, IsParentsNext, IsNext}
use Rattle.scan_core.specs.declared.step.NextStep.{NextStep}
use Rattle.scan_core.specs.declared.step.NextStep.TheVariants.{Decide, Fill, AcceptItems, AskItems, RefuseItems, TooManyItems, BeginList, AcceptParents, AskParents, RefuseParents, Finish, Wait}

pub still_items : (table : TableDecl) (request : ScanRequest) (window : ℕ) (st : Scan) (i : Inner) → (FirstIsDecided table request st → ⊥) → (HasItem window st → ⊥) → st.inner ≡ Some i → NoItemsStep st → IsStill table request window st
still_items table request window st i first item is none t (RowDecides d) = first (record { row = d.row; rows = d.rows; first = d.first; seen = d.seen; known = d.known })
still_items table request window st i first item is none t (ItemFills f) = item (record { item = f.item; waiting = f.waiting; first = f.first; room = f.room })
still_items table request window st i first item is none t (CallEnds e) = none t e
still_items table request window st i first item is none t (ListBegins b) = let e : Some i ≡ None = sym is ∙ b.closed in cc
still_items table request window st i first item is none t (ParentsEnd b) = let e : Some i ≡ None = sym is ∙ b.closed in cc
still_items table request window st i first item is none t (NothingIsLeft f) = let e : Some i ≡ None = sym is ∙ f.inner in cc

pub still_parents : (table : TableDecl) (request : ScanRequest) (window : ℕ) (st : Scan) → (FirstIsDecided table request st → ⊥) → (HasItem window st → ⊥) → st.inner ≡ None → NoParentsStep table request st → IsStill table request window st
still_parents table request window st first item is none t (RowDecides d) = first (record { row = d.row; rows = d.rows; first = d.first; seen = d.seen; known = d.known })
still_parents table request window st first item is none t (ItemFills f) = item (record { item = f.item; waiting = f.waiting; first = f.first; room = f.room })
still_parents table request window st first item is none t (CallEnds e) = let x : Some e.inner ≡ None = sym e.is ∙ is in cc
still_parents table request window st first item is none t (ListBegins b) = none.0 (record { outer = b.outer; parent = b.parent; parents = b.parents; is = b.is; closed = b.closed; first = b.first })
still_parents table request window st first item is none t (ParentsEnd b) = none.1 t b
still_parents table request window st first item is none t (NothingIsLeft f) = none.2 t f

-- ---- the inner call

pub no_ending : (st : Scan) (i : Inner) → st.inner ≡ Some i → i.ending ≡ None → NoItemsStep st
no_ending st i is none t e =
    let same : Some i ≡ Some e.inner = sym is ∙ e.is in
    let x : Some e.ending ≡ None = sym e.came ∙ ap (λ j. j.ending) (let y : e.inner ≡ i = cc in y) ∙ none in
    cc

undecided_so : (st t : Scan) (i : Inner) (v : Verdict) (many : Bool) → (AllDecided st → ⊥) → (v ≡ Accept → many ≡ true) → InnerStands st i v many t → ⊥
undecided_so st t i Accept false not so s = let x : false ≡ true = so refl in cc
undecided_so st t i Accept true not so s = not s.0
undecided_so st t i Again many not so s = not s.0
undecided_so st t i (Refuse text) many not so s = not s.0
undecided_so st t i Open many not so s = s

pub not_all_decided : (st : Scan) (i : Inner) (ending : Ending) → st.inner ≡ Some i → i.ending ≡ Some ending → (AllDecided st → ⊥)
    → (judged i.source.rule i.attempt (Some ending) ≡ Accept → is_too_many i (length st.inside) ≡ true) → NoItemsStep st
not_all_decided st i ending is came not so t e =
    let same : Some i ≡ Some e.inner = sym is ∙ e.is in
    let j : e.inner ≡ i = cc in
    let ends : Some e.ending ≡ Some ending = sym e.came ∙ ap (λ j. j.ending) j ∙ came in
    let k : e.ending ≡ ending = cc in
    undecided_so st t i (judged i.source.rule i.attempt (Some ending)) (is_too_many i (length st.inside)) not so
    (subst (λ (x : Ending). InnerStands st i (judged i.source.rule i.attempt (Some x)) (is_too_many i (length st.inside)) t) k
    (subst (λ (x : Inner). InnerStands st x (judged x.source.rule x.attempt (Some e.ending)) (is_too_many x (length st.inside)) t) j e.stands))

-- an ending that came is judged
pub never_open : (rule : Rule) (attempt : ℕ) (e : Ending) → judged rule attempt (Some e) ≡ Open → ⊥
never_open rule attempt End x = cc
never_open rule attempt (Error text) x = never_by (is_ignored rule.ignore text) (is_retried rule.retry attempt text) text x where
  never_by : (a b : Bool) (text : List ℕ) → (if a then Accept else (if b then Again else Refuse text)) ≡ Open → ⊥
  never_by true b text x = cc
  never_by false true text x = cc
  never_by false false text x = cc

refuse_by : (rule : Rule) (attempt : ℕ) (v : Verdict) → (v ≡ Open → ⊥) → Fail ≡ verdict_of rule attempt v → (text : List ℕ) × (v ≡ Refuse text)
refuse_by rule attempt Accept not e = absurd (cc)
refuse_by rule attempt Again not e = absurd (cc)
refuse_by rule attempt (Refuse text) not e = (text, refl)
refuse_by rule attempt Open not e = absurd (not refl)

-- an ending by which a call fails is an error with a text
pub says_refuse : (rule : Rule) (attempt : ℕ) (e : Ending) → Fail ≡ verdict_of rule attempt (judged rule attempt (Some e)) → (text : List ℕ) × (judged rule attempt (Some e) ≡ Refuse text)
says_refuse rule attempt e f = refuse_by rule attempt (judged rule attempt (Some e)) (never_open rule attempt e) f

-- ---- the next step by its parts

pub by_items : (table : TableDecl) (request : ScanRequest) (window : ℕ) (st : Scan) (i : Inner) (s : NextStep) → (FirstIsDecided table request st → ⊥) → (HasItem window st → ⊥) → st.inner ≡ Some i → IsItemsNext st s → IsNext table request window st s
by_items table request window st i AcceptItems first item is n = n
by_items table request window st i (AskItems delay) first item is n = n
by_items table request window st i RefuseItems first item is n = n
by_items table request window st i TooManyItems first item is n = n
by_items table request window st i Wait first item is n = still_items table request window st i first item is n
by_items table request window st i Decide first item is n = absurd n
by_items table request window st i Fill first item is n = absurd n
by_items table request window st i BeginList first item is n = absurd n
by_items table request window st i AcceptParents first item is n = absurd n
by_items table request window st i (AskParents delay) first item is n = absurd n
by_items table request window st i RefuseParents first item is n = absurd n
by_items table request window st i Finish first item is n = absurd n

pub by_parents : (table : TableDecl) (request : ScanRequest) (window : ℕ) (st : Scan) (s : NextStep) → (FirstIsDecided table request st → ⊥) → (HasItem window st → ⊥) → st.inner ≡ None → IsParentsNext table request st s → IsNext table request window st s
by_parents table request window st BeginList first item is n = n
by_parents table request window st AcceptParents first item is n = n
by_parents table request window st (AskParents delay) first item is n = n
by_parents table request window st RefuseParents first item is n = n
by_parents table request window st Finish first item is n = n
by_parents table request window st Wait first item is n = still_parents table request window st first item is n
by_parents table request window st Decide first item is n = absurd n
by_parents table request window st Fill first item is n = absurd n
by_parents table request window st AcceptItems first item is n = absurd n
by_parents table request window st (AskItems delay) first item is n = absurd n
by_parents table request window st RefuseItems first item is n = absurd n
by_parents table request window st TooManyItems first item is n = absurd n

-- ---- the parents call

outer_undecided : (source : Source) (st t : Scan) (o : Outer) (v : Verdict) → (st.first ≡ [] → ⊥) → (v ≡ Accept → ⊥) → OuterStands source st o v t → ⊥
outer_undecided source st t o Accept not so s = so refl
outer_undecided source st t o Again not so s = not s.0
outer_undecided source st t o (Refuse text) not so s = not s.0
outer_undecided source st t o Open not so s = s

-- no list is open, no parent waits, and the ending came, but items aren't decided
pub parents_wait : (table : TableDecl) (request : ScanRequest) (st : Scan) (o : Outer) (ending : Ending) → st.outer ≡ Some o → o.waiting ≡ [] → o.ending ≡ Some ending → (st.first ≡ [] → ⊥)
    → (judged (outer_source table).rule o.attempt (Some ending) ≡ Accept → ⊥) → NoParentsStep table request st
parents_wait table request st o ending is walked came not so = (no_parent, no_end, no_finish) where
  no_parent : HasParent st → ⊥
  no_parent b =
      let same : Some o ≡ Some b.outer = sym is ∙ b.is in
      let k : b.outer ≡ o = cc in
      let x : b.parent ∷ b.parents ≡ [] = sym b.first ∙ ap (λ z. z.waiting) k ∙ walked in
      cc

  no_end : (t : Scan) → OuterEnds table st t → ⊥
  no_end t e =
      let same : Some o ≡ Some e.outer = sym is ∙ e.is in
      let j : e.outer ≡ o = cc in
      let ends : Some e.ending ≡ Some ending = sym e.came ∙ ap (λ z. z.ending) j ∙ came in
      let k : e.ending ≡ ending = cc in
      outer_undecided (outer_source table) st t o (judged (outer_source table).rule o.attempt (Some ending)) not so
      (subst (λ (x : Ending). OuterStands (outer_source table) st o (judged (outer_source table).rule o.attempt (Some x)) t) k
      (subst (λ (x : Outer). OuterStands (outer_source table) st x (judged (outer_source table).rule x.attempt (Some e.ending)) t) j e.stands))

  no_finish : (t : Scan) → Finishes st t → ⊥
  no_finish t f = let x : Some o ≡ None = sym is ∙ f.outer in cc

-- no parent waits and no ending came
pub parents_open : (table : TableDecl) (request : ScanRequest) (st : Scan) (o : Outer) → st.outer ≡ Some o → o.waiting ≡ [] → o.ending ≡ None → NoParentsStep table request st
parents_open table request st o is walked none = (no_parent, no_end, no_finish) where
  no_parent : HasParent st → ⊥
  no_parent b =
      let same : Some o ≡ Some b.outer = sym is ∙ b.is in
      let k : b.outer ≡ o = cc in
      let x : b.parent ∷ b.parents ≡ [] = sym b.first ∙ ap (λ z. z.waiting) k ∙ walked in
      cc

  no_end : (t : Scan) → OuterEnds table st t → ⊥
  no_end t e =
      let same : Some o ≡ Some e.outer = sym is ∙ e.is in
      let j : e.outer ≡ o = cc in
      let ends : Some e.ending ≡ None = sym e.came ∙ ap (λ z. z.ending) j ∙ none in
      cc

  no_finish : (t : Scan) → Finishes st t → ⊥
  no_finish t f = let x : Some o ≡ None = sym is ∙ f.outer in cc

-- there are no parents, but items aren't decided
pub parents_done : (table : TableDecl) (request : ScanRequest) (st : Scan) → st.outer ≡ None → (st.first ≡ [] → ⊥) → NoParentsStep table request st
parents_done table request st is not = (no_parent, no_end, no_finish) where
  no_parent : HasParent st → ⊥
  no_parent b = let x : Some b.outer ≡ None = sym b.is ∙ is in cc

  no_end : (t : Scan) → OuterEnds table st t → ⊥
  no_end t e = let x : Some e.outer ≡ None = sym e.is ∙ is in cc

  no_finish : (t : Scan) → Finishes st t → ⊥
  no_finish t f = not f.decided
