-- The ending of a call, as the fields of a scan have it.
use Rattle.std.proofs.Common.{◌≡◌, ℕ, Bool, true, false, List, [], ◌++◌, length, take, drop, Option, Some, None, Result, Ok, Err, OnOk, OnErr, refl, sym, ap, subst, ◌∙◌, not, is_some}
use Rattle.std.proofs.lemmas.List.{take-append-drop}
use Rattle.std.proofs.Math.Seq.{take-length}
use Rattle.sp_value.specs.declared.cell.Cell.{Cell}
use Rattle.sp_model.specs.Settling.{Verdict, judged}
use Rattle.sp_model.specs.Walk.{Source}
use Rattle.sp_model.specs.declared.call.Ending.{Ending}
use Rattle.sp_model.specs.declared.declaration.TableDecl.{TableDecl}
use Rattle.sp_model.specs.declared.outcome.WalkState.{WalkState}
use Rattle.scan_laws.specs.States.{Outer, Inner, Scan}
use Rattle.scan_core.specs.Advances.{is_too_many, InnerStands, InnerEnds, OuterStands, OuterEnds}
use Rattle.scan_core.specs.Calls.{inner_view}
use Rattle.scan_core.specs.Next.{InnerSays, OuterSays, outer_source}
use Rattle.scan_core.specs.declared.calls.ItemsCall.{ItemsCall}
use Rattle.scan_core.specs.declared.scope.CallSource.{CallSource}

-- ---- the inner call

pub ends_by : (st t : Scan) (i : Inner) (e : Ending) (v : Verdict) (many : Bool) → st.inner ≡ Some i → i.ending ≡ Some e → judged i.source.rule i.attempt (Some e) ≡ v → is_too_many i (length st.inside) ≡ many → InnerStands st i v many t → InnerEnds st t
ends_by st t i e v many is came means counts stands = record {
  inner = i;
  ending = e;
  is = is;
  came = came;
  stands =
      subst (λ (x : Verdict). InnerStands st i x (is_too_many i (length st.inside)) t) (sym means)
      (subst (λ (b : Bool). InnerStands st i v b t) (sym counts) stands);
}

pub ends_says : (st t : Scan) (v : Verdict) (many : Bool) (s : InnerSays st v many) → InnerStands st s.inner v many t → InnerEnds st t
ends_says st t v many s stands = ends_by st t s.inner s.ending v many s.is s.came s.means s.counts stands

-- of the call that is there
pub says_of : (st : Scan) (i : Inner) (v : Verdict) (many : Bool) → InnerSays st v many → st.inner ≡ Some i → (e : Ending) × (i.ending ≡ Some e) × (judged i.source.rule i.attempt (Some e) ≡ v) × (is_too_many i (length st.inside) ≡ many)
says_of st i v many s is =
    let one : Some s.inner ≡ Some i = sym s.is ∙ is in
    let same : s.inner ≡ i = cc in
    (s.ending, sym (ap (λ j. j.ending) same) ∙ s.came, sym (ap (λ j. judged j.source.rule j.attempt (Some s.ending)) same) ∙ s.means, sym (ap (λ j. is_too_many j (length st.inside)) same) ∙ s.counts)

pub no_inner : (st : Scan) (v : Verdict) (many : Bool) → InnerSays st v many → st.inner ≡ None → ⊥
no_inner st v many s is = let x : Some s.inner ≡ None = sym s.is ∙ is in cc

-- ---- the parents call

pub outer_by : (table : TableDecl) (st t : Scan) (o : Outer) (e : Ending) (v : Verdict) → st.outer ≡ Some o → st.inner ≡ None → o.waiting ≡ [] → o.ending ≡ Some e → judged (outer_source table).rule o.attempt (Some e) ≡ v
    → OuterStands (outer_source table) st o v t → OuterEnds table st t
outer_by table st t o e v is closed walked came means stands = record {
  outer = o;
  ending = e;
  is = is;
  closed = closed;
  walked = walked;
  came = came;
  stands = subst (λ (x : Verdict). OuterStands (outer_source table) st o x t) (sym means) stands;
}

pub outer_ends : (table : TableDecl) (st t : Scan) (v : Verdict) (s : OuterSays (outer_source table) st v) → OuterStands (outer_source table) st s.outer v t → OuterEnds table st t
outer_ends table st t v s stands = outer_by table st t s.outer s.ending v s.is s.closed s.walked s.came s.means stands

pub outer_says : (source : Source) (st : Scan) (o : Outer) (v : Verdict) → OuterSays source st v → st.outer ≡ Some o → (e : Ending) × (o.ending ≡ Some e) × (judged source.rule o.attempt (Some e) ≡ v) × (o.waiting ≡ [])
outer_says source st o v s is =
    let one : Some s.outer ≡ Some o = sym s.is ∙ is in
    let same : s.outer ≡ o = cc in
    (s.ending, sym (ap (λ p. p.ending) same) ∙ s.came, sym (ap (λ p. judged source.rule p.attempt (Some s.ending)) same) ∙ s.means, sym (ap (λ p. p.waiting) same) ∙ s.walked)

pub no_outer : (source : Source) (st : Scan) (v : Verdict) → OuterSays source st v → st.outer ≡ None → ⊥
no_outer source st v s is = let x : Some s.outer ≡ None = sym s.is ∙ is in cc

-- ---- every item is decided

pub none_left : (n : ℕ) (xs : List Cell) → take n xs ≡ [] → drop n xs ≡ [] → xs ≡ []
none_left n xs front back = sym (take-append-drop n xs) ∙ ap (λ ys. ys ++ drop n xs) front ∙ back

pub none_closed : (n : ℕ) (xs : List Cell) → n ≡ length xs → take n xs ≡ [] → xs ≡ []
none_closed n xs is front = sym (take-length xs) ∙ ap (λ k. take k xs) (sym is) ∙ front

-- ---- results

pub ok_map : {X E : Type 0} (r : Result X E) (P Q : Type 0) → (P → Q) → OnOk r P → OnOk r Q
ok_map (Ok x) P Q f p = f p
ok_map (Err e) P Q f p = tt

pub err_map : {X E : Type 0} (r : Result X E) (P Q : Type 0) → (P → Q) → OnErr r P → OnErr r Q
err_map (Ok x) P Q f p = tt
err_map (Err e) P Q f p = f p

-- ---- options

pub none_of : {X : Type 0} (e : Option X) (r : Bool) → is_some e ≡ not r → r ≡ true → e ≡ None
none_of None r is holds = refl
none_of (Some x) true is holds = absurd (cc)
none_of (Some x) false is holds = absurd (cc)

pub no_items : {X : Type 0} (source : CallSource) (walk : WalkState) (c : Option (ItemsCall X)) → inner_view source walk c ≡ None → c ≡ None
no_items source walk None is = refl
no_items source walk (Some c) is = absurd (cc)
