-- The laws of the definitions.
use Rattle.std.proofs.Common.{◌≡◌, ◌+◌, ◌-◌, ◌<◌, ◌≤◌, ℕ, zero, suc, nat_lt, ◌&&◌, ◌||◌, Bool, true, false, if◌then◌else◌, List, [], ◌∷◌, ◌++◌, length, bytes_eq, Option, Some, None, is_some, refl, sym, ap, ◌∙◌, arith}
use Rattle.std.proofs.Math.Bool.{or-true}
use Rattle.std.proofs.lemmas.List.{append_assoc}
use Rattle.std.proofs.lemmas.Slice.Eq.{bytes_eq-Decides}
use Rattle.std.specs.List.{list_any}
use Rattle.sp_value.specs.Patterns.{fits_some}
use Rattle.sp_value.specs.declared.cell.Cell.{Cell}
use Rattle.sp_model.proofs.PlainLists.{any_there}
use Rattle.sp_model.specs.Calls.{needs_in}
use Rattle.sp_model.specs.Hydration.{results_of, with_result, with_results, find_function, depends_of, called, hydrated_in}
use Rattle.sp_model.specs.Laws.{CallHasAtMostItsAttempts, WholeCallIsSettled, IgnoredErrorKeepsItems, HydrationNeedsItsDependencies}
use Rattle.sp_model.specs.Settling.{Seen, whole, is_ignored, is_retried, attempts_of, Verdict, Accept, Again, Refuse, Open, judged, settled_by, settled_in}
use Rattle.sp_model.specs.Walk.{and_then, visit_all, ended, unsteady, walk_in}
use Rattle.sp_model.specs.declared.call.Ending.{Ending}
use Rattle.sp_model.specs.declared.call.Ending.TheVariants.{End, Error}
use Rattle.sp_model.specs.declared.call.Reply.{Reply}
use Rattle.sp_model.specs.declared.declaration.FunctionDecl.{FunctionDecl}
use Rattle.sp_model.specs.declared.declaration.Retry.{Retry}
use Rattle.sp_model.specs.declared.declaration.Rule.{Rule}
use Rattle.sp_model.specs.declared.outcome.Outcome.{Outcome}
use Rattle.sp_model.specs.declared.outcome.Results.{Results}
use Rattle.sp_model.specs.declared.outcome.Results.TheVariants.{Given, Missed, Pending}
use Rattle.sp_model.specs.declared.outcome.Settled.{Settled}

-- ---- attempts

same_in : (rule : Rule) (replies others : ℕ → Seen) (n a : ℕ) → ((b : ℕ) → b < a + n → replies b ≡ others b) → settled_in n rule replies a ≡ settled_in n rule others a
same_in rule replies others zero a h = refl
same_in rule replies others (suc n) a h =
    let later : settled_in n rule replies (suc a) ≡ settled_in n rule others (suc a) = same_in rule replies others n (suc a) (λ b l. h b (omega arith)) in
    ap (λ s. settled_by (judged rule a s.ending) s.items a (settled_in n rule replies (suc a))) (h a (omega arith))
    ∙ ap (λ o. settled_by (judged rule a (others a).ending) (others a).items a o) later

pub at_most : CallHasAtMostItsAttempts
at_most rule replies others one h = same_in rule replies others (suc (attempts_of rule.retry - 1)) 1 (λ b l. h b (omega arith))

right : (a b : Bool) → (a && b) ≡ true → b ≡ true
right a b h = grind arith

retried_below : (retry : Option Retry) (a : ℕ) (text : List ℕ) → is_retried retry a text ≡ true → a < attempts_of retry
retried_below None a text h = grind arith
retried_below (Some r) a text h = let e : nat_lt a r.attempts ≡ true = right (fits_some r.patterns text) (nat_lt a r.attempts) h in grind (arith, e)

abbrev chosen : Bool → Bool → List ℕ → Verdict
chosen ignored retried text = if ignored then Accept else (if retried then Again else Refuse text)

never_open : (ignored retried : Bool) (text : List ℕ) → chosen ignored retried text ≡ Open → ⊥
never_open true retried text h = cc
never_open false true text h = cc
never_open false false text h = cc

again_retried : (ignored retried : Bool) (text : List ℕ) → chosen ignored retried text ≡ Again → retried ≡ true
again_retried true retried text h = cc
again_retried false true text h = refl
again_retried false false text h = cc

known : (rule : Rule) (a : ℕ) (e : Ending) → judged rule a (Some e) ≡ Open → ⊥
known rule a End h = cc
known rule a (Error text) h = never_open (is_ignored rule.ignore text) (is_retried rule.retry a text) text h

pub again_below : (rule : Rule) (a : ℕ) (e : Ending) → judged rule a (Some e) ≡ Again → a < attempts_of rule.retry
again_below rule a End h = cc
again_below rule a (Error text) h = retried_below rule.retry a text (again_retried (is_ignored rule.ignore text) (is_retried rule.retry a text) text h)

by_some : (v : Verdict) (items : List Cell) (a : ℕ) (again : Option Settled) → (v ≡ Open → ⊥) → (v ≡ Again → is_some again ≡ true) → is_some (settled_by v items a again) ≡ true
by_some Accept items a again open_not h = refl
by_some Again items a again open_not h = h refl
by_some (Refuse text) items a again open_not h = refl
by_some Open items a again open_not h = absurd (open_not refl)

some_in : (rule : Rule) (replies : ℕ → Reply) (n a : ℕ) → attempts_of rule.retry ≤ n + a → is_some (settled_in (suc n) rule (λ b. whole (replies b)) a) ≡ true
some_in rule replies zero a h =
    by_some (judged rule a (Some (replies a).ending)) (replies a).items a None (known rule a (replies a).ending)
    (λ again. let below : a < attempts_of rule.retry = again_below rule a (replies a).ending again in absurd (omega arith))
some_in rule replies (suc n) a h =
    by_some (judged rule a (Some (replies a).ending)) (replies a).items a (settled_in (suc n) rule (λ b. whole (replies b)) (suc a)) (known rule a (replies a).ending)
    (λ again. some_in rule replies n (suc a) (omega arith))

pub whole_settles : WholeCallIsSettled
whole_settles rule replies = some_in rule replies (attempts_of rule.retry - 1) 1 (omega arith)

pub ignored_keeps : IgnoredErrorKeepsItems
ignored_keeps visit source replies s text e h =
    let accepts : judged source.rule 1 (replies 1).ending ≡ Accept = ap (λ o. judged source.rule 1 o) e ∙ (rw h refl) in
    ap (λ v. and_then (visit_all visit (replies 1).items s)
    (λ t. ended source 1 v (length (replies 1).items) t (walk_in (attempts_of source.rule.retry - 1) visit source replies 2 (unsteady s)))) accepts

-- ---- functions

found_if : (name : List ℕ) (g f : FunctionDecl) (rest : Option FunctionDecl) (b : Bool) → bytes_eq g.name name ≡ b → (if b then Some g else rest) ≡ Some f → (rest ≡ Some f → f.name ≡ name) → f.name ≡ name
found_if name g f rest true e h later =
    let same : g ≡ f = cc in
    ap (λ k. k.name) (sym same) ∙ (bytes_eq-Decides g.name name).0 e
found_if name g f rest false e h later = later h

-- a function that is found has the name
pub found_name : (name : List ℕ) (fs : List FunctionDecl) (f : FunctionDecl) → find_function name fs ≡ Some f → f.name ≡ name
found_name name [] f h = cc
found_name name (g ∷ gs) f h = found_if name g f (find_function name gs) (bytes_eq g.name name) refl h (found_name name gs f)

abbrev Gives : Type 0
Gives = List ℕ → Option Outcome

abbrev EachSame : Gives → Gives → List (List ℕ) → Type 0
EachSame gives others [] = Unit {0}
EachSame gives others (d ∷ ds) = (gives d ≡ others d) × EachSame gives others ds

results_same : (gives others : Gives) (ds : List (List ℕ)) → EachSame gives others ds → results_of gives ds ≡ results_of others ds
results_same gives others [] h = refl
results_same gives others (d ∷ ds) h = ap (λ o. with_result d o (results_of gives ds)) h.0 ∙ ap (λ r. with_result d (others d) r) (results_same gives others ds h.1)

abbrev Call : Type 0
Call = FunctionDecl → List (List ℕ × Cell) → Option Outcome

call_same : (r : Results) (f : FunctionDecl) (call other : Call) → ((results : List (List ℕ × Cell)) → call f results ≡ other f results) → with_results r (call f) ≡ with_results r (other f)
call_same (Given results) f call other h = h results
call_same (Missed cause) f call other h = refl
call_same Pending f call other h = refl

module _ (functions : List FunctionDecl) (call other : Call) where
  abbrev Same : ℕ → List ℕ → Type 0
  Same n name = ((f : FunctionDecl) → needs_in n functions f.name name ≡ true → (results : List (List ℕ × Cell)) → call f results ≡ other f results)
      → hydrated_in n functions call name ≡ hydrated_in n functions other name

  each_same : (n : ℕ) (name : List ℕ) → ((d : List ℕ) → Same n d) → ((f : FunctionDecl) → needs_in (suc n) functions f.name name ≡ true → (results : List (List ℕ × Cell)) → call f results ≡ other f results)
      → (before ds : List (List ℕ)) → depends_of (find_function name functions) ≡ before ++ ds → EachSame (hydrated_in n functions call) (hydrated_in n functions other) ds
  each_same n name below h before [] e = tt
  each_same n name below h before (d ∷ ds) e = (
    below d (λ f need results. h f
        (ap (λ l. bytes_eq name f.name || list_any (λ g. needs_in n functions f.name g) l) e
        ∙ ap (λ b. bytes_eq name f.name || b) (any_there (λ g. needs_in n functions f.name g) before d ds need) ∙ or-true (bytes_eq name f.name)) results),
    each_same n name below h (before ++ d ∷ []) ds (e ∙ sym (append_assoc before (d ∷ []) ds)),
  )

  called_same : (n : ℕ) (name : List ℕ) → ((d : List ℕ) → Same n d) → ((f : FunctionDecl) → needs_in (suc n) functions f.name name ≡ true → (results : List (List ℕ × Cell)) → call f results ≡ other f results)
      → (o : Option FunctionDecl) → find_function name functions ≡ o → called call (hydrated_in n functions call) o ≡ called other (hydrated_in n functions other) o
  called_same n name below h None e = refl
  called_same n name below h (Some f) e =
      let own : bytes_eq name f.name ≡ true = (bytes_eq-Decides name f.name).1 (sym (found_name name functions f e)) in
      let mine : needs_in (suc n) functions f.name name ≡ true = ap (λ b. b || list_any (λ g. needs_in n functions f.name g) (depends_of (find_function name functions))) own in
      ap (λ r. with_results r (call f)) (results_same (hydrated_in n functions call) (hydrated_in n functions other) f.depends (each_same n name below h [] f.depends (ap depends_of e)))
      ∙ call_same (results_of (hydrated_in n functions other) f.depends) f call other (h f mine)

  same_at : (n : ℕ) (name : List ℕ) → Same n name
  same_at zero name h = refl
  same_at (suc n) name h = called_same n name (same_at n) h (find_function name functions) refl

pub needs_dependencies : HydrationNeedsItsDependencies
needs_dependencies functions call other name h = same_at functions call other (length functions) name h
