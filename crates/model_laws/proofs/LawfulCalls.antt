-- The calls of a lawful scan are lawful.
use Rattle.std.proofs.Common.{◌≡◌, ℕ, zero, suc, ◌-◌, ◌<◌, ◌≤◌, nat_le, Bool, true, false, ◌&&◌, ◌||◌, not, List, [], ◌∷◌, ◌++◌, map, filter, Option, Some, None, is_some, is_none, cond, if◌then◌else◌, bytes_eq, refl, sym, ap, subst, ◌∙◌, arith}
use Rattle.std.proofs.lemmas.Bool.{false≢true, and_from, leb-true, le-leb, or_right, or_parts, not-true}
use Rattle.std.proofs.lemmas.List.Folds.{list_all-append}
use Rattle.std.proofs.lemmas.Map.Lookups.{exact_bytes}
use Rattle.std.specs.Cmp.Lexicographic.{slice_cmp}
use Rattle.std.specs.List.{list_all}
use Rattle.std.specs.Ordering.{nat_cmp, match_ordering}
use Rattle.std.specs.declared.cmp.Ordering.{Ordering}
use Rattle.std.specs.declared.cmp.Ordering.TheVariants.{Less, Equal, Greater}
use Rattle.sp_value.specs.Names.{names_of}
use Rattle.sp_value.specs.declared.cell.Cell.{Cell}
use Rattle.sp_model.specs.Names.{are_distinct}
use Rattle.sp_model.proofs.PlainLists.{any_there}
use Rattle.sp_model.specs.Calls.{used, reach, is_lawful, is_attempt, fit_keys, are_results_of, same_presence, is_lawful_list, is_lawful_parents, is_lawful_get, is_lawful_hydrate, is_lawful_by, is_wanted, decides_columns, on_again, attempts_in, calls_with, calls_of, used_item, reach_item, on_going, calls_all, calls_in, calls_of_walk, child_call, calls_by, pass_item, pass_parent}
use Rattle.sp_model.specs.Hydration.{put_under, with_result, results_of, find_function, hydrated, names_of_functions}
use Rattle.sp_model.specs.Keys.{is_equality}
use Rattle.sp_model.specs.RowOf.{has_name, columns_named}
use Rattle.sp_model.specs.Settling.{Seen, Answers, rule_of, attempts_of, Verdict, Accept, Again, Refuse, Open, judged}
use Rattle.sp_model.specs.Units.{flat_map}
use Rattle.sp_model.specs.Walk.{start, visit_all, visit_item, visit_parent, unsteady, Source, list_source, get_source, parent_source, parent_of}
use Rattle.sp_model.specs.declared.call.Call.{Call}
use Rattle.sp_model.specs.declared.call.Call.TheVariants as call
use Rattle.sp_model.specs.declared.call.Ending.{Ending}
use Rattle.sp_model.specs.declared.declaration.AccessDecl.{AccessDecl}
use Rattle.sp_model.specs.declared.declaration.FunctionDecl.{FunctionDecl}
use Rattle.sp_model.specs.declared.declaration.GetDecl.{GetDecl}
use Rattle.sp_model.specs.declared.declaration.ListDecl.{ListDecl}
use Rattle.sp_model.specs.declared.declaration.Retry.{Retry}
use Rattle.sp_model.specs.declared.declaration.TableDecl.{TableDecl}
use Rattle.sp_model.specs.declared.outcome.Outcome.{Outcome}
use Rattle.sp_model.specs.declared.outcome.Outcome.TheVariants.{Gave, Fails}
use Rattle.sp_model.specs.declared.outcome.Results.{Results}
use Rattle.sp_model.specs.declared.outcome.Results.TheVariants.{Given, Missed, Pending}
use Rattle.sp_model.specs.declared.outcome.Walk.{Walk}
use Rattle.sp_model.specs.declared.outcome.Walk.TheVariants.{Going, Full, Failed, Waiting}
use Rattle.sp_model.specs.declared.outcome.WalkState.{WalkState}
use Rattle.sp_model.specs.declared.scan.Access.{Access}
use Rattle.sp_model.specs.declared.scan.Access.TheVariants.{Get, List as OfList, Parents}
use Rattle.sp_model.specs.declared.scan.ScanRequest.{ScanRequest}
use Rattle.model_laws.specs.LawfulScans.{are_lawful, has_attempts, is_lawful_get_scan, is_lawful_list_scan, has_parent_attempts, is_lawful_parents_scan, is_lawful_access, LawfulScanMakesLawfulCalls}
use Rattle.model_laws.proofs.FewerColumns.{bytes_itself}
use Rattle.model_laws.proofs.Merging.{left, right}
use Rattle.model_laws.proofs.Whole.{Means, ending_means}

-- ---- the names of results

abbrev Results_of : Type 0
Results_of = List (List ℕ × Cell)

put_has_by : (name : List ℕ) (x : Cell) (m : List ℕ × Cell) (ms rest : Results_of) (o : Ordering) → slice_cmp nat_cmp name m.0 ≡ o → has_name (names_of rest) name ≡ true
    → has_name (names_of (match_ordering o ((name, x) ∷ m ∷ ms) ((name, x) ∷ ms) (m ∷ rest))) name ≡ true
put_has_by name x m ms rest Less e h = ap (λ b. b || has_name (names_of (m ∷ ms)) name) (bytes_itself name)
put_has_by name x m ms rest Equal e h = ap (λ b. b || has_name (names_of ms) name) (bytes_itself name)
put_has_by name x m ms rest Greater e h = or_right (bytes_eq name m.0) (has_name (names_of rest) name) h

put_has : (name : List ℕ) (x : Cell) (ms : Results_of) → has_name (names_of (put_under name x ms)) name ≡ true
put_has name x [] = ap (λ b. b || false) (bytes_itself name)
put_has name x (m ∷ ms) = put_has_by name x m ms (put_under name x ms) (slice_cmp nat_cmp name m.0) refl (put_has name x ms)

keep_right : (a b c : Bool) → (b ≡ true → c ≡ true) → (a || b) ≡ true → (a || c) ≡ true
keep_right true b c f h = refl
keep_right false b c f h = f h

put_keeps_by : (name : List ℕ) (x : Cell) (m : List ℕ × Cell) (ms rest : Results_of) (other : List ℕ) (o : Ordering) → slice_cmp nat_cmp name m.0 ≡ o → has_name (names_of (m ∷ ms)) other ≡ true
    → (has_name (names_of ms) other ≡ true → has_name (names_of rest) other ≡ true) → has_name (names_of (match_ordering o ((name, x) ∷ m ∷ ms) ((name, x) ∷ ms) (m ∷ rest))) other ≡ true
put_keeps_by name x m ms rest other Less e h f = or_right (bytes_eq other name) (has_name (names_of (m ∷ ms)) other) h
put_keeps_by name x m ms rest other Equal e h f = subst (λ n. (bytes_eq other n || has_name (names_of ms) other) ≡ true) (sym (exact_bytes name m.0 e)) h
put_keeps_by name x m ms rest other Greater e h f = keep_right (bytes_eq other m.0) (has_name (names_of ms) other) (has_name (names_of rest) other) f h

put_keeps : (name : List ℕ) (x : Cell) (ms : Results_of) (other : List ℕ) → has_name (names_of ms) other ≡ true → has_name (names_of (put_under name x ms)) other ≡ true
put_keeps name x [] other h = absurd (false≢true h)
put_keeps name x (m ∷ ms) other h = put_keeps_by name x m ms (put_under name x ms) other (slice_cmp nat_cmp name m.0) refl h (put_keeps name x ms other)

put_only_by : (p : List ℕ → Bool) (name : List ℕ) (x : Cell) (m : List ℕ × Cell) (ms rest : Results_of) (o : Ordering) → p name ≡ true → list_all p (names_of (m ∷ ms)) ≡ true → list_all p (names_of rest) ≡ true
    → list_all p (names_of (match_ordering o ((name, x) ∷ m ∷ ms) ((name, x) ∷ ms) (m ∷ rest))) ≡ true
put_only_by p name x m ms rest Less h k r = and_from (p name) (list_all p (names_of (m ∷ ms))) h k
put_only_by p name x m ms rest Equal h k r = and_from (p name) (list_all p (names_of ms)) h (right (p m.0) (list_all p (names_of ms)) k)
put_only_by p name x m ms rest Greater h k r = and_from (p m.0) (list_all p (names_of rest)) (left (p m.0) (list_all p (names_of ms)) k) r

put_only : (p : List ℕ → Bool) (name : List ℕ) (x : Cell) (ms : Results_of) → p name ≡ true → list_all p (names_of ms) ≡ true → list_all p (names_of (put_under name x ms)) ≡ true
put_only p name x [] h k = and_from (p name) true h refl
put_only p name x (m ∷ ms) h k = put_only_by p name x m ms (put_under name x ms) (slice_cmp nat_cmp name m.0) h k (put_only p name x ms h (right (p m.0) (list_all p (names_of ms)) k))

record Parts (name : List ℕ) (o : Option Outcome) (rest : Results) (results : Results_of) : Type 0 where
  x : Cell
  later : Results_of
  rest_is : rest ≡ Given later
  is : put_under name x later ≡ results

parts_of : (name : List ℕ) (o : Option Outcome) (rest : Results) (results : Results_of) → with_result name o rest ≡ Given results → Parts name o rest results
parts_of name None rest results h = let no : ⊥ = cc in absurd no
parts_of name (Some (Fails cause)) rest results h = let no : ⊥ = cc in absurd no
parts_of name (Some (Gave x)) (Given later) results h = let is : put_under name x later ≡ results = cc in record { x = x; later = later; rest_is = refl; is = is }
parts_of name (Some (Gave x)) (Missed cause) results h = let no : ⊥ = cc in absurd no
parts_of name (Some (Gave x)) Pending results h = let no : ⊥ = cc in absurd no

all_weaker : {X : Type 0} (p q : X → Bool) → ((x : X) → p x ≡ true → q x ≡ true) → (xs : List X) → list_all p xs ≡ true → list_all q xs ≡ true
all_weaker p q f [] h = refl
all_weaker p q f (x ∷ xs) h = and_from (q x) (list_all q xs) (f x (left (p x) (list_all p xs) h)) (all_weaker p q f xs (right (p x) (list_all p xs) h))

-- each dependency has a result
pub results_all : (gives : List ℕ → Option Outcome) (names : List (List ℕ)) (results : Results_of) → results_of gives names ≡ Given results → list_all (has_name (names_of results)) names ≡ true
results_all gives [] results h = refl
results_all gives (n ∷ ns) results h =
    let p : Parts n (gives n) (results_of gives ns) results = parts_of n (gives n) (results_of gives ns) results h in
    subst (λ rs. list_all (has_name (names_of rs)) (n ∷ ns) ≡ true) p.is
    (and_from (has_name (names_of (put_under n p.x p.later)) n) (list_all (has_name (names_of (put_under n p.x p.later))) ns) (put_has n p.x p.later)
    (all_weaker (has_name (names_of p.later)) (has_name (names_of (put_under n p.x p.later))) (put_keeps n p.x p.later) ns (results_all gives ns p.later p.rest_is)))

-- and there is no other result
pub results_only : (gives : List ℕ → Option Outcome) (names : List (List ℕ)) (results : Results_of) → results_of gives names ≡ Given results → list_all (has_name names) (names_of results) ≡ true
results_only gives [] results h = let is : [] ≡ results = cc in subst (λ rs. list_all (has_name []) (names_of rs) ≡ true) is refl
results_only gives (n ∷ ns) results h =
    let p : Parts n (gives n) (results_of gives ns) results = parts_of n (gives n) (results_of gives ns) results h in
    subst (λ rs. list_all (has_name (n ∷ ns)) (names_of rs) ≡ true) p.is
    (put_only (has_name (n ∷ ns)) n p.x p.later (ap (λ b. b || has_name ns n) (bytes_itself n))
    (all_weaker (has_name ns) (has_name (n ∷ ns)) (λ x k. or_right (bytes_eq x n) (has_name ns x) k) (names_of p.later) (results_only gives ns p.later p.rest_is)))

-- ---- attempts

abbrev Calls : Type 0
Calls = List (Call × ℕ)

module _ (table : TableDecl) (ignore : Option (List (List ℕ))) (retry : Option Retry) where
  abbrev attempts : ℕ
  attempts = attempts_of (rule_of table ignore retry).retry

  attempt_is : (attempt : ℕ) → 1 ≤ attempt → attempt ≤ attempts → is_attempt table ignore retry attempt ≡ true
  attempt_is attempt one most = and_from (nat_le 1 attempt) (nat_le attempt attempts) (le-leb 1 attempt one) (le-leb attempt attempts most)

  -- what comes after an attempt comes below the rule's number
  again_by : {X : Type 0} (p : X → Bool) (v : Verdict) (later : List X) (attempt : ℕ) → Means attempt attempts v → (attempt < attempts → list_all p later ≡ true) → list_all p (on_again v later) ≡ true
  again_by p Accept later attempt m f = refl
  again_by p Again later attempt m f = f m
  again_by p (Refuse text) later attempt m f = refl
  again_by p Open later attempt m f = refl

  pub again_list : {X : Type 0} (p : X → Bool) (e : Option Ending) (later : List X) (attempt : ℕ) → (attempt < attempts → list_all p later ≡ true)
      → list_all p (on_again (judged (rule_of table ignore retry) attempt e) later) ≡ true
  again_list p None later attempt f = refl
  again_list p (Some e) later attempt f = again_by p (judged (rule_of table ignore retry) attempt (Some e)) later attempt (ending_means (rule_of table ignore retry) attempt e) f

  attempts_lawful : (n : ℕ) (replies : ℕ → Seen) (attempt : ℕ) → 1 ≤ attempt → attempt ≤ attempts → list_all (is_attempt table ignore retry) (attempts_in n ignore table retry replies attempt) ≡ true
  attempts_lawful zero replies attempt one most = refl
  attempts_lawful (suc n) replies attempt one most =
      let later : List ℕ = attempts_in n ignore table retry replies (suc attempt) in
      let v : Verdict = judged (rule_of table ignore retry) attempt (replies attempt).ending in
      and_from (is_attempt table ignore retry attempt) (list_all (is_attempt table ignore retry) (on_again v later)) (attempt_is attempt one most)
      (again_list (is_attempt table ignore retry) (replies attempt).ending later attempt (λ below. attempts_lawful n replies (suc attempt) (omega arith) (omega arith)))

all_map : {X Y : Type 0} (p : Y → Bool) (q : X → Bool) (g : X → Y) → ((x : X) → q x ≡ true → p (g x) ≡ true) → (xs : List X) → list_all q xs ≡ true → list_all p (map g xs) ≡ true
all_map p q g f [] h = refl
all_map p q g f (x ∷ xs) h = and_from (p (g x)) (list_all p (map g xs)) (f x (left (q x) (list_all q xs) h)) (all_map p q g f xs (right (q x) (list_all q xs) h))

all_flat : {X Y : Type 0} (p : Y → Bool) (q : X → Bool) (g : X → List Y) → ((x : X) → q x ≡ true → list_all p (g x) ≡ true) → (xs : List X) → list_all q xs ≡ true → list_all p (flat_map g xs) ≡ true
all_flat p q g f [] h = refl
all_flat p q g f (x ∷ xs) h =
    list_all-append p (g x) (flat_map g xs) ∙ and_from (list_all p (g x)) (list_all p (flat_map g xs)) (f x (left (q x) (list_all q xs) h)) (all_flat p q g f xs (right (q x) (list_all q xs) h))

-- ---- functions

find_past : (g : FunctionDecl) (gs : List FunctionDecl) (name : List ℕ) → bytes_eq g.name name ≡ false → find_function name (g ∷ gs) ≡ find_function name gs
find_past g gs name e = ap (λ b. if b then Some g else find_function name gs) e

find_first : (f : FunctionDecl) (fs : List FunctionDecl) → find_function f.name (f ∷ fs) ≡ Some f
find_first f fs = ap (λ b. if b then Some f else find_function f.name fs) (bytes_itself f.name)

module _ (table : TableDecl) (answers : Answers) where
  abbrev lawful : Call × ℕ → Bool
  lawful one = is_lawful_by table one.0 one.1

  abbrev attempted : FunctionDecl → Bool
  attempted f = has_attempts table f.ignore f.retry

  with_lawful : (item : Cell) (f : FunctionDecl) (gives : List ℕ → Option Outcome) (r : Results) → results_of gives f.depends ≡ r → find_function f.name table.functions ≡ Some f → attempted f ≡ true
      → list_all lawful (calls_with table answers item f r) ≡ true
  with_lawful item f gives (Given results) e found h =
      let asked : Call = call.Hydrate table.name f.name item results in
      let are : are_results_of f.depends results ≡ true =
      and_from (list_all (has_name (names_of results)) f.depends) (list_all (has_name f.depends) (names_of results)) (results_all gives f.depends results e) (results_only gives f.depends results e) in
      let n : ℕ = attempts_of (rule_of table f.ignore f.retry).retry in
      let some : 1 ≤ n = leb-true 1 n h in
      all_map lawful (is_attempt table f.ignore f.retry) (λ attempt. (asked, attempt))
      (λ attempt k. and_from (bytes_eq table.name table.name) (is_lawful_hydrate table results attempt (find_function f.name table.functions)) (bytes_itself table.name)
      (ap (is_lawful_hydrate table results attempt) found ∙ and_from (is_attempt table f.ignore f.retry attempt) (are_results_of f.depends results) k are))
      (attempts_in (suc (n - 1)) f.ignore table f.retry (answers asked) 1) (attempts_lawful table f.ignore f.retry (suc (n - 1)) (answers asked) 1 (omega arith) some)
  with_lawful item f gives (Missed cause) e found h = refl
  with_lawful item f gives Pending e found h = refl

  -- each of these is found under its name, and has attempts
  abbrev EachReady : List FunctionDecl → List FunctionDecl → Type 0
  EachReady functions [] = Unit {0}
  EachReady functions (f ∷ fs) = (find_function f.name functions ≡ Some f) × (attempted f ≡ true) × EachReady functions fs

  functions_lawful : (item : Cell) (test : FunctionDecl → Bool) (fs : List FunctionDecl) → EachReady table.functions fs → list_all lawful (flat_map (calls_of table answers item) (filter test fs)) ≡ true
  functions_lawful item test [] h = refl
  functions_lawful item test (f ∷ fs) h =
      let later : list_all lawful (flat_map (calls_of table answers item) (filter test fs)) ≡ true = functions_lawful item test fs h.2 in
      let here : list_all lawful (calls_of table answers item f) ≡ true = with_lawful item f (hydrated table answers item) (results_of (hydrated table answers item) f.depends) refl h.0 h.1 in
      elim (test f) as (λ b. list_all lawful (flat_map (calls_of table answers item) (cond b (f ∷ filter test fs) (filter test fs))) ≡ true) [
        | true ↦ list_all-append lawful (calls_of table answers item f) (flat_map (calls_of table answers item) (filter test fs))
            ∙ and_from (list_all lawful (calls_of table answers item f)) (list_all lawful (flat_map (calls_of table answers item) (filter test fs))) here later
        | false ↦ later
      ]

  ready_past : (g : FunctionDecl) (gs fs : List FunctionDecl) → has_name (names_of_functions fs) g.name ≡ false → EachReady gs fs → EachReady (g ∷ gs) fs
  ready_past g gs [] h r = tt
  ready_past g gs (f ∷ fs) h r =
      (find_past g gs f.name (or_parts (bytes_eq g.name f.name) (has_name (names_of_functions fs) g.name) h).0 ∙ r.0, r.1, ready_past g gs fs (or_parts (bytes_eq g.name f.name) (has_name (names_of_functions fs) g.name) h).1 r.2)

  all_ready : (fs : List FunctionDecl) → are_distinct (names_of_functions fs) ≡ true → list_all attempted fs ≡ true → EachReady fs fs
  all_ready [] d h = tt
  all_ready (f ∷ fs) d h = (
    find_first f fs,
    left (attempted f) (list_all attempted fs) h,
    ready_past f fs fs (not-true (has_name (names_of_functions fs) f.name) (left (not (has_name (names_of_functions fs) f.name)) (are_distinct (names_of_functions fs)) d))
        (all_ready fs (right (not (has_name (names_of_functions fs) f.name)) (are_distinct (names_of_functions fs)) d) (right (attempted f) (list_all attempted fs) h)),
  )

  -- ---- walks

  going_lawful : (w : Walk) (more : WalkState → Calls) → ((s : WalkState) → list_all lawful (more s) ≡ true) → list_all lawful (on_going w more) ≡ true
  going_lawful (Going s) more f = f s
  going_lawful (Full s) more f = refl
  going_lawful (Failed row column cause) more f = refl
  going_lawful Waiting more f = refl

  both_lawful : (a b : Calls) → list_all lawful a ≡ true → list_all lawful b ≡ true → list_all lawful (a ++ b) ≡ true
  both_lawful a b h k = list_all-append lawful a b ∙ and_from (list_all lawful a) (list_all lawful b) h k

  module _ (visit : Cell → WalkState → Walk) (calls : Cell → WalkState → Calls) (each : (item : Cell) (s : WalkState) → list_all lawful (calls item s) ≡ true) where
    all_lawful : (items : List Cell) (s : WalkState) → list_all lawful (calls_all visit calls items s) ≡ true
    all_lawful [] s = refl
    all_lawful (item ∷ items) s =
        both_lawful (calls item s) (on_going (visit item s) (λ t. calls_all visit calls items t)) (each item s)
        (going_lawful (visit item s) (λ t. calls_all visit calls items t) (λ t. all_lawful items t))

    walk_lawful_in : (ignore : Option (List (List ℕ))) (retry : Option Retry) (source : Source) (asked : Call) (replies : ℕ → Seen) → source.rule ≡ rule_of table ignore retry
        → ((attempt : ℕ) → is_attempt table ignore retry attempt ≡ true → lawful (asked, attempt) ≡ true) → (n attempt : ℕ) (s : WalkState) → 1 ≤ attempt → attempt ≤ attempts table ignore retry
        → list_all lawful (calls_in n visit calls source asked replies attempt s) ≡ true
    walk_lawful_in ignore retry source asked replies rule f zero attempt s one most = refl
    walk_lawful_in ignore retry source asked replies rule f (suc n) attempt s one most =
        let items : List Cell = (replies attempt).items in
        let later : Calls = calls_in n visit calls source asked replies (suc attempt) (unsteady s) in
        let after : list_all lawful (on_again (judged (rule_of table ignore retry) attempt (replies attempt).ending) later) ≡ true =
        again_list table ignore retry lawful (replies attempt).ending later attempt (λ below. walk_lawful_in ignore retry source asked replies rule f n (suc attempt) (unsteady s) (omega arith) (omega arith)) in
        let again : list_all lawful (on_again (judged source.rule attempt (replies attempt).ending) later) ≡ true =
        subst (λ r. list_all lawful (on_again (judged r attempt (replies attempt).ending) later) ≡ true) (sym rule) after in
        both_lawful ((asked, attempt) ∷ calls_all visit calls items s)
        (on_going (visit_all visit items s) (λ t. on_again (judged source.rule attempt (replies attempt).ending) later))
        (and_from (lawful (asked, attempt)) (list_all lawful (calls_all visit calls items s)) (f attempt (attempt_is table ignore retry attempt one most)) (all_lawful items s))
        (going_lawful (visit_all visit items s) (λ t. on_again (judged source.rule attempt (replies attempt).ending) later) (λ t. again))

    walk_lawful : (ignore : Option (List (List ℕ))) (retry : Option Retry) (source : Source) (asked : Call) → source.rule ≡ rule_of table ignore retry → has_attempts table ignore retry ≡ true
        → ((attempt : ℕ) → is_attempt table ignore retry attempt ≡ true → lawful (asked, attempt) ≡ true) → (s : WalkState) → list_all lawful (calls_of_walk visit calls source asked answers s) ≡ true
    walk_lawful ignore retry source asked rule h f s =
        walk_lawful_in ignore retry source asked (answers asked) rule f (suc (attempts_of source.rule.retry - 1)) 1 s (omega arith) (leb-true 1 (attempts table ignore retry) h)

  -- ---- scans

  module _ (request : ScanRequest) (visit : Cell → WalkState → Walk) (calls : Cell → WalkState → Calls) (walk_child : Cell → WalkState → Walk) (each : (item : Cell) (s : WalkState) → list_all lawful (calls item s) ≡ true) where
    get_lawful : (o : Option GetDecl) → table.get ≡ o → is_lawful_get_scan table request.conditions o ≡ true
        → list_all lawful (calls_of_walk visit calls (get_source table o) (call.Get table.name request.conditions) answers start) ≡ true
    get_lawful None e h = absurd (false≢true h)
    get_lawful (Some d) e h =
        let fits : (has_attempts table d.ignore d.retry && fit_keys d.keys request.conditions) ≡ true = left (has_attempts table d.ignore d.retry && fit_keys d.keys request.conditions) (list_all is_equality request.conditions) h in
        walk_lawful visit calls each d.ignore d.retry (get_source table (Some d)) (call.Get table.name request.conditions) refl (left (has_attempts table d.ignore d.retry) (fit_keys d.keys request.conditions) fits)
        (λ attempt k. and_from (bytes_eq table.name table.name) (is_lawful_get table request.conditions attempt table.get) (bytes_itself table.name)
        (ap (is_lawful_get table request.conditions attempt) e
        ∙ and_from (is_attempt table d.ignore d.retry attempt && fit_keys d.keys request.conditions) (list_all is_equality request.conditions)
        (and_from (is_attempt table d.ignore d.retry attempt) (fit_keys d.keys request.conditions) k (right (has_attempts table d.ignore d.retry) (fit_keys d.keys request.conditions) fits))
        (right (has_attempts table d.ignore d.retry && fit_keys d.keys request.conditions) (list_all is_equality request.conditions) h)))
        start

    -- the list call of a declared list, with a parent exactly where one is declared
    list_lawful : (d : ListDecl) (parent : Option Cell) (s : WalkState) → table.list ≡ Some d → has_attempts table d.ignore d.retry ≡ true → fit_keys d.keys request.conditions ≡ true
        → same_presence (is_some parent) (is_some d.parent) ≡ true
        → list_all lawful (calls_of_walk visit calls (list_source table table.list) (call.List table.name request.conditions parent) answers s) ≡ true
    list_lawful d parent s e h fits presence =
        walk_lawful visit calls each d.ignore d.retry (list_source table table.list) (call.List table.name request.conditions parent) (ap (λ o. (list_source table o).rule) e) h
        (λ attempt k. and_from (bytes_eq table.name table.name) (is_lawful_list table request.conditions parent attempt table.list) (bytes_itself table.name)
        (ap (is_lawful_list table request.conditions parent attempt) e
        ∙ and_from (is_attempt table d.ignore d.retry attempt && fit_keys d.keys request.conditions) (same_presence (is_some parent) (is_some d.parent))
        (and_from (is_attempt table d.ignore d.retry attempt) (fit_keys d.keys request.conditions) k fits) presence))
        s

    none_absent : (o : Option AccessDecl) → is_none o ≡ true → same_presence false (is_some o) ≡ true
    none_absent None h = refl
    none_absent (Some a) h = absurd (false≢true h)

    some_present : (o : Option AccessDecl) → has_parent_attempts table o ≡ true → same_presence true (is_some o) ≡ true
    some_present None h = absurd (false≢true h)
    some_present (Some a) h = refl

    plain_list_lawful : (o : Option ListDecl) → table.list ≡ o → is_lawful_list_scan table request.conditions o ≡ true
        → list_all lawful (calls_of_walk visit calls (list_source table table.list) (call.List table.name request.conditions None) answers start) ≡ true
    plain_list_lawful None e h = absurd (false≢true h)
    plain_list_lawful (Some d) e h =
        let fits : (has_attempts table d.ignore d.retry && fit_keys d.keys request.conditions) ≡ true = left (has_attempts table d.ignore d.retry && fit_keys d.keys request.conditions) (is_none d.parent) h in
        list_lawful d None start e (left (has_attempts table d.ignore d.retry) (fit_keys d.keys request.conditions) fits) (right (has_attempts table d.ignore d.retry) (fit_keys d.keys request.conditions) fits)
        (none_absent d.parent (right (has_attempts table d.ignore d.retry && fit_keys d.keys request.conditions) (is_none d.parent) h))

    abbrev child_calls : Cell → WalkState → Calls
    child_calls parent s = calls_of_walk visit calls (list_source table table.list) (child_call table request parent) answers s

    parent_lawful : (o : Option AccessDecl) → parent_of table.list ≡ o → has_parent_attempts table o ≡ true → ((parent : Cell) (s : WalkState) → list_all lawful (child_calls parent s) ≡ true)
        → list_all lawful (calls_of_walk walk_child child_calls (parent_source table (parent_of table.list)) (call.Parents table.name) answers start) ≡ true
    parent_lawful None e h f = absurd (false≢true h)
    parent_lawful (Some a) e h f =
        walk_lawful walk_child child_calls f a.ignore a.retry (parent_source table (parent_of table.list)) (call.Parents table.name) (ap (λ o. (parent_source table o).rule) e) h
        (λ attempt k. and_from (bytes_eq table.name table.name) (is_lawful_parents table attempt (parent_of table.list)) (bytes_itself table.name) (ap (is_lawful_parents table attempt) e ∙ k))
        start

    parents_lawful : (o : Option ListDecl) → table.list ≡ o → is_lawful_parents_scan table request.conditions o ≡ true
        → list_all lawful (calls_of_walk walk_child child_calls (parent_source table (parent_of table.list)) (call.Parents table.name) answers start) ≡ true
    parents_lawful None e h = absurd (false≢true h)
    parents_lawful (Some d) e h =
        let fits : (has_attempts table d.ignore d.retry && fit_keys d.keys request.conditions) ≡ true = left (has_attempts table d.ignore d.retry && fit_keys d.keys request.conditions) (has_parent_attempts table d.parent) h in
        let parent : has_parent_attempts table d.parent ≡ true = right (has_attempts table d.ignore d.retry && fit_keys d.keys request.conditions) (has_parent_attempts table d.parent) h in
        parent_lawful d.parent (ap parent_of e) parent
        (λ item s. list_lawful d (Some item) s e (left (has_attempts table d.ignore d.retry) (fit_keys d.keys request.conditions) fits) (right (has_attempts table d.ignore d.retry) (fit_keys d.keys request.conditions) fits)
        (some_present d.parent parent))

    scan_lawful : (access : Access) → is_lawful_access table request.conditions access ≡ true → list_all lawful (calls_by access table request answers visit calls walk_child) ≡ true
    scan_lawful Get h = get_lawful table.get refl h
    scan_lawful OfList h = plain_list_lawful table.list refl h
    scan_lawful Parents h = parents_lawful table.list refl h

-- what is lawful by its table is lawful by the tables among which that stands
declared : (before after : List TableDecl) (table : TableDecl) (calls : Calls) → list_all (λ one. is_lawful_by table one.0 one.1) calls ≡ true → are_lawful (before ++ table ∷ after) calls ≡ true
declared before after table calls h =
    all_weaker (λ (one : Call × ℕ). is_lawful_by table one.0 one.1) (λ one. is_lawful (before ++ table ∷ after) one.0 one.1)
    (λ one k. any_there (λ t. is_lawful_by t one.0 one.1) before table after k) calls h

pub lawful_calls : LawfulScanMakesLawfulCalls
lawful_calls before after table request answers h =
    let access : Bool = is_lawful_access table request.conditions request.access in
    let distinct : Bool = are_distinct (names_of_functions table.functions) in
    let tried : Bool = list_all (λ (f : FunctionDecl). has_attempts table f.ignore f.retry) table.functions in
    let a : access ≡ true = left access distinct (left (access && distinct) tried h) in
    let ready : EachReady table answers table.functions table.functions = all_ready table answers table.functions (right access distinct (left (access && distinct) tried h)) (right (access && distinct) tried h) in
    let taken : list_all (lawful table answers) (used table request answers) ≡ true =
    scan_lawful table answers request (visit_item table request answers) (used_item table request answers) (visit_parent table request answers)
    (λ item s. functions_lawful table answers item (λ f. decides_columns table.functions (hydrated table answers item) item f.name (columns_named request.columns table.columns)) table.functions ready)
    request.access a in
    let far : list_all (lawful table answers) (reach table request answers) ≡ true =
    scan_lawful table answers request pass_item (reach_item table request answers) (pass_parent table request answers)
    (λ item s. functions_lawful table answers item (λ f. is_wanted table.functions (columns_named request.columns table.columns) f.name) table.functions ready)
    request.access a in
    (declared before after table (used table request answers) taken, declared before after table (reach table request answers) far)
