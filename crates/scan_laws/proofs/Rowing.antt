-- The steps of a row in flight.
use Rattle.std.proofs.Common.{◌≡◌, ◌+◌, ◌-◌, ◌<◌, ℕ, suc, Bool, true, false, not, cond, List, [], ◌∷◌, ◌++◌, map, filter, Option, Some, None, if◌then◌else◌, bytes_eq, refl, sym, ap, subst, ◌∙◌, arith}
use Rattle.std.proofs.lemmas.Bool.{or_parts, not-true}
use Rattle.std.proofs.lemmas.List.{append_assoc, map-append}
use Rattle.std.proofs.lemmas.Slice.Eq.{bytes_eq-Decides}
use Rattle.sp_value.specs.declared.cell.Cell.{Cell}
use Rattle.sp_model.specs.Calls.{is_wanted, on_again, attempts_in}
use Rattle.sp_model.specs.Hydration.{results_of, find_function, names_of_functions, outcome_of, hydrate_call}
use Rattle.sp_model.specs.Names.{are_distinct}
use Rattle.sp_model.specs.RowOf.{has_name, columns_named}
use Rattle.sp_model.specs.Settling.{Seen, Answers, rule_of, attempts_of, Verdict, Accept, Again, Refuse, Open, judged, settled_by, settled_in, settled_from}
use Rattle.sp_model.specs.Units.{flat_map}
use Rattle.sp_model.specs.declared.call.Call.TheVariants as call
use Rattle.sp_model.specs.declared.declaration.FunctionDecl.{FunctionDecl}
use Rattle.sp_model.specs.declared.declaration.Rule.{Rule}
use Rattle.sp_model.specs.declared.declaration.TableDecl.{TableDecl}
use Rattle.sp_model.specs.declared.outcome.Outcome.{Outcome}
use Rattle.sp_model.specs.declared.outcome.Results.{Results}
use Rattle.sp_model.specs.declared.outcome.Results.TheVariants.{Given, Missed, Pending}
use Rattle.sp_model.specs.declared.outcome.Settled.{Settled}
use Rattle.scan_laws.proofs.Counting.{count_append}
use Rattle.scan_laws.proofs.Hydrating.{IsBelow, results_up, given_up, each_found, status_up, bytes_itself, bytes_turn, and_parts}
use Rattle.scan_laws.proofs.Walking.{again_below}
use Rattle.scan_laws.specs.Counts.{count}
use Rattle.scan_laws.specs.Flights.{status, up_to, listed_attempts, listed_with, listed_of, EachFound, attempts_from, IsAsked, is_given, IsUntouched, RowAgrees}
use Rattle.scan_laws.specs.Laws.{IsReady, FunctionIsListed, FunctionIsAskedAgain, FunctionIsSettled}
use Rattle.scan_laws.specs.Reaching.{Made}
use Rattle.scan_laws.specs.States.{FlightRow}
use Rattle.scan_laws.specs.Steps.{function_listed, function_again, function_settled}

-- ---- attempts

attempts_again : (table : TableDecl) (f : FunctionDecl) (replies : ℕ → Seen) (a : ℕ) → judged (rule_of table f.ignore f.retry) a (replies a).ending ≡ Again
    → attempts_from table f replies a ≡ a ∷ attempts_from table f replies (suc a)
attempts_again table f replies a again =
    let rule : Rule = rule_of table f.ignore f.retry in
    let below : a < attempts_of rule.retry = again_below rule a (replies a).ending again in
    let n : attempts_of rule.retry - a ≡ suc (attempts_of rule.retry - suc a) = omega arith in
    ap (λ v. a ∷ on_again v (attempts_in (attempts_of rule.retry - a) f.ignore table f.retry replies (suc a))) again
    ∙ ap (λ m. a ∷ attempts_in m f.ignore table f.retry replies (suc a)) n

last_list : {X : Type 0} (v : Verdict) (xs : List X) → (v ≡ Again → ⊥) → on_again v xs ≡ []
last_list Accept xs last = refl
last_list Again xs last = absurd (last refl)
last_list (Refuse text) xs last = refl
last_list Open xs last = refl

attempts_last : (table : TableDecl) (f : FunctionDecl) (replies : ℕ → Seen) (a : ℕ) → (judged (rule_of table f.ignore f.retry) a (replies a).ending ≡ Again → ⊥) → attempts_from table f replies a ≡ a ∷ []
attempts_last table f replies a last =
    ap (λ xs. a ∷ xs)
    (last_list (judged (rule_of table f.ignore f.retry) a (replies a).ending) (attempts_in (attempts_of (rule_of table f.ignore f.retry).retry - a) f.ignore table f.retry replies (suc a)) last)

settled_again : (rule : Rule) (replies : ℕ → Seen) (a : ℕ) → judged rule a (replies a).ending ≡ Again → settled_from rule replies a ≡ settled_from rule replies (suc a)
settled_again rule replies a again =
    let below : a < attempts_of rule.retry = again_below rule a (replies a).ending again in
    let n : attempts_of rule.retry - a ≡ suc (attempts_of rule.retry - suc a) = omega arith in
    ap (λ v. settled_by v (replies a).items a (settled_in (attempts_of rule.retry - a) rule replies (suc a))) again
    ∙ ap (λ m. settled_in m rule replies (suc a)) n

last_settled : (v : Verdict) (items : List Cell) (a : ℕ) (again other : Option Settled) → (v ≡ Again → ⊥) → settled_by v items a again ≡ settled_by v items a other
last_settled Accept items a again other last = refl
last_settled Again items a again other last = absurd (last refl)
last_settled (Refuse text) items a again other last = refl
last_settled Open items a again other last = refl

-- ---- names

same_function : (table : TableDecl) (f g : FunctionDecl) → find_function f.name table.functions ≡ Some f → find_function g.name table.functions ≡ Some g → bytes_eq f.name g.name ≡ true → f ≡ g
same_function table f g is at same =
    let e : Some f ≡ Some g = sym is ∙ ap (λ n. find_function n table.functions) ((bytes_eq-Decides f.name g.name).0 same) ∙ at in
    cc

flat_same : (g h : FunctionDecl → List Made) → ((f : FunctionDecl) → g f ≡ h f) → (fs : List FunctionDecl) → flat_map g fs ≡ flat_map h fs
flat_same g h same [] = refl
flat_same g h same (f ∷ fs) = ap (λ xs. xs ++ flat_map g fs) (same f) ∙ ap (λ xs. h f ++ xs) (flat_same g h same fs)

-- ---- a function is asked again

listed_again : (table : TableDecl) (row : FlightRow) (name : List ℕ) → row.listed name ≡ true → (g : FunctionDecl) → listed_of table (function_again row name) g ≡ listed_of table row g
listed_again table row name l g = by (bytes_eq name g.name) refl (results_of (status table row) g.depends)
  where
    by : (b : Bool) → bytes_eq name g.name ≡ b → (r : Results) → listed_with table (function_again row name) g r ≡ listed_with table row g r
    by b e (Missed cause) = refl
    by b e Pending = refl
    by false e (Given results) =
        ap (λ b. map (λ attempt. (call.Hydrate table.name g.name row.item results, attempt))
        (listed_attempts (if b then suc (row.tries name) else row.tries g.name) (if b then false else row.listed g.name))) e
    by true e (Given results) =
        let same : name ≡ g.name = (bytes_eq-Decides name g.name).0 e in
        let made : ℕ → Made = λ attempt. (call.Hydrate table.name g.name row.item results, attempt) in
        ap (λ b. map made (listed_attempts (if b then suc (row.tries name) else row.tries g.name) (if b then false else row.listed g.name))) e
        ∙ sym (ap (λ b. map made (listed_attempts (row.tries name) b)) l)
        ∙ ap (λ n. map made (listed_attempts (row.tries n) (row.listed n))) same

pub function_is_asked_again : FunctionIsAskedAgain
function_is_asked_again table request answers row f results a ready l again = record {
  agrees = record {
    follows = a.follows;
    asked = λ g rs found given. asked g rs found given (bytes_eq f.name g.name) refl;
    order = λ g found waits. order g found waits (bytes_eq f.name g.name) refl;
  };
  item = refl;
  listed = λ p.
      let n = ap (λ xs. count p xs)
      (flat_same (listed_of table (function_again row f.name)) (listed_of table row) (listed_again table row f.name l)
      (filter (λ g. is_wanted table.functions (columns_named request.columns table.columns) g.name) table.functions)) in
      omega (arith, n);
}
  where
    asked : (g : FunctionDecl) (rs : List (List ℕ × Cell)) → find_function g.name table.functions ≡ Some g → results_of (status table row) g.depends ≡ Given rs → (b : Bool) → bytes_eq f.name g.name ≡ b
        → IsAsked table g (answers (call.Hydrate table.name g.name row.item rs)) (row.known g.name) (if b then suc (row.tries f.name) else row.tries g.name) (if b then false else row.listed g.name)
    asked g rs found given false e = a.asked g rs found given
    asked g rs found given true e =
        let same : f ≡ g = same_function table f g ready.found found e in
        let q : Given results ≡ Given rs = sym ready.given ∙ ap (λ z. results_of (status table row) z.depends) same ∙ given in
        let rsame : results ≡ rs = cc in
        let replies : ℕ → Seen = answers (call.Hydrate table.name f.name row.item results) in
        let old : IsAsked table f replies (row.known f.name) (row.tries f.name) (row.listed f.name) = a.asked f results ready.found ready.given in
        let new : IsAsked table f replies (row.known f.name) (suc (row.tries f.name)) false =
        record {
          tried = old.tried ∙ ap (λ xs. up_to (row.tries f.name) ++ xs) (attempts_again table f replies (suc (row.tries f.name)) again)
              ∙ sym (append_assoc (up_to (row.tries f.name)) (suc (row.tries f.name) ∷ []) (attempts_from table f replies (suc (suc (row.tries f.name)))));
          same = sym (settled_again (rule_of table f.ignore f.retry) replies (suc (row.tries f.name)) again) ∙ old.same;
          over = λ o known. let bad : None ≡ Some o = sym ready.unknown ∙ known in absurd (cc);
        } in
        subst (λ r. IsAsked table g (answers (call.Hydrate table.name g.name row.item r)) (row.known g.name) (suc (row.tries f.name)) false) rsame
        (subst (λ z. IsAsked table z (answers (call.Hydrate table.name z.name row.item results)) (row.known z.name) (suc (row.tries f.name)) false) same new)

    order : (g : FunctionDecl) → find_function g.name table.functions ≡ Some g → is_given (results_of (status table row) g.depends) ≡ false → (b : Bool) → bytes_eq f.name g.name ≡ b
        → (row.known g.name ≡ None) × ((if b then suc (row.tries f.name) else row.tries g.name) ≡ 0) × ((if b then false else row.listed g.name) ≡ false)
    order g found waits false e = a.order g found waits
    order g found waits true e =
        let same : f ≡ g = same_function table f g ready.found found e in
        let bad : true ≡ false = sym (ap is_given ready.given) ∙ ap (λ z. is_given (results_of (status table row) z.depends)) same ∙ waits in
        absurd (cc)

-- ---- a function is listed

listed_other : (table : TableDecl) (row : FlightRow) (name : List ℕ) (g : FunctionDecl) → bytes_eq name g.name ≡ false → listed_of table (function_listed row name) g ≡ listed_of table row g
listed_other table row name g e = by (results_of (status table row) g.depends)
  where
    by : (r : Results) → listed_with table (function_listed row name) g r ≡ listed_with table row g r
    by (Missed cause) = refl
    by Pending = refl
    by (Given results) = ap (λ b. map (λ attempt. (call.Hydrate table.name g.name row.item results, attempt)) (listed_attempts (row.tries g.name) (if b then true else row.listed g.name))) e

listed_others : (table : TableDecl) (row : FlightRow) (name : List ℕ) (test : FunctionDecl → Bool) (fs : List FunctionDecl) → has_name (names_of_functions fs) name ≡ false
    → flat_map (listed_of table (function_listed row name)) (filter test fs) ≡ flat_map (listed_of table row) (filter test fs)
listed_others table row name test [] e = refl
listed_others table row name test (g ∷ gs) e =
    let parts = or_parts (bytes_eq name g.name) (has_name (names_of_functions gs) name) e in
    let later : flat_map (listed_of table (function_listed row name)) (filter test gs) ≡ flat_map (listed_of table row) (filter test gs) = listed_others table row name test gs parts.1 in
    elim (test g) as (λ b. flat_map (listed_of table (function_listed row name)) (cond b (g ∷ filter test gs) (filter test gs)) ≡ flat_map (listed_of table row) (cond b (g ∷ filter test gs) (filter test gs))) [
      | true ↦ ap (λ xs. xs ++ flat_map (listed_of table (function_listed row name)) (filter test gs)) (listed_other table row name g parts.0) ∙ ap (λ xs. listed_of table row g ++ xs) later
      | false ↦ later
    ]

listed_here : (table : TableDecl) (row : FlightRow) (f : FunctionDecl) (results : List (List ℕ × Cell)) → results_of (status table row) f.depends ≡ Given results → row.listed f.name ≡ false
    → listed_of table (function_listed row f.name) f ≡ listed_of table row f ++ ((call.Hydrate table.name f.name row.item results, suc (row.tries f.name)) ∷ [])
listed_here table row f results given l =
    let made : ℕ → Made = λ attempt. (call.Hydrate table.name f.name row.item results, attempt) in
    ap (λ r. listed_with table (function_listed row f.name) f r) given
    ∙ ap (λ b. map made (listed_attempts (row.tries f.name) (if b then true else row.listed f.name))) (bytes_itself f.name)
    ∙ map-append made (up_to (row.tries f.name)) (suc (row.tries f.name) ∷ [])
    ∙ sym (ap (λ b. map made (listed_attempts (row.tries f.name) b) ++ (made (suc (row.tries f.name)) ∷ [])) l)
    ∙ sym (ap (λ r. listed_with table row f r ++ (made (suc (row.tries f.name)) ∷ [])) given)

listed_once : (table : TableDecl) (row : FlightRow) (f : FunctionDecl) (results : List (List ℕ × Cell)) (test : FunctionDecl → Bool) (p : Made → Bool) → results_of (status table row) f.depends ≡ Given results → row.listed f.name ≡ false → test f ≡ true
    → (fs : List FunctionDecl) → are_distinct (names_of_functions fs) ≡ true → find_function f.name fs ≡ Some f
    → count p (flat_map (listed_of table (function_listed row f.name)) (filter test fs))
    ≡ count p (flat_map (listed_of table row) (filter test fs)) + count p ((call.Hydrate table.name f.name row.item results, suc (row.tries f.name)) ∷ [])
listed_once table row f results test p given l wanted [] apart found = cc
listed_once table row f results test p given l wanted (g ∷ gs) apart found =
    by (bytes_eq g.name f.name) refl found (λ k. listed_once table row f results test p given l wanted gs (and_parts (not (has_name (names_of_functions gs) g.name)) (are_distinct (names_of_functions gs)) apart).1 k)
  where
    next : FunctionDecl → List Made
    next = listed_of table (function_listed row f.name)

    old : FunctionDecl → List Made
    old = listed_of table row

    one : List Made
    one = (call.Hydrate table.name f.name row.item results, suc (row.tries f.name)) ∷ []

    by : (b : Bool) → bytes_eq g.name f.name ≡ b → (if b then Some g else find_function f.name gs) ≡ Some f
        → (find_function f.name gs ≡ Some f → count p (flat_map next (filter test gs)) ≡ count p (flat_map old (filter test gs)) + count p one)
        → count p (flat_map next (filter test (g ∷ gs))) ≡ count p (flat_map old (filter test (g ∷ gs))) + count p one
    by false e is later =
        let turn : bytes_eq f.name g.name ≡ false = bytes_turn g.name f.name e in
        let l2 : count p (flat_map next (filter test gs)) ≡ count p (flat_map old (filter test gs)) + count p one = later is in
        elim (test g) as (λ b. count p (flat_map next (cond b (g ∷ filter test gs) (filter test gs))) ≡ count p (flat_map old (cond b (g ∷ filter test gs) (filter test gs))) + count p one) [
          | true ↦
              let n = count_append p (next g) (flat_map next (filter test gs)) in
              let m = count_append p (old g) (flat_map old (filter test gs)) in
              let k = ap (λ xs. count p xs) (listed_other table row f.name g turn) in
              omega (arith, n, m, k, l2)
          | false ↦ l2
        ]
    by true e is later =
        let same : g ≡ f = cc in
        let none : has_name (names_of_functions gs) f.name ≡ false =
        subst (λ z. has_name (names_of_functions gs) z.name ≡ false) same (not-true (has_name (names_of_functions gs) g.name) (and_parts (not (has_name (names_of_functions gs) g.name)) (are_distinct (names_of_functions gs)) apart).0) in
        let others : flat_map next (filter test gs) ≡ flat_map old (filter test gs) = listed_others table row f.name test gs none in
        let here : next f ≡ old f ++ one = listed_here table row f results given l in
        let t : test g ≡ true = ap test same ∙ wanted in
        let a : flat_map next (filter test (g ∷ gs)) ≡ next f ++ flat_map next (filter test gs) =
        ap (λ b. flat_map next (cond b (g ∷ filter test gs) (filter test gs))) t ∙ ap (λ z. next z ++ flat_map next (filter test gs)) same in
        let b : flat_map old (filter test (g ∷ gs)) ≡ old f ++ flat_map old (filter test gs) =
        ap (λ b. flat_map old (cond b (g ∷ filter test gs) (filter test gs))) t ∙ ap (λ z. old z ++ flat_map old (filter test gs)) same in
        let na = ap (λ xs. count p xs) a in
        let nb = ap (λ xs. count p xs) b in
        let n = count_append p (next f) (flat_map next (filter test gs)) in
        let m = count_append p (old f) (flat_map old (filter test gs)) in
        let o = ap (λ xs. count p xs) others in
        let h = ap (λ xs. count p xs) here in
        let k = count_append p (old f) one in
        omega (arith, na, nb, n, m, o, h, k)

pub function_is_listed : FunctionIsListed
function_is_listed table request answers row f results apart a ready wanted l = record {
  agrees = record {
    follows = a.follows;
    asked = λ g rs found given. asked g rs found given (bytes_eq f.name g.name) refl;
    order = λ g found waits. order g found waits (bytes_eq f.name g.name) refl;
  };
  item = refl;
  listed = λ p.
      listed_once table row f results (λ g. is_wanted table.functions (columns_named request.columns table.columns) g.name) p ready.given l wanted table.functions apart ready.found;
}
  where
    asked : (g : FunctionDecl) (rs : List (List ℕ × Cell)) → find_function g.name table.functions ≡ Some g → results_of (status table row) g.depends ≡ Given rs → (b : Bool) → bytes_eq f.name g.name ≡ b
        → IsAsked table g (answers (call.Hydrate table.name g.name row.item rs)) (row.known g.name) (row.tries g.name) (if b then true else row.listed g.name)
    asked g rs found given false e = a.asked g rs found given
    asked g rs found given true e =
        let old : IsAsked table g (answers (call.Hydrate table.name g.name row.item rs)) (row.known g.name) (row.tries g.name) (row.listed g.name) = a.asked g rs found given in
        record {
          tried = old.tried;
          same = old.same;
          over = λ o known. let bad : None ≡ Some o = sym ready.unknown ∙ ap (λ n. row.known n) ((bytes_eq-Decides f.name g.name).0 e) ∙ known in absurd (cc);
        }

    order : (g : FunctionDecl) → find_function g.name table.functions ≡ Some g → is_given (results_of (status table row) g.depends) ≡ false → (b : Bool) → bytes_eq f.name g.name ≡ b
        → (row.known g.name ≡ None) × (row.tries g.name ≡ 0) × ((if b then true else row.listed g.name) ≡ false)
    order g found waits false e = a.order g found waits
    order g found waits true e =
        let same : f ≡ g = same_function table f g ready.found found e in
        let bad : true ≡ false = sym (ap is_given ready.given) ∙ ap (λ z. is_given (results_of (status table row) z.depends)) same ∙ waits in
        absurd (cc)

-- ---- a function's outcome is known

known_up : (row : FlightRow) (name : List ℕ) (o : Outcome) → row.known name ≡ None → IsBelow row.known (function_settled row name o).known
known_up row name o none other q e = by (bytes_eq name other) refl
  where
    by : (b : Bool) → bytes_eq name other ≡ b → (if b then Some o else row.known other) ≡ Some q
    by false is = e
    by true is = let bad : None ≡ Some q = sym none ∙ ap row.known ((bytes_eq-Decides name other).0 is) ∙ e in absurd (cc)

none_map : {X : Type 0} (g : ℕ → X) (tries : ℕ) (listed : Bool) → tries ≡ 0 → listed ≡ false → map g (listed_attempts tries listed) ≡ []
none_map g tries listed t l = ap (λ b. map g (listed_attempts tries b)) l ∙ ap (λ n. map g (up_to n)) t

flat_found : (functions : List FunctionDecl) (g h : FunctionDecl → List Made) (test : FunctionDecl → Bool) → ((f : FunctionDecl) → find_function f.name functions ≡ Some f → g f ≡ h f) → (fs : List FunctionDecl) → EachFound functions fs
    → flat_map g (filter test fs) ≡ flat_map h (filter test fs)
flat_found functions g h test same [] found = refl
flat_found functions g h test same (f ∷ fs) found =
    let later : flat_map g (filter test fs) ≡ flat_map h (filter test fs) = flat_found functions g h test same fs found.1 in
    elim (test f) as (λ b. flat_map g (cond b (f ∷ filter test fs) (filter test fs)) ≡ flat_map h (cond b (f ∷ filter test fs) (filter test fs))) [
      | true ↦ ap (λ xs. xs ++ flat_map g (filter test fs)) (same f found.0) ∙ ap (λ xs. h f ++ xs) later
      | false ↦ later
    ]

not_again : (v : Verdict) (name : List ℕ) (items : List Cell) (n : ℕ) (o : Outcome) → outcome_of name (settled_by v items n None) ≡ Some o → v ≡ Again → ⊥
not_again Accept name items n o e is = cc
not_again Again name items n o e is = cc
not_again (Refuse text) name items n o e is = cc
not_again Open name items n o e is = cc

settled_is : (table : TableDecl) (answers : Answers) (row : FlightRow) (f : FunctionDecl) (results : List (List ℕ × Cell)) (v : Verdict) (o : Outcome) → RowAgrees table answers row → IsReady table row f results
    → judged (rule_of table f.ignore f.retry) (suc (row.tries f.name)) (answers (call.Hydrate table.name f.name row.item results) (suc (row.tries f.name))).ending ≡ v
    → outcome_of f.name (settled_by v (answers (call.Hydrate table.name f.name row.item results) (suc (row.tries f.name))).items (suc (row.tries f.name)) None) ≡ Some o
    → hydrate_call table answers row.item f results ≡ Some o
settled_is table answers row f results v o a ready verdict outcome =
    let replies : ℕ → Seen = answers (call.Hydrate table.name f.name row.item results) in
    let rule : Rule = rule_of table f.ignore f.retry in
    let n : ℕ = suc (row.tries f.name) in
    let later : Option Settled = settled_in (attempts_of rule.retry - n) rule replies (suc n) in
    ap (λ s. outcome_of f.name s)
    (sym (a.asked f results ready.found ready.given).same
    ∙ ap (λ w. settled_by w (replies n).items n later) verdict
    ∙ last_settled v (replies n).items n later None (not_again v f.name (replies n).items n o outcome))
    ∙ outcome

given_same : (r : Results) (xs ys : List (List ℕ × Cell)) → r ≡ Given xs → r ≡ Given ys → xs ≡ ys
given_same r xs ys a b = let e : Given xs ≡ Given ys = sym a ∙ b in cc

pub function_is_settled : FunctionIsSettled
function_is_settled table request answers row f results v o apart a ready l verdict outcome = record {
  agrees = record {
    follows = λ g rs q found given known. follows g rs q found given (bytes_eq f.name g.name) refl (results_of (status table row) g.depends) refl known;
    asked = λ g rs found given. asked g rs found given (bytes_eq f.name g.name) refl (results_of (status table row) g.depends) refl;
    order = λ g found waits. order g found waits (bytes_eq f.name g.name) refl (results_of (status table row) g.depends) refl;
  };
  item = refl;
  listed = λ p.
      let n = ap (λ xs. count p xs)
      (flat_found table.functions (listed_of table next) (listed_of table row) (λ g. is_wanted table.functions (columns_named request.columns table.columns) g.name)
      (λ g found. listed g found (results_of (status table row) g.depends) refl (results_of (status table next) g.depends) refl) table.functions (each_found table.functions apart)) in
      omega (arith, n);
}
  where
    next : FlightRow
    next = function_settled row f.name o

    up : IsBelow (status table row) (status table next)
    up = status_up table row next (known_up row f.name o ready.unknown)

    not_given : (g : FunctionDecl) (r : Results) → find_function g.name table.functions ≡ Some g → bytes_eq f.name g.name ≡ true → results_of (status table row) g.depends ≡ r → is_given r ≡ false → ⊥
    not_given g r found e is waits =
        let same : f ≡ g = same_function table f g ready.found found e in
        let bad : true ≡ false = sym (ap is_given ready.given) ∙ ap (λ z. is_given (results_of (status table row) z.depends)) same ∙ ap is_given is ∙ waits in
        cc

    untouched : (g : FunctionDecl) (r : Results) → find_function g.name table.functions ≡ Some g → results_of (status table row) g.depends ≡ r → is_given r ≡ false → IsUntouched row g.name
    untouched g r found is waits = a.order g found (ap is_given is ∙ waits)

    follows : (g : FunctionDecl) (rs : List (List ℕ × Cell)) (q : Outcome) → find_function g.name table.functions ≡ Some g → results_of (status table next) g.depends ≡ Given rs → (b : Bool) → bytes_eq f.name g.name ≡ b
        → (r : Results) → results_of (status table row) g.depends ≡ r → (if b then Some o else row.known g.name) ≡ Some q → hydrate_call table answers row.item g rs ≡ Some q
    follows g rs q found given false e (Missed c) is known = let bad : None ≡ Some q = sym (untouched g (Missed c) found is refl).0 ∙ known in absurd (cc)
    follows g rs q found given false e Pending is known = let bad : None ≡ Some q = sym (untouched g Pending found is refl).0 ∙ known in absurd (cc)
    follows g rs q found given false e (Given old) is known =
        subst (λ z. hydrate_call table answers row.item g z ≡ Some q) (given_same (results_of (status table next) g.depends) old rs (given_up (status table row) (status table next) up g.depends old is) given)
        (a.follows g old q found is known)
    follows g rs q found given true e r is known =
        let same : f ≡ g = same_function table f g ready.found found e in
        let mine : results_of (status table next) f.depends ≡ Given results = given_up (status table row) (status table next) up f.depends results ready.given in
        let rsame : results ≡ rs = given_same (results_of (status table next) f.depends) results rs mine (ap (λ z. results_of (status table next) z.depends) same ∙ given) in
        let one : hydrate_call table answers row.item f results ≡ Some q = settled_is table answers row f results v o a ready verdict outcome ∙ known in
        subst (λ z. hydrate_call table answers row.item z rs ≡ Some q) same (subst (λ z. hydrate_call table answers row.item f z ≡ Some q) rsame one)

    fresh : (g : FunctionDecl) (replies : ℕ → Seen) → IsUntouched row g.name → IsAsked table g replies (row.known g.name) (row.tries g.name) (row.listed g.name)
    fresh g replies none = record {
      tried = sym (ap (λ n. up_to n ++ attempts_from table g replies (suc n)) none.1);
      same = ap (λ n. settled_from (rule_of table g.ignore g.retry) replies (suc n)) none.1;
      over = λ q known. let bad : None ≡ Some q = sym none.0 ∙ known in absurd (cc);
    }

    asked : (g : FunctionDecl) (rs : List (List ℕ × Cell)) → find_function g.name table.functions ≡ Some g → results_of (status table next) g.depends ≡ Given rs → (b : Bool) → bytes_eq f.name g.name ≡ b
        → (r : Results) → results_of (status table row) g.depends ≡ r
        → IsAsked table g (answers (call.Hydrate table.name g.name row.item rs)) (if b then Some o else row.known g.name) (row.tries g.name) (row.listed g.name)
    asked g rs found given false e (Given old) is =
        subst (λ z. IsAsked table g (answers (call.Hydrate table.name g.name row.item z)) (row.known g.name) (row.tries g.name) (row.listed g.name))
        (given_same (results_of (status table next) g.depends) old rs (given_up (status table row) (status table next) up g.depends old is) given) (a.asked g old found is)
    asked g rs found given false e (Missed c) is = fresh g (answers (call.Hydrate table.name g.name row.item rs)) (untouched g (Missed c) found is refl)
    asked g rs found given false e Pending is = fresh g (answers (call.Hydrate table.name g.name row.item rs)) (untouched g Pending found is refl)
    asked g rs found given true e r is =
        let same : f ≡ g = same_function table f g ready.found found e in
        let mine : results_of (status table next) f.depends ≡ Given results = given_up (status table row) (status table next) up f.depends results ready.given in
        let rsame : results ≡ rs = given_same (results_of (status table next) f.depends) results rs mine (ap (λ z. results_of (status table next) z.depends) same ∙ given) in
        let replies : ℕ → Seen = answers (call.Hydrate table.name f.name row.item results) in
        let old : IsAsked table f replies (row.known f.name) (row.tries f.name) (row.listed f.name) = a.asked f results ready.found ready.given in
        let new : IsAsked table f replies (Some o) (row.tries f.name) (row.listed f.name) =
        record {
          tried = old.tried;
          same = old.same;
          over = λ q known. (l, attempts_last table f replies (suc (row.tries f.name)) (λ again. not_again v f.name (replies (suc (row.tries f.name))).items (suc (row.tries f.name)) o outcome (sym verdict ∙ again)));
        } in
        subst (λ z. IsAsked table z (answers (call.Hydrate table.name z.name row.item rs)) (Some o) (row.tries z.name) (row.listed z.name)) same
        (subst (λ z. IsAsked table f (answers (call.Hydrate table.name f.name row.item z)) (Some o) (row.tries f.name) (row.listed f.name)) rsame new)

    order : (g : FunctionDecl) → find_function g.name table.functions ≡ Some g → is_given (results_of (status table next) g.depends) ≡ false → (b : Bool) → bytes_eq f.name g.name ≡ b
        → (r : Results) → results_of (status table row) g.depends ≡ r → ((if b then Some o else row.known g.name) ≡ None) × (row.tries g.name ≡ 0) × (row.listed g.name ≡ false)
    order g found waits b e (Given old) is =
        let bad : true ≡ false = sym (ap is_given (given_up (status table row) (status table next) up g.depends old is)) ∙ waits in absurd (cc)
    order g found waits false e (Missed c) is = untouched g (Missed c) found is refl
    order g found waits false e Pending is = untouched g Pending found is refl
    order g found waits true e (Missed c) is = absurd (not_given g (Missed c) found e is refl)
    order g found waits true e Pending is = absurd (not_given g Pending found e is refl)

    listed : (g : FunctionDecl) → find_function g.name table.functions ≡ Some g → (r : Results) → results_of (status table row) g.depends ≡ r → (s : Results) → results_of (status table next) g.depends ≡ s
        → listed_of table next g ≡ listed_of table row g
    listed g found (Given old) is s at =
        ap (λ z. listed_with table next g z) (given_up (status table row) (status table next) up g.depends old is) ∙ sym (ap (λ z. listed_with table row g z) is)
    listed g found (Missed c) is s at =
        ap (λ z. listed_with table next g z) (results_up (status table row) (status table next) up g.depends (λ w. let bad : Missed c ≡ Pending = sym is ∙ w in cc) ∙ is) ∙ sym (ap (λ z. listed_with table row g z) is)
    listed g found Pending is (Given rs) at =
        let none = untouched g Pending found is refl in
        ap (λ z. listed_with table next g z) at
        ∙ none_map (λ attempt. (call.Hydrate table.name g.name row.item rs, attempt)) (row.tries g.name) (row.listed g.name) none.1 none.2
        ∙ sym (ap (λ z. listed_with table row g z) is)
    listed g found Pending is (Missed c) at = ap (λ z. listed_with table next g z) at ∙ sym (ap (λ z. listed_with table row g z) is)
    listed g found Pending is Pending at = ap (λ z. listed_with table next g z) at ∙ sym (ap (λ z. listed_with table row g z) is)
