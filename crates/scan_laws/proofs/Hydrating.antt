-- What is known of a row in flight, and the calls that it has listed.
use Rattle.std.proofs.Common.{◌≡◌, ◌+◌, ◌-◌, ◌≤◌, ℕ, zero, suc, Bool, true, false, ◌&&◌, ◌||◌, not, cond, List, [], ◌∷◌, ◌++◌, length, map, filter, Option, Some, None, if◌then◌else◌, bytes_eq, refl, sym, ap, subst, ◌∙◌, arith}
use Rattle.std.proofs.lemmas.Bool.{or_parts, not-true, false_from_ne_true, false≢true}
use Rattle.std.proofs.lemmas.List.{append_assoc, map-append}
use Rattle.std.proofs.lemmas.Slice.Eq.{bytes_eq-Decides}
use Rattle.std.specs.List.{list_any}
use Rattle.sp_value.specs.declared.cell.Cell.{Cell}
use Rattle.sp_model.proofs.Lawful.{found_name}
use Rattle.sp_model.specs.Calls.{decides_some, decides_in, decides_source, decides_columns, needs_in, needs_source, is_wanted, on_again, attempts_in, calls_with, calls_of, used_item}
use Rattle.sp_model.specs.Hydration.{gave, depends_of, names_of_functions, put_under, with_result, results_of, with_results, find_function, called, hydrated_in, hydrate_call, hydrated}
use Rattle.sp_model.specs.Names.{are_distinct}
use Rattle.sp_model.specs.RowOf.{has_name, columns_named, column_of, source_of, column_value, with_cell, row_of}
use Rattle.sp_model.specs.Settling.{Seen, Answers, rule_of, attempts_of, judged}
use Rattle.sp_model.specs.Units.{flat_map}
use Rattle.sp_model.specs.declared.call.Call.TheVariants as call
use Rattle.sp_model.specs.declared.declaration.ColumnDecl.{ColumnDecl}
use Rattle.sp_model.specs.declared.declaration.FunctionDecl.{FunctionDecl}
use Rattle.sp_model.specs.declared.declaration.TableDecl.{TableDecl}
use Rattle.sp_model.specs.declared.outcome.Outcome.{Outcome}
use Rattle.sp_model.specs.declared.outcome.Outcome.TheVariants.{Gave, Fails}
use Rattle.sp_model.specs.declared.outcome.Results.{Results}
use Rattle.sp_model.specs.declared.outcome.Results.TheVariants.{Given, Missed, Pending}
use Rattle.sp_model.specs.declared.outcome.Row.{Row}
use Rattle.sp_model.specs.declared.outcome.Row.TheVariants.{Whole, Broken}
use Rattle.sp_model.specs.declared.outcome.WalkState.{WalkState}
use Rattle.sp_model.specs.declared.scan.ScanRequest.{ScanRequest}
use Rattle.scan_laws.proofs.Counting.{count_append}
use Rattle.scan_laws.specs.Counts.{count}
use Rattle.scan_laws.specs.Flights.{status, up_to, listed_attempts, listed_with, listed_of, row_listed, EachFound, attempts_from, IsAsked, RowAgrees}
use Rattle.scan_laws.specs.Reaching.{Made, row_reach}
use Rattle.scan_laws.specs.States.{FlightRow}
use Rattle.scan_laws.specs.Steps.{fresh_row}

abbrev Gives : Type 0
Gives = List ℕ → Option Outcome

abbrev Asks : Type 0
Asks = FunctionDecl → List (List ℕ × Cell) → Option Outcome

-- what the first gives, the second gives too
abbrev pub IsBelow : Gives → Gives → Type 0
IsBelow g h = (name : List ℕ) (o : Outcome) → g name ≡ Some o → h name ≡ Some o

-- ---- results

result_up : (name : List ℕ) (a b : Option Outcome) (r s : Results) → ((o : Outcome) → a ≡ Some o → b ≡ Some o) → ((r ≡ Pending → ⊥) → s ≡ r) → (with_result name a r ≡ Pending → ⊥) → with_result name b s ≡ with_result name a r
result_up name None b r s up same w = absurd (w refl)
result_up name (Some (Fails c)) b r s up same w = ap (λ o. with_result name o s) (up (Fails c) refl)
result_up name (Some (Gave x)) b (Given xs) s up same w = ap (λ o. with_result name o s) (up (Gave x) refl) ∙ ap (λ t. with_result name (Some (Gave x)) t) (same (λ e. cc))
result_up name (Some (Gave x)) b (Missed c) s up same w = ap (λ o. with_result name o s) (up (Gave x) refl) ∙ ap (λ t. with_result name (Some (Gave x)) t) (same (λ e. cc))
result_up name (Some (Gave x)) b Pending s up same w = absurd (w refl)

pub results_up : (g h : Gives) → IsBelow g h → (names : List (List ℕ)) → (results_of g names ≡ Pending → ⊥) → results_of h names ≡ results_of g names
results_up g h up [] w = refl
results_up g h up (name ∷ names) w = result_up name (g name) (h name) (results_of g names) (results_of h names) (up name) (results_up g h up names) w

pub given_up : (g h : Gives) → IsBelow g h → (names : List (List ℕ)) (results : List (List ℕ × Cell)) → results_of g names ≡ Given results → results_of h names ≡ Given results
given_up g h up names results e = results_up g h up names (λ w. cc) ∙ e

called_up : (c d : Asks) (g h : Gives) (f : FunctionDecl) (o : Outcome) (r : Results) → IsBelow g h → results_of g f.depends ≡ r
    → ((results : List (List ℕ × Cell)) → results_of g f.depends ≡ Given results → c f results ≡ Some o → d f results ≡ Some o)
    → with_results r (c f) ≡ Some o → with_results (results_of h f.depends) (d f) ≡ Some o
called_up c d g h f o (Given results) up is calls e = ap (λ r. with_results r (d f)) (given_up g h up f.depends results is) ∙ calls results is e
called_up c d g h f o (Missed cause) up is calls e = ap (λ r. with_results r (d f)) (results_up g h up f.depends (λ w. cc) ∙ is) ∙ e
called_up c d g h f o Pending up is calls e = cc

by_found : (c d : Asks) (g h : Gives) (found : Option FunctionDecl) (o : Outcome) → IsBelow g h
    → ((f : FunctionDecl) (results : List (List ℕ × Cell)) → found ≡ Some f → results_of g f.depends ≡ Given results → c f results ≡ Some o → d f results ≡ Some o)
    → called c g found ≡ Some o → called d h found ≡ Some o
by_found c d g h None o up calls e = cc
by_found c d g h (Some f) o up calls e = called_up c d g h f o (results_of g f.depends) up refl (λ results. calls f results refl) e

-- what is given at a depth is given the same further down
pub deeper : (functions : List FunctionDecl) (c : Asks) (n m : ℕ) → n ≤ m → IsBelow (λ name. hydrated_in n functions c name) (λ name. hydrated_in m functions c name)
deeper functions c zero m h name o e = cc
deeper functions c (suc n) zero h name o e = absurd (omega arith)
deeper functions c (suc n) (suc m) h name o e =
    by_found c c (λ d. hydrated_in n functions c d) (λ d. hydrated_in m functions c d) (find_function name functions) o (deeper functions c n m (omega arith)) (λ f results is r k. k) e

pub found_itself : (name : List ℕ) (fs : List FunctionDecl) (f : FunctionDecl) → find_function name fs ≡ Some f → find_function f.name fs ≡ Some f
found_itself name fs f h = ap (λ n. find_function n fs) (found_name name fs f h) ∙ h

abbrev Known : FlightRow → Asks
Known row f results = row.known f.name

-- where more is known, more is decided
pub status_up : (table : TableDecl) (row next : FlightRow) → IsBelow row.known next.known → IsBelow (status table row) (status table next)
status_up table row next up name o e = in_depth (length table.functions) name o e
  where
    in_depth : (n : ℕ) → IsBelow (λ k. hydrated_in n table.functions (Known row) k) (λ k. hydrated_in n table.functions (Known next) k)
    in_depth zero k q i = cc
    in_depth (suc n) k q i =
        by_found (Known row) (Known next) (λ d. hydrated_in n table.functions (Known row) d) (λ d. hydrated_in n table.functions (Known next) d) (find_function k table.functions) q (in_depth n)
        (λ f results is r j. up f.name q j) i

-- ---- what is known of a row is what hydration gives

truth_in : (table : TableDecl) (answers : Answers) (row : FlightRow) → RowAgrees table answers row → (n : ℕ) → n ≤ length table.functions
    → IsBelow (λ name. hydrated_in n table.functions (Known row) name) (λ name. hydrated_in n table.functions (hydrate_call table answers row.item) name)
truth_in table answers row agrees zero l name o e = cc
truth_in table answers row agrees (suc n) l name o e =
    by_found (Known row) (hydrate_call table answers row.item) (λ d. hydrated_in n table.functions (Known row) d) (λ d. hydrated_in n table.functions (hydrate_call table answers row.item) d)
    (find_function name table.functions) o (truth_in table answers row agrees n (omega arith))
    (λ f results is r k. agrees.follows f results o (found_itself name table.functions f is)
    (given_up (λ d. hydrated_in n table.functions (Known row) d) (status table row) (deeper table.functions (Known row) n (length table.functions) (omega arith)) f.depends results r) k)
    e

pub truth : (table : TableDecl) (answers : Answers) (row : FlightRow) → RowAgrees table answers row → IsBelow (status table row) (hydrated table answers row.item)
truth table answers row agrees name o e = truth_in table answers row agrees (length table.functions) (omega arith) name o e

column_up : (g h : Gives) → IsBelow g h → (item : Cell) (column : ColumnDecl) (o : Outcome) → column_value g item column ≡ Some o → column_value h item column ≡ Some o
column_up g h up item column o e = go column.function e
  where
    by : (name : List ℕ) (v : Option Outcome) → g name ≡ v → column_of column v ≡ Some o → column_of column (h name) ≡ Some o
    by name None is k = cc
    by name (Some q) is k = ap (λ z. column_of column z) (up name q is) ∙ k

    go : (f : Option (List ℕ)) → column_of column (source_of g item f) ≡ Some o → column_of column (source_of h item f) ≡ Some o
    go None k = k
    go (Some name) k = by name (g name) refl k

cell_up : (name : List ℕ) (a b : Option Outcome) (r s : Option Row) (row : Row) → ((o : Outcome) → a ≡ Some o → b ≡ Some o) → ((q : Row) → r ≡ Some q → s ≡ Some q) → with_cell name a r ≡ Some row → with_cell name b s ≡ Some row
cell_up name None b r s row up same e = cc
cell_up name (Some (Fails c)) b r s row up same e = ap (λ o. with_cell name o s) (up (Fails c) refl) ∙ e
cell_up name (Some (Gave x)) b None s row up same e = cc
cell_up name (Some (Gave x)) b (Some q) s row up same e = ap (λ o. with_cell name o s) (up (Gave x) refl) ∙ ap (λ t. with_cell name (Some (Gave x)) t) (same q refl) ∙ e

-- a row that is decided by what is known is the row
pub row_up : (g h : Gives) → IsBelow g h → (item : Cell) (columns : List ColumnDecl) (row : Row) → row_of g columns item ≡ Some row → row_of h columns item ≡ Some row
row_up g h up item [] row e = e
row_up g h up item (c ∷ cs) row e =
    cell_up c.name (column_value g item c) (column_value h item c) (row_of g cs item) (row_of h cs item) row (column_up g h up item c) (row_up g h up item cs) e

-- ---- functions that are done

-- a function's call is over, and its dependencies gave results
record Over (table : TableDecl) (row : FlightRow) (f : FunctionDecl) : Type 0 where
  outcome : Outcome
  known : row.known f.name ≡ Some outcome
  results : List (List ℕ × Cell)
  given : results_of (status table row) f.depends ≡ Given results

-- the function of this name, if there is one, is over
abbrev IsOver : TableDecl → FlightRow → List ℕ → Type 0
IsOver table row name = (f : FunctionDecl) → find_function name table.functions ≡ Some f → Over table row f

known_given : (r : Results) (o : Option Outcome) (q : Outcome) → with_results r (λ results. o) ≡ Some q → (results : List (List ℕ × Cell)) → r ≡ Given results → o ≡ Some q
known_given (Given xs) o q e results is = e
known_given (Missed cause) o q e results is = cc
known_given Pending o q e results is = cc

some_same : (f d : FunctionDecl) (o : Option FunctionDecl) → o ≡ Some f → o ≡ Some d → f ≡ d
some_same f d o a b = let e : Some f ≡ Some d = sym a ∙ b in cc

over_here : (table : TableDecl) (row : FlightRow) (n : ℕ) → n ≤ length table.functions → (name other : List ℕ) (f : FunctionDecl) (q : Outcome) (results : List (List ℕ × Cell))
    → find_function name table.functions ≡ Some f → bytes_eq name other ≡ true → with_results (results_of (λ d. hydrated_in n table.functions (Known row) d) f.depends) (λ r. row.known f.name) ≡ Some q
    → results_of (λ d. hydrated_in n table.functions (Known row) d) f.depends ≡ Given results → IsOver table row other
over_here table row n l name other f q results is same e given d found =
    let at : name ≡ other = (bytes_eq-Decides name other).0 same in
    let one : f ≡ d = some_same f d (find_function name table.functions) is (ap (λ k. find_function k table.functions) at ∙ found) in
    subst (λ k. Over table row k) one
    (record {
      outcome = q;
      known = known_given (results_of (λ k. hydrated_in n table.functions (Known row) k) f.depends) (row.known f.name) q e results given;
      results = results;
      given = given_up (λ k. hydrated_in n table.functions (Known row) k) (status table row) (deeper table.functions (Known row) n (length table.functions) l) f.depends results given;
    })

-- ---- functions that decide

with_waits : (name : List ℕ) (x : Cell) (r : Results) → (with_result name (Some (Gave x)) r ≡ Pending → ⊥) → (r ≡ Pending → ⊥)
with_waits name x r w e = w (ap (λ t. with_result name (Some (Gave x)) t) e)

decides_among : (decides : List ℕ → Bool) (h full : Gives) (goal : Type 0) → IsBelow h full → (names : List (List ℕ)) (here : Bool) → (results_of h names ≡ Pending → ⊥)
    → ((name : List ℕ) (o : Outcome) → decides name ≡ true → h name ≡ Some o → goal)
    → ((results : List (List ℕ × Cell)) → here ≡ true → results_of h names ≡ Given results → goal)
    → decides_some decides full names here ≡ true → goal
decides_among decides h full goal up [] here w each last e = last [] e refl
decides_among decides h full goal up (name ∷ names) here w each last e =
    by_known (λ x is k.
    let p : results_of h (name ∷ names) ≡ with_result name (Some (Gave x)) (results_of h names) = ap (λ o. with_result name o (results_of h names)) is in
    decides_among decides h full goal up names here (with_waits name x (results_of h names) (λ z. w (p ∙ z))) each
    (λ results j r. last (put_under name x results) j (p ∙ ap (λ t. with_result name (Some (Gave x)) t) r)) k)
    (h name) (decides name) refl refl
  where
    by_known : ((x : Cell) → h name ≡ Some (Gave x) → decides_some decides full names here ≡ true → goal) → (o : Option Outcome) (b : Bool) → h name ≡ o → decides name ≡ b → goal
    by_known by_later None b is d = absurd (w (ap (λ o. with_result name o (results_of h names)) is))
    by_known by_later (Some o) true is d = each name o d is
    by_known by_later (Some (Fails c)) false is d =
        let k : (false || (gave (Some (Fails c)) && decides_some decides full names here)) ≡ true = ap (λ z. z || (gave (Some (Fails c)) && decides_some decides full names here)) (sym d)
        ∙ ap (λ z. decides name || (gave z && decides_some decides full names here)) (sym (up name (Fails c) is)) ∙ e in
        absurd (cc)
    by_known by_later (Some (Gave x)) false is d =
        by_later x is
        (ap (λ z. z || (gave (Some (Gave x)) && decides_some decides full names here)) (sym d)
        ∙ ap (λ z. decides name || (gave z && decides_some decides full names here)) (sym (up name (Gave x) is)) ∙ e)

not_pending : (r : Results) (o : Option Outcome) (q : Outcome) → with_results r (λ results. o) ≡ Some q → r ≡ Pending → ⊥
not_pending (Given xs) o q e is = cc
not_pending (Missed cause) o q e is = cc
not_pending Pending o q e is = cc

decided_over : (table : TableDecl) (answers : Answers) (row : FlightRow) → RowAgrees table answers row → (n : ℕ) → n ≤ length table.functions → (g name : List ℕ) (q : Outcome)
    → hydrated_in n table.functions (Known row) name ≡ Some q → decides_in n table.functions (hydrated table answers row.item) g name ≡ true → IsOver table row g
decided_over table answers row agrees zero l g name q e d = cc
decided_over table answers row agrees (suc n) l g name q e d = by (λ k o j z. decided_over table answers row agrees n (omega arith) g k o z j) (find_function name table.functions) refl e d
  where
    by : ((k : List ℕ) (o : Outcome) → decides_in n table.functions (hydrated table answers row.item) g k ≡ true → hydrated_in n table.functions (Known row) k ≡ Some o → IsOver table row g) → (found : Option FunctionDecl) → find_function name table.functions ≡ found → called (Known row) (λ k. hydrated_in n table.functions (Known row) k) found ≡ Some q
        → decides_some (λ k. decides_in n table.functions (hydrated table answers row.item) g k) (hydrated table answers row.item) (depends_of found) (bytes_eq name g) ≡ true → IsOver table row g
    by below None is e d = cc
    by below (Some f) is e d =
        decides_among (λ k. decides_in n table.functions (hydrated table answers row.item) g k) (λ k. hydrated_in n table.functions (Known row) k) (hydrated table answers row.item) (IsOver table row g)
        (λ k o z. truth table answers row agrees k o (deeper table.functions (Known row) n (length table.functions) (omega arith) k o z)) f.depends (bytes_eq name g)
        (not_pending (results_of (λ k. hydrated_in n table.functions (Known row) k) f.depends) (row.known f.name) q e)
        below
        (λ results same given. over_here table row n (omega arith) name g f q results is same e given) d

or_cases : (goal : Type 0) (a b : Bool) → (a ≡ true → goal) → (b ≡ true → goal) → (a || b) ≡ true → goal
or_cases goal true b f g h = f refl
or_cases goal false b f g h = g h

pub and_parts : (a b : Bool) → (a && b) ≡ true → (a ≡ true) × (b ≡ true)
and_parts true b h = (refl, h)
and_parts false b h = cc

column_decides : (table : TableDecl) (answers : Answers) (row : FlightRow) → RowAgrees table answers row → (g : List ℕ) (column : ColumnDecl) (v : Outcome)
    → column_value (status table row) row.item column ≡ Some v → decides_source table.functions (hydrated table answers row.item) g column.function ≡ true → IsOver table row g
column_decides table answers row agrees g column v e d = by column.function e d
  where
    at : (name : List ℕ) (o : Option Outcome) → status table row name ≡ o → column_of column o ≡ Some v → decides_in (length table.functions) table.functions (hydrated table answers row.item) g name ≡ true → IsOver table row g
    at name None is k j = cc
    at name (Some q) is k j = decided_over table answers row agrees (length table.functions) (omega arith) g name q is j

    by : (function : Option (List ℕ)) → column_of column (source_of (status table row) row.item function) ≡ Some v → decides_source table.functions (hydrated table answers row.item) g function ≡ true → IsOver table row g
    by None k j = cc
    by (Some name) k j = at name (status table row name) refl k j

record CellParts (name : List ℕ) (a : Option Outcome) (r : Option Row) : Type 0 where
  value : Outcome
  is : a ≡ Some value
  later : (x : Cell) → value ≡ Gave x → (q : Row) × (r ≡ Some q)

cell_parts : (name : List ℕ) (a : Option Outcome) (r : Option Row) (row : Row) → with_cell name a r ≡ Some row → CellParts name a r
cell_parts name None r row e = let no : ⊥ = cc in absurd no
cell_parts name (Some (Fails c)) r row e = record { value = Fails c; is = refl; later = λ x k. cc }
cell_parts name (Some (Gave x)) None row e = let no : ⊥ = cc in absurd no
cell_parts name (Some (Gave x)) (Some q) row e = record { value = Gave x; is = refl; later = λ y k. (q, refl) }

gave_cell : (o : Outcome) → gave (Some o) ≡ true → (x : Cell) × (o ≡ Gave x)
gave_cell (Gave x) e = (x, refl)
gave_cell (Fails c) e = let no : ⊥ = cc in absurd no

-- each function that decides a row is over once the row is decided by what is known
columns_over : (table : TableDecl) (answers : Answers) (row : FlightRow) → RowAgrees table answers row → (g : List ℕ) (columns : List ColumnDecl) (r : Row)
    → row_of (status table row) columns row.item ≡ Some r → decides_columns table.functions (hydrated table answers row.item) row.item g columns ≡ true → IsOver table row g
columns_over table answers row agrees g [] r e d = cc
columns_over table answers row agrees g (c ∷ cs) r e d =
    let p : CellParts c.name (column_value (status table row) row.item c) (row_of (status table row) cs row.item) =
    cell_parts c.name (column_value (status table row) row.item c) (row_of (status table row) cs row.item) r e in
    or_cases (IsOver table row g) (decides_source table.functions (hydrated table answers row.item) g c.function)
    (gave (column_value (hydrated table answers row.item) row.item c) && decides_columns table.functions (hydrated table answers row.item) row.item g cs)
    (λ k. column_decides table answers row agrees g c p.value p.is k)
    (λ k.
    let both = and_parts (gave (column_value (hydrated table answers row.item) row.item c)) (decides_columns table.functions (hydrated table answers row.item) row.item g cs) k in
    let cell = gave_cell p.value (ap gave (sym (column_up (status table row) (hydrated table answers row.item) (truth table answers row agrees) row.item c p.value p.is)) ∙ both.0) in
    let later = p.later cell.0 cell.1 in
    columns_over table answers row agrees g cs later.0 later.1 both.1) d

-- ---- functions that are wanted

some_among : (needs : List ℕ → Bool) (h : Gives) (goal : Type 0) → ((name : List ℕ) (x : Cell) → needs name ≡ true → h name ≡ Some (Gave x) → goal) → (names : List (List ℕ)) (results : List (List ℕ × Cell))
    → results_of h names ≡ Given results → list_any needs names ≡ true → goal
some_among needs h goal each [] results e d = cc
some_among needs h goal each (name ∷ names) results e d = by (λ later rs j. some_among needs h goal each names later rs j) (h name) (results_of h names) refl refl e
  where
    by : ((later : List (List ℕ × Cell)) → results_of h names ≡ Given later → list_any needs names ≡ true → goal) → (o : Option Outcome) (r : Results) → h name ≡ o → results_of h names ≡ r → with_result name o r ≡ Given results → goal
    by more None r is rs k = cc
    by more (Some (Fails c)) r is rs k = cc
    by more (Some (Gave x)) (Missed c) is rs k = cc
    by more (Some (Gave x)) Pending is rs k = cc
    by more (Some (Gave x)) (Given later) is rs k = or_cases goal (needs name) (list_any needs names) (λ j. each name x j is) (λ j. more later rs j) d

wanted_over : (table : TableDecl) (row : FlightRow) (n : ℕ) → n ≤ length table.functions → (g name : List ℕ) (x : Cell)
    → hydrated_in n table.functions (Known row) name ≡ Some (Gave x) → needs_in n table.functions g name ≡ true → IsOver table row g
wanted_over table row zero l g name x e d = cc
wanted_over table row (suc n) l g name x e d = by (λ k y j z. wanted_over table row n (omega arith) g k y z j) (find_function name table.functions) refl e d
  where
    given : ((k : List ℕ) (y : Cell) → needs_in n table.functions g k ≡ true → hydrated_in n table.functions (Known row) k ≡ Some (Gave y) → IsOver table row g) → (f : FunctionDecl) (r : Results) → find_function name table.functions ≡ Some f → results_of (λ k. hydrated_in n table.functions (Known row) k) f.depends ≡ r
        → with_results r (λ results. row.known f.name) ≡ Some (Gave x) → (bytes_eq name g || list_any (λ k. needs_in n table.functions g k) f.depends) ≡ true → IsOver table row g
    given below f (Missed c) is rs e d = cc
    given below f Pending is rs e d = cc
    given below f (Given results) is rs e d =
        or_cases (IsOver table row g) (bytes_eq name g) (list_any (λ k. needs_in n table.functions g k) f.depends)
        (λ same. over_here table row n (omega arith) name g f (Gave x) results is same (ap (λ r. with_results r (λ k. row.known f.name)) rs ∙ e) rs)
        (λ some. some_among (λ k. needs_in n table.functions g k) (λ k. hydrated_in n table.functions (Known row) k) (IsOver table row g)
        below f.depends results rs some) d

    by : ((k : List ℕ) (y : Cell) → needs_in n table.functions g k ≡ true → hydrated_in n table.functions (Known row) k ≡ Some (Gave y) → IsOver table row g) → (found : Option FunctionDecl) → find_function name table.functions ≡ found → called (Known row) (λ k. hydrated_in n table.functions (Known row) k) found ≡ Some (Gave x)
        → (bytes_eq name g || list_any (λ k. needs_in n table.functions g k) (depends_of found)) ≡ true → IsOver table row g
    by below None is e d = cc
    by below (Some f) is e d = given below f (results_of (λ k. hydrated_in n table.functions (Known row) k) f.depends) is refl e d

column_wants : (table : TableDecl) (row : FlightRow) (g : List ℕ) (column : ColumnDecl) (x : Cell) → column_value (status table row) row.item column ≡ Some (Gave x) → needs_source table.functions g column.function ≡ true → IsOver table row g
column_wants table row g column x e d = by column.function e d
  where
    at : (name : List ℕ) (o : Option Outcome) → status table row name ≡ o → column_of column o ≡ Some (Gave x) → needs_in (length table.functions) table.functions g name ≡ true → IsOver table row g
    at name None is k j = cc
    at name (Some (Fails c)) is k j = cc
    at name (Some (Gave y)) is k j = wanted_over table row (length table.functions) (omega arith) g name y is j

    by : (function : Option (List ℕ)) → column_of column (source_of (status table row) row.item function) ≡ Some (Gave x) → needs_source table.functions g function ≡ true → IsOver table row g
    by None k j = cc
    by (Some name) k j = at name (status table row name) refl k j

record WholeParts (a : Option Outcome) (r : Option Row) : Type 0 where
  x : Cell
  is : a ≡ Some (Gave x)
  xs : List Cell
  later : r ≡ Some (Whole xs)

whole_parts : (name : List ℕ) (a : Option Outcome) (r : Option Row) (cells : List Cell) → with_cell name a r ≡ Some (Whole cells) → WholeParts a r
whole_parts name None r cells e = let no : ⊥ = cc in absurd no
whole_parts name (Some (Fails c)) r cells e = let no : ⊥ = cc in absurd no
whole_parts name (Some (Gave x)) None cells e = let no : ⊥ = cc in absurd no
whole_parts name (Some (Gave x)) (Some (Broken column cause)) cells e = let no : ⊥ = cc in absurd no
whole_parts name (Some (Gave x)) (Some (Whole xs)) cells e = record { x = x; is = refl; xs = xs; later = refl }

-- each function that a whole row wants is over
whole_over : (table : TableDecl) (row : FlightRow) (g : List ℕ) (columns : List ColumnDecl) (cells : List Cell)
    → row_of (status table row) columns row.item ≡ Some (Whole cells) → is_wanted table.functions columns g ≡ true → IsOver table row g
whole_over table row g [] cells e d = cc
whole_over table row g (c ∷ cs) cells e d =
    let p : WholeParts (column_value (status table row) row.item c) (row_of (status table row) cs row.item) =
    whole_parts c.name (column_value (status table row) row.item c) (row_of (status table row) cs row.item) cells e in
    or_cases (IsOver table row g) (needs_source table.functions g c.function) (is_wanted table.functions cs g) (λ k. column_wants table row g c p.x p.is k) (λ k. whole_over table row g cs p.xs p.later k) d

-- ---- calls

abbrev made_of : TableDecl → FlightRow → FunctionDecl → List (List ℕ × Cell) → ℕ → Made
made_of table row f results attempt = (call.Hydrate table.name f.name row.item results, attempt)

record Longer (listed all : List ℕ) : Type 0 where
  more : List ℕ
  is : all ≡ listed ++ more

listed_of_tried : (table : TableDecl) (f : FunctionDecl) (replies : ℕ → Seen) (known : Option Outcome) (tries : ℕ) (listed : Bool) → IsAsked table f replies known tries listed
    → Longer (listed_attempts tries listed) (attempts_from table f replies 1)
listed_of_tried table f replies known tries true a =
    let later : List ℕ =
    on_again (judged (rule_of table f.ignore f.retry) (suc tries) (replies (suc tries)).ending) (attempts_in (attempts_of (rule_of table f.ignore f.retry).retry - suc tries) f.ignore table f.retry replies (suc (suc tries))) in
    record { more = later; is = a.tried ∙ sym (append_assoc (up_to tries) (suc tries ∷ []) later) }
listed_of_tried table f replies known tries false a = record { more = attempts_from table f replies (suc tries); is = a.tried }

-- the calls of a function that a row has listed are among all its calls
listed_within : (table : TableDecl) (answers : Answers) (row : FlightRow) (p : Made → Bool) → RowAgrees table answers row → (f : FunctionDecl) → find_function f.name table.functions ≡ Some f
    → count p (listed_of table row f) ≤ count p (calls_of table answers row.item f)
listed_within table answers row p agrees f found = by (results_of (status table row) f.depends) refl
  where
    by : (r : Results) → results_of (status table row) f.depends ≡ r → count p (listed_with table row f r) ≤ count p (calls_of table answers row.item f)
    by (Missed c) is = omega arith
    by Pending is = omega arith
    by (Given results) is =
        let a : IsAsked table f (answers (call.Hydrate table.name f.name row.item results)) (row.known f.name) (row.tries f.name) (row.listed f.name) = agrees.asked f results found is in
        let l : Longer (listed_attempts (row.tries f.name) (row.listed f.name)) (attempts_from table f (answers (call.Hydrate table.name f.name row.item results)) 1) =
        listed_of_tried table f (answers (call.Hydrate table.name f.name row.item results)) (row.known f.name) (row.tries f.name) (row.listed f.name) a in
        let up : results_of (hydrated table answers row.item) f.depends ≡ Given results = given_up (status table row) (hydrated table answers row.item) (truth table answers row agrees) f.depends results is in
        let made : ℕ → Made = made_of table row f results in
        let is_all : calls_of table answers row.item f ≡ map made (listed_attempts (row.tries f.name) (row.listed f.name)) ++ map made l.more =
        ap (λ r. calls_with table answers row.item f r) up ∙ ap (λ xs. map made xs) l.is ∙ map-append made (listed_attempts (row.tries f.name) (row.listed f.name)) l.more in
        let n : count p (calls_of table answers row.item f) ≡ count p (map made (listed_attempts (row.tries f.name) (row.listed f.name))) + count p (map made l.more) =
        ap (λ xs. count p xs) is_all ∙ count_append p (map made (listed_attempts (row.tries f.name) (row.listed f.name))) (map made l.more) in
        omega (arith, n)

-- a function that is over has all its calls listed
over_listed : (table : TableDecl) (answers : Answers) (row : FlightRow) → RowAgrees table answers row → (f : FunctionDecl) → find_function f.name table.functions ≡ Some f → Over table row f
    → calls_of table answers row.item f ≡ listed_of table row f
over_listed table answers row agrees f found over =
    let replies : ℕ → Seen = answers (call.Hydrate table.name f.name row.item over.results) in
    let a : IsAsked table f replies (row.known f.name) (row.tries f.name) (row.listed f.name) = agrees.asked f over.results found over.given in
    let done = a.over over.outcome over.known in
    let made : ℕ → Made = made_of table row f over.results in
    let up : results_of (hydrated table answers row.item) f.depends ≡ Given over.results =
    given_up (status table row) (hydrated table answers row.item) (truth table answers row agrees) f.depends over.results over.given in
    ap (λ r. calls_with table answers row.item f r) up
    ∙ ap (λ xs. map made xs) (a.tried ∙ ap (λ xs. up_to (row.tries f.name) ++ xs) done.1)
    ∙ sym (ap (λ b. map made (listed_attempts (row.tries f.name) b)) done.0)
    ∙ sym (ap (λ r. listed_with table row f r) over.given)

flat_within : (p : Made → Bool) (functions : List FunctionDecl) (g h : FunctionDecl → List Made) (s t : FunctionDecl → Bool)
    → ((f : FunctionDecl) → find_function f.name functions ≡ Some f → s f ≡ true → (t f ≡ true) × (count p (g f) ≤ count p (h f)))
    → (fs : List FunctionDecl) → EachFound functions fs → count p (flat_map g (filter s fs)) ≤ count p (flat_map h (filter t fs))
flat_within p functions g h s t each [] found = omega arith
flat_within p functions g h s t each (f ∷ fs) found = by (flat_within p functions g h s t each fs found.1) (s f) (t f) refl refl
  where
    by : count p (flat_map g (filter s fs)) ≤ count p (flat_map h (filter t fs))
        → (a b : Bool) → s f ≡ a → t f ≡ b → count p (flat_map g (cond a (f ∷ filter s fs) (filter s fs))) ≤ count p (flat_map h (cond b (f ∷ filter t fs) (filter t fs)))
    by l false false is at = l
    by l false true is at = let n = count_append p (h f) (flat_map h (filter t fs)) in omega (arith, n, l)
    by l true false is at = let e : t f ≡ true = (each f found.0 is).0 in let no : true ≡ false = sym e ∙ at in absurd (cc)
    by l true true is at =
        let n = count_append p (h f) (flat_map h (filter t fs)) in
        let m = count_append p (g f) (flat_map g (filter s fs)) in
        let one = (each f found.0 is).1 in
        omega (arith, n, m, one, l)

-- the calls that a row in flight has listed are among those that it may come to make
pub row_within : (table : TableDecl) (request : ScanRequest) (answers : Answers) (row : FlightRow) → EachFound table.functions table.functions → RowAgrees table answers row → (p : Made → Bool)
    → count p (row_listed table request row) ≤ count p (row_reach table request answers row.item)
row_within table request answers row found agrees p =
    let wanted : FunctionDecl → Bool = λ f. is_wanted table.functions (columns_named request.columns table.columns) f.name in
    flat_within p table.functions (listed_of table row) (calls_of table answers row.item) wanted wanted (λ f is w. (w, listed_within table answers row p agrees f is)) table.functions found

-- once a row is whole, it has listed all of them
pub row_whole : (table : TableDecl) (request : ScanRequest) (answers : Answers) (row : FlightRow) (cells : List Cell) → EachFound table.functions table.functions → RowAgrees table answers row
    → row_of (status table row) (columns_named request.columns table.columns) row.item ≡ Some (Whole cells) → (p : Made → Bool)
    → count p (row_reach table request answers row.item) ≤ count p (row_listed table request row)
row_whole table request answers row cells found agrees e p =
    let wanted : FunctionDecl → Bool = λ f. is_wanted table.functions (columns_named request.columns table.columns) f.name in
    flat_within p table.functions (calls_of table answers row.item) (listed_of table row) wanted wanted
    (λ f is w. (
      w,
      let over : Over table row f = whole_over table row f.name (columns_named request.columns table.columns) cells e w f is in
          let n : count p (calls_of table answers row.item f) ≡ count p (listed_of table row f) = ap (λ xs. count p xs) (over_listed table answers row agrees f is over) in
          omega (arith, n),
    )) table.functions found

-- ---- what a row uses

or_first : (a b : Bool) → a ≡ true → (a || b) ≡ true
or_first true b e = refl
or_first false b e = cc

or_second : (a b : Bool) → b ≡ true → (a || b) ≡ true
or_second true b e = refl
or_second false b e = e

some_needs : (decides needs : List ℕ → Bool) (full : Gives) → ((name : List ℕ) → decides name ≡ true → needs name ≡ true) → (names : List (List ℕ)) (here : Bool) → decides_some decides full names here ≡ true
    → (here || list_any needs names) ≡ true
some_needs decides needs full each [] here e = or_first here false e
some_needs decides needs full each (name ∷ names) here e =
    or_cases ((here || list_any needs (name ∷ names)) ≡ true) (decides name) (gave (full name) && decides_some decides full names here)
    (λ d. or_second here (list_any needs (name ∷ names)) (or_first (needs name) (list_any needs names) (each name d)))
    (λ d.
    let later : (here || list_any needs names) ≡ true = some_needs decides needs full each names here (and_parts (gave (full name)) (decides_some decides full names here) d).1 in
    or_cases ((here || list_any needs (name ∷ names)) ≡ true) here (list_any needs names) (λ h. or_first here (list_any needs (name ∷ names)) h)
    (λ h. or_second here (list_any needs (name ∷ names)) (or_second (needs name) (list_any needs names) h)) later) e

decides_needs : (functions : List FunctionDecl) (full : Gives) (g : List ℕ) (n : ℕ) (name : List ℕ) → decides_in n functions full g name ≡ true → needs_in n functions g name ≡ true
decides_needs functions full g zero name e = cc
decides_needs functions full g (suc n) name e =
    some_needs (λ d. decides_in n functions full g d) (λ d. needs_in n functions g d) full (λ d k. decides_needs functions full g n d k) (depends_of (find_function name functions)) (bytes_eq name g) e

source_needs : (functions : List FunctionDecl) (full : Gives) (g : List ℕ) (function : Option (List ℕ)) → decides_source functions full g function ≡ true → needs_source functions g function ≡ true
source_needs functions full g None e = cc
source_needs functions full g (Some name) e = decides_needs functions full g (length functions) name e

-- a function that decides columns is wanted by them
columns_want : (functions : List FunctionDecl) (full : Gives) (item : Cell) (g : List ℕ) (columns : List ColumnDecl) → decides_columns functions full item g columns ≡ true → is_wanted functions columns g ≡ true
columns_want functions full item g [] e = cc
columns_want functions full item g (c ∷ cs) e =
    or_cases (is_wanted functions (c ∷ cs) g ≡ true) (decides_source functions full g c.function) (gave (column_value full item c) && decides_columns functions full item g cs)
    (λ d. or_first (needs_source functions g c.function) (is_wanted functions cs g) (source_needs functions full g c.function d))
    (λ d. or_second (needs_source functions g c.function) (is_wanted functions cs g)
    (columns_want functions full item g cs (and_parts (gave (column_value full item c)) (decides_columns functions full item g cs) d).1)) e

-- what a row rests on is among what it may come to call
pub used_reached : (table : TableDecl) (request : ScanRequest) (answers : Answers) (item : Cell) (s : WalkState) → EachFound table.functions table.functions → (p : Made → Bool)
    → count p (used_item table request answers item s) ≤ count p (row_reach table request answers item)
used_reached table request answers item s found p =
    let columns : List ColumnDecl = columns_named request.columns table.columns in
    flat_within p table.functions (calls_of table answers item) (calls_of table answers item) (λ f. decides_columns table.functions (hydrated table answers item) item f.name columns)
    (λ f. is_wanted table.functions columns f.name) (λ f is d. (columns_want table.functions (hydrated table answers item) item f.name columns d, omega arith)) table.functions found

-- once a row is decided, it has listed what it rests on
pub used_listed : (table : TableDecl) (request : ScanRequest) (answers : Answers) (row : FlightRow) (r : Row) (s : WalkState) → EachFound table.functions table.functions → RowAgrees table answers row
    → row_of (status table row) (columns_named request.columns table.columns) row.item ≡ Some r → (p : Made → Bool)
    → count p (used_item table request answers row.item s) ≤ count p (row_listed table request row)
used_listed table request answers row r s found agrees e p =
    let columns : List ColumnDecl = columns_named request.columns table.columns in
    flat_within p table.functions (calls_of table answers row.item) (listed_of table row) (λ f. decides_columns table.functions (hydrated table answers row.item) row.item f.name columns)
    (λ f. is_wanted table.functions columns f.name)
    (λ f is d. (
      columns_want table.functions (hydrated table answers row.item) row.item f.name columns d,
      let over : Over table row f = columns_over table answers row agrees f.name columns r e d f is in
          let n : count p (calls_of table answers row.item f) ≡ count p (listed_of table row f) = ap (λ xs. count p xs) (over_listed table answers row agrees f is over) in
          omega (arith, n),
    )) table.functions found

-- ---- a fresh row

map_none : (table : TableDecl) (item : Cell) (f : FunctionDecl) (r : Results) → listed_with table (fresh_row item) f r ≡ []
map_none table item f (Given results) = refl
map_none table item f (Missed cause) = refl
map_none table item f Pending = refl

flat_none : (g : FunctionDecl → List Made) → ((f : FunctionDecl) → g f ≡ []) → (fs : List FunctionDecl) → flat_map g fs ≡ []
flat_none g none [] = refl
flat_none g none (f ∷ fs) = ap (λ xs. xs ++ flat_map g fs) (none f) ∙ flat_none g none fs

-- a fresh row has listed nothing
pub fresh_listed : (table : TableDecl) (request : ScanRequest) (item : Cell) → row_listed table request (fresh_row item) ≡ []
fresh_listed table request item =
    flat_none (listed_of table (fresh_row item)) (λ f. map_none table item f (results_of (status table (fresh_row item)) f.depends))
    (filter (λ f. is_wanted table.functions (columns_named request.columns table.columns) f.name) table.functions)

-- and agrees with any answers
pub fresh_agrees : (table : TableDecl) (answers : Answers) (item : Cell) → RowAgrees table answers (fresh_row item)
fresh_agrees table answers item = record {
  follows = λ f results o found given known. absurd (cc);
  asked = λ f results found given. record { tried = refl; same = refl; over = λ o known. absurd (cc) };
  order = λ f found waits. (refl, refl, refl);
}

-- ---- functions of different names

pub bytes_turn : (a b : List ℕ) → bytes_eq a b ≡ false → bytes_eq b a ≡ false
bytes_turn a b h = false_from_ne_true (bytes_eq b a) (λ e. false≢true (sym h ∙ (bytes_eq-Decides a b).1 (sym ((bytes_eq-Decides b a).0 e))))

find_past : (g : FunctionDecl) (gs : List FunctionDecl) (name : List ℕ) → bytes_eq g.name name ≡ false → find_function name (g ∷ gs) ≡ find_function name gs
find_past g gs name e = ap (λ b. if b then Some g else find_function name gs) e

pub bytes_itself : (a : List ℕ) → bytes_eq a a ≡ true
bytes_itself a = (bytes_eq-Decides a a).1 refl

found_past : (g : FunctionDecl) (gs fs : List FunctionDecl) → has_name (names_of_functions fs) g.name ≡ false → EachFound gs fs → EachFound (g ∷ gs) fs
found_past g gs [] h r = tt
found_past g gs (f ∷ fs) h r =
    let parts = or_parts (bytes_eq g.name f.name) (has_name (names_of_functions fs) g.name) h in
    (find_past g gs f.name parts.0 ∙ r.0, found_past g gs fs parts.1 r.1)

pub each_found : (fs : List FunctionDecl) → are_distinct (names_of_functions fs) ≡ true → EachFound fs fs
each_found [] d = tt
each_found (f ∷ fs) d =
    let parts = and_parts (not (has_name (names_of_functions fs) f.name)) (are_distinct (names_of_functions fs)) d in
    (ap (λ b. if b then Some f else find_function f.name fs) (bytes_itself f.name), found_past f fs fs (not-true (has_name (names_of_functions fs) f.name) parts.0) (each_found fs parts.1))
