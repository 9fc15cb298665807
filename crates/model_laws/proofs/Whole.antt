-- On a whole book nothing waits.
use Rattle.std.proofs.Common.{◌≡◌, ℕ, zero, suc, ◌+◌, ◌-◌, ◌<◌, ◌≤◌, nat_lt, Bool, true, false, ◌&&◌, List, [], ◌∷◌, ◌++◌, length, Option, Some, None, is_some, if◌then◌else◌, refl, arith}
use Rattle.std.proofs.lemmas.Bool.{false≢true, ltb-true}
use Rattle.std.specs.List.{list_all}
use Rattle.sp_value.specs.Patterns.{fits_some}
use Rattle.sp_value.specs.declared.cell.Cell.{Cell}
use Rattle.sp_model.specs.Rests.{rests_by, rests_in, rests, rests_some, column_rests}
use Rattle.sp_model.proofs.Lawful.{whole_settles}
use Rattle.sp_model.specs.Hydration.{with_result, results_of, with_results, find_function, called, hydrated_in, outcome_of, hydrate_call, hydrated}
use Rattle.sp_model.specs.RowOf.{columns_named, column_of, source_of, column_value, with_cell, row_of}
use Rattle.sp_model.specs.Settling.{Answers, whole, rule_of, is_ignored, is_retried, attempts_of, settled, Verdict, Accept, Again, Refuse, Open, judged}
use Rattle.sp_model.specs.Walk.{start, and_then, meets, is_reached, with_row_kept, with_row, visit_item, visit_all, Source, accepted, ended, unsteady, walk_in, walk, list_source, get_source, parent_source, parent_of, visit_parent, walk_by, walk_value, walk_at, scan_value}
use Rattle.sp_model.specs.declared.call.Call.{Call}
use Rattle.sp_model.specs.declared.call.Call.TheVariants as call
use Rattle.sp_model.specs.declared.call.Condition.{Condition}
use Rattle.sp_model.specs.declared.call.Ending.{Ending}
use Rattle.sp_model.specs.declared.call.Ending.TheVariants.{End, Error}
use Rattle.sp_model.specs.declared.call.Reply.{Reply}
use Rattle.sp_model.specs.declared.call.Version.TheVariants.{Is, Bad}
use Rattle.sp_model.specs.declared.declaration.ColumnDecl.{ColumnDecl}
use Rattle.sp_model.specs.declared.declaration.FunctionDecl.{FunctionDecl}
use Rattle.sp_model.specs.declared.declaration.Retry.{Retry}
use Rattle.sp_model.specs.declared.declaration.Rule.{Rule}
use Rattle.sp_model.specs.declared.declaration.TableDecl.{TableDecl}
use Rattle.sp_model.specs.declared.outcome.Outcome.{Outcome}
use Rattle.sp_model.specs.declared.outcome.Outcome.TheVariants.{Gave, Fails}
use Rattle.sp_model.specs.declared.outcome.Results.{Results}
use Rattle.sp_model.specs.declared.outcome.Results.TheVariants.{Given, Missed, Pending}
use Rattle.sp_model.specs.declared.outcome.Row.{Row}
use Rattle.sp_model.specs.declared.outcome.Row.TheVariants.{Whole, Broken}
use Rattle.sp_model.specs.declared.outcome.Settled.{Settled}
use Rattle.sp_model.specs.declared.outcome.Settled.TheVariants.{Items, Refused}
use Rattle.sp_model.specs.declared.outcome.Walk.{Walk}
use Rattle.sp_model.specs.declared.outcome.Walk.TheVariants.{Going, Full, Failed, Waiting}
use Rattle.sp_model.specs.declared.outcome.WalkState.{WalkState}
use Rattle.sp_model.specs.declared.scan.Access.{Access}
use Rattle.sp_model.specs.declared.scan.Access.TheVariants.{Get, List as OfList, Parents}
use Rattle.sp_model.specs.declared.scan.Cause.TheVariants.{TooMany}
use Rattle.sp_model.specs.declared.scan.ScanRequest.{ScanRequest}
use Rattle.model_laws.proofs.Merging.{left, right}
use Rattle.model_laws.specs.WholeBook.{WholeBookHydrates, WholeBookHasValues}

-- ---- functions

abbrev are_known : Results → Bool
are_known (Given results) = true
are_known (Missed cause) = true
are_known Pending = false

with_known : (name : List ℕ) (o : Option Outcome) (rest : Results) → is_some o ≡ true → are_known rest ≡ true → are_known (with_result name o rest) ≡ true
with_known name None rest h k = absurd (false≢true h)
with_known name (Some (Fails cause)) rest h k = refl
with_known name (Some (Gave x)) (Given results) h k = refl
with_known name (Some (Gave x)) (Missed cause) h k = refl
with_known name (Some (Gave x)) Pending h k = absurd (false≢true k)

known_results : (gives : List ℕ → Option Outcome) (test : List ℕ → Bool) → ((name : List ℕ) → test name ≡ true → is_some (gives name) ≡ true) → (names : List (List ℕ)) → list_all test names ≡ true
    → are_known (results_of gives names) ≡ true
known_results gives test f [] h = refl
known_results gives test f (n ∷ ns) h =
    with_known n (gives n) (results_of gives ns) (f n (left (test n) (list_all test ns) h)) (known_results gives test f ns (right (test n) (list_all test ns) h))

known_call : (r : Results) (call : List (List ℕ × Cell) → Option Outcome) → ((results : List (List ℕ × Cell)) → is_some (call results) ≡ true) → are_known r ≡ true → is_some (with_results r call) ≡ true
known_call (Given results) call f h = f results
known_call (Missed cause) call f h = refl
known_call Pending call f h = absurd (false≢true h)

known_called : (call : FunctionDecl → List (List ℕ × Cell) → Option Outcome) (gives : List ℕ → Option Outcome) (test : List ℕ → Bool) (o : Option FunctionDecl)
    → ((f : FunctionDecl) (results : List (List ℕ × Cell)) → is_some (call f results) ≡ true) → ((name : List ℕ) → test name ≡ true → is_some (gives name) ≡ true)
    → rests_by test o ≡ true → is_some (called call gives o) ≡ true
known_called call gives test None f g h = absurd (false≢true h)
known_called call gives test (Some d) f g h = known_call (results_of gives d.depends) (call d) (f d) (known_results gives test g d.depends h)

known_in : (n : ℕ) (functions : List FunctionDecl) (call : FunctionDecl → List (List ℕ × Cell) → Option Outcome) → ((f : FunctionDecl) (results : List (List ℕ × Cell)) → is_some (call f results) ≡ true)
    → (name : List ℕ) → rests_in n functions name ≡ true → is_some (hydrated_in n functions call name) ≡ true
known_in zero functions call f name h = absurd (false≢true h)
known_in (suc n) functions call f name h =
    known_called call (λ d. hydrated_in n functions call d) (λ d. rests_in n functions d) (find_function name functions) f (λ d k. known_in n functions call f d k) h

known_outcome : (name : List ℕ) (s : Option Settled) → is_some s ≡ true → is_some (outcome_of name s) ≡ true
known_outcome name None h = absurd (false≢true h)
known_outcome name (Some (Items [])) h = refl
known_outcome name (Some (Items (x ∷ []))) h = refl
known_outcome name (Some (Items (x ∷ y ∷ more))) h = refl
known_outcome name (Some (Refused attempt text)) h = refl

abbrev Replies : Type 0
Replies = Call → ℕ → Reply

abbrev of_replies : Replies → Answers
of_replies replies asked attempt = whole (replies asked attempt)

known_hydrated : (table : TableDecl) (replies : Replies) (item : Cell) (name : List ℕ) → rests table.functions name ≡ true → is_some (hydrated table (of_replies replies) item name) ≡ true
known_hydrated table replies item name h =
    known_in (length table.functions) table.functions (hydrate_call table (of_replies replies) item)
    (λ f results. known_outcome f.name (settled (rule_of table f.ignore f.retry) (of_replies replies (call.Hydrate table.name f.name item results)))
    (whole_settles (rule_of table f.ignore f.retry) (replies (call.Hydrate table.name f.name item results))))
    name h

-- ---- rows

known_column_of : (column : ColumnDecl) (o : Option Outcome) → is_some o ≡ true → is_some (column_of column o) ≡ true
known_column_of column None h = absurd (false≢true h)
known_column_of column (Some (Fails cause)) h = refl
known_column_of column (Some (Gave x)) h = refl

known_source : (gives : List ℕ → Option Outcome) (functions : List FunctionDecl) (item : Cell) (f : Option (List ℕ)) → ((name : List ℕ) → rests functions name ≡ true → is_some (gives name) ≡ true)
    → rests_some functions f ≡ true → is_some (source_of gives item f) ≡ true
known_source gives functions item None g h = refl
known_source gives functions item (Some name) g h = g name h

known_cell : (name : List ℕ) (o : Option Outcome) (rest : Option Row) → is_some o ≡ true → is_some rest ≡ true → is_some (with_cell name o rest) ≡ true
known_cell name None rest h k = absurd (false≢true h)
known_cell name (Some (Fails cause)) rest h k = refl
known_cell name (Some (Gave x)) None h k = absurd (false≢true k)
known_cell name (Some (Gave x)) (Some (Broken column cause)) h k = refl
known_cell name (Some (Gave x)) (Some (Whole xs)) h k = refl

known_row : (gives : List ℕ → Option Outcome) (functions : List FunctionDecl) (item : Cell) → ((name : List ℕ) → rests functions name ≡ true → is_some (gives name) ≡ true)
    → (columns : List ColumnDecl) → list_all (column_rests functions) columns ≡ true → is_some (row_of gives columns item) ≡ true
known_row gives functions item g [] h = refl
known_row gives functions item g (k ∷ ks) h =
    known_cell k.name (column_value gives item k) (row_of gives ks item)
    (known_column_of k (source_of gives item k.function) (known_source gives functions item k.function g (left (column_rests functions k) (list_all (column_rests functions) ks) h)))
    (known_row gives functions item g ks (right (column_rests functions k) (list_all (column_rests functions) ks) h))

-- ---- walks

abbrev Moves : Walk → Type 0
Moves (Going s) = Unit {0}
Moves (Full s) = Unit {0}
Moves (Failed row column cause) = Unit {0}
Moves Waiting = ⊥

moves_then : (w : Walk) (k : WalkState → Walk) → Moves w → ((s : WalkState) → Moves (k s)) → Moves (and_then w k)
moves_then (Going s) k h f = f s
moves_then (Full s) k h f = tt
moves_then (Failed row column cause) k h f = tt
moves_then Waiting k h f = absurd h

visits_move : (visit : Cell → WalkState → Walk) → ((item : Cell) (s : WalkState) → Moves (visit item s)) → (items : List Cell) (s : WalkState) → Moves (visit_all visit items s)
visits_move visit f [] s = tt
visits_move visit f (item ∷ items) s = moves_then (visit item s) (λ t. visit_all visit items t) (f item s) (λ t. visits_move visit f items t)

retried_below : (retry : Option Retry) (a : ℕ) (text : List ℕ) → is_retried retry a text ≡ true → a < attempts_of retry
retried_below None a text h = absurd (false≢true h)
retried_below (Some r) a text h = ltb-true a r.attempts (right (fits_some r.patterns text) (nat_lt a r.attempts) h)

-- an ending is taken, or refused, or asked again below the rule's number
abbrev pub Means : ℕ → ℕ → Verdict → Type 0
Means attempt attempts Accept = Unit {0}
Means attempt attempts Again = attempt < attempts
Means attempt attempts (Refuse text) = Unit {0}
Means attempt attempts Open = ⊥

error_means : (ignored retried : Bool) (attempt attempts : ℕ) (text : List ℕ) → (retried ≡ true → attempt < attempts) → Means attempt attempts (if ignored then Accept else (if retried then Again else Refuse text))
error_means true retried attempt attempts text f = tt
error_means false true attempt attempts text f = f refl
error_means false false attempt attempts text f = tt

pub ending_means : (rule : Rule) (attempt : ℕ) (e : Ending) → Means attempt (attempts_of rule.retry) (judged rule attempt (Some e))
ending_means rule attempt End = tt
ending_means rule attempt (Error text) = error_means (is_ignored rule.ignore text) (is_retried rule.retry attempt text) attempt (attempts_of rule.retry) text (retried_below rule.retry attempt text)

accepted_moves : (source : Source) (count : ℕ) (s : WalkState) → Moves (accepted source count s)
accepted_moves source count s =
    elim (source.single && nat_lt 1 count) as (λ b. Moves (if b then Failed (suc s.items) None (TooMany source.function count) else Going s)) [ true ↦ tt | false ↦ tt ]

ended_moves : (source : Source) (attempt attempts : ℕ) (v : Verdict) (count : ℕ) (s : WalkState) (again : Walk) → Means attempt attempts v → (attempt < attempts → Moves again) → Moves (ended source attempt v count s again)
ended_moves source attempt attempts Accept count s again m f = accepted_moves source count s
ended_moves source attempt attempts Again count s again m f = f m
ended_moves source attempt attempts (Refuse text) count s again m f = tt
ended_moves source attempt attempts Open count s again m f = absurd m

walk_moves_in : (visit : Cell → WalkState → Walk) → ((item : Cell) (s : WalkState) → Moves (visit item s)) → (source : Source) (replies : ℕ → Reply) (n attempt : ℕ) (s : WalkState)
    → attempts_of source.rule.retry ≤ n + attempt → Moves (walk_in (suc n) visit source (λ a. whole (replies a)) attempt s)
walk_moves_in visit f source replies zero attempt s h =
    moves_then (visit_all visit (replies attempt).items s) _ (visits_move visit f (replies attempt).items s)
    (λ t. ended_moves source attempt (attempts_of source.rule.retry) (judged source.rule attempt (Some (replies attempt).ending)) (length (replies attempt).items) t Waiting
    (ending_means source.rule attempt (replies attempt).ending) (λ below. absurd (omega arith)))
walk_moves_in visit f source replies (suc n) attempt s h =
    let again : Walk = walk_in (suc n) visit source (λ a. whole (replies a)) (suc attempt) (unsteady s) in
    moves_then (visit_all visit (replies attempt).items s) _ (visits_move visit f (replies attempt).items s)
    (λ t. ended_moves source attempt (attempts_of source.rule.retry) (judged source.rule attempt (Some (replies attempt).ending)) (length (replies attempt).items) t again
    (ending_means source.rule attempt (replies attempt).ending) (λ below. walk_moves_in visit f source replies n (suc attempt) (unsteady s) (omega arith)))

walk_moves : (visit : Cell → WalkState → Walk) → ((item : Cell) (s : WalkState) → Moves (visit item s)) → (source : Source) (replies : ℕ → Reply) (s : WalkState) → Moves (walk visit source (λ a. whole (replies a)) s)
walk_moves visit f source replies s = walk_moves_in visit f source replies (attempts_of source.rule.retry - 1) 1 s (omega arith)

row_moves : (conditions : List Condition) (columns : List ColumnDecl) (limit : Option ℕ) (row : Option Row) (s : WalkState) → is_some row ≡ true → Moves (with_row conditions columns limit row s)
row_moves conditions columns limit None s h = absurd (false≢true h)
row_moves conditions columns limit (Some (Broken column cause)) s h = tt
row_moves conditions columns limit (Some (Whole cells)) s h =
    let t : WalkState = record { rows = s.rows; items = suc s.items; steady = s.steady } in
    let u : WalkState = record { rows = s.rows ++ cells ∷ []; items = suc s.items; steady = s.steady } in
    let kept : Moves (with_row_kept limit (s.rows ++ cells ∷ []) s) = elim (is_reached limit (length (s.rows ++ cells ∷ []))) as (λ b. Moves (if b then Full u else Going u)) [ true ↦ tt | false ↦ tt ] in
    elim (meets conditions columns cells) as (λ b. Moves (if b then with_row_kept limit (s.rows ++ cells ∷ []) s else Going t)) [ true ↦ kept | false ↦ tt ]

module _ (table : TableDecl) (request : ScanRequest) (replies : Replies) (h : list_all (column_rests table.functions) (columns_named request.columns table.columns) ≡ true) where
  item_moves : (item : Cell) (s : WalkState) → Moves (visit_item table request (of_replies replies) item s)
  item_moves item s =
      row_moves request.conditions (columns_named request.columns table.columns) request.limit (row_of (hydrated table (of_replies replies) item) (columns_named request.columns table.columns) item) s
      (known_row (hydrated table (of_replies replies) item) table.functions item (known_hydrated table replies item) (columns_named request.columns table.columns) h)

  parent_moves : (parent : Cell) (s : WalkState) → Moves (visit_parent table request (of_replies replies) parent s)
  parent_moves parent s =
      walk_moves (visit_item table request (of_replies replies)) item_moves (list_source table table.list) (replies (call.List table.name request.conditions (Some parent))) s

  scan_moves : (access : Access) → Moves (walk_by access table request (of_replies replies))
  scan_moves Get = walk_moves (visit_item table request (of_replies replies)) item_moves (get_source table table.get) (replies (call.Get table.name request.conditions)) start
  scan_moves OfList = walk_moves (visit_item table request (of_replies replies)) item_moves (list_source table table.list) (replies (call.List table.name request.conditions None)) start
  scan_moves Parents = walk_moves (visit_parent table request (of_replies replies)) parent_moves (parent_source table (parent_of table.list)) (replies (call.Parents table.name)) start

value_known : (w : Walk) → Moves w → is_some (walk_value w) ≡ true
value_known (Going s) h = refl
value_known (Full s) h = refl
value_known (Failed row column cause) h = refl
value_known Waiting h = absurd h

pub whole_hydrates : WholeBookHydrates
whole_hydrates book table connection version item name h =
    known_hydrated table (λ asked attempt. book.reply (record { connection = connection; version = version; call = asked; attempt = attempt })) item name h

pub whole_values : WholeBookHasValues
unfolding walk_at scan_value
whole_values book table request (Bad text) h = refl
whole_values book table request (Is v) h =
    let replies : Replies = λ asked attempt. book.reply (record { connection = request.connection; version = v; call = asked; attempt = attempt }) in
    value_known (walk_by request.access table request (of_replies replies)) (scan_moves table request replies h request.access)
