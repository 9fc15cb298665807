-- A row goes on: a call of it is listed, or a piece of a call is taken in.
use Rattle.std.proofs.Common.{◌≡◌, ◌≤◌, ◌==◌, ℕ, zero, suc, Bool, true, false, ◌||◌, List, [], ◌∷◌, length, get_or, set, Option, Some, None, IsSome, if◌then◌else◌, refl, sym, ap, subst, ◌∙◌, arith}
use Rattle.std.specs.Prelude.{slice_get}
use Rattle.std.proofs.lemmas.Bool.Decides.{Decides-eqb}
use Rattle.sp_value.specs.declared.cell.Cell.{Cell}
use Rattle.sp_model.specs.Calls.{is_wanted}
use Rattle.sp_model.specs.Hydration.{outcome_of}
use Rattle.sp_model.specs.RowOf.{columns_named}
use Rattle.sp_model.specs.Settling.{Seen, Answers, or_else, rule_of, is_ignored, is_retried, Verdict, Accept, Again, Refuse, Open, judged, settled_by}
use Rattle.sp_model.specs.declared.call.Call.{Call}
use Rattle.sp_model.specs.declared.call.Call.TheVariants as call
use Rattle.sp_model.specs.declared.call.Ending.{Ending}
use Rattle.sp_model.specs.declared.call.Ending.TheVariants.{End, Error}
use Rattle.sp_model.specs.declared.call.Piece.{Piece}
use Rattle.sp_model.specs.declared.call.Piece.TheVariants as piece
use Rattle.sp_model.specs.declared.declaration.FunctionDecl.{FunctionDecl}
use Rattle.sp_model.specs.declared.declaration.Rule.{Rule}
use Rattle.sp_model.specs.declared.declaration.TableDecl.{TableDecl}
use Rattle.sp_model.specs.declared.outcome.Outcome.{Outcome}
use Rattle.sp_model.specs.declared.outcome.Results.{Results}
use Rattle.sp_model.specs.declared.outcome.Results.TheVariants.{Given}
use Rattle.sp_model.specs.declared.outcome.Settled.TheVariants.{Items}
use Rattle.sp_model.specs.declared.scan.ScanRequest.{ScanRequest}
use Rattle.hydrate_graph.specs.Graphs.{known, is_ready, results_at, rules_in}
use Rattle.hydrate_graph.specs.Numbers.{number_of, name_at, name_of}
use Rattle.scan_laws.proofs.Rowing.{function_is_listed, function_is_asked_again, function_is_settled}
use Rattle.scan_laws.specs.Counts.{count}
use Rattle.scan_laws.specs.Flights.{AreApart, RowAgrees, RowKeeps}
use Rattle.scan_laws.specs.Laws.{IsReady}
use Rattle.scan_laws.specs.Reaching.{Made}
use Rattle.scan_laws.specs.States.{FlightRow}
use Rattle.scan_laws.specs.Steps.{put, function_listed, function_again, function_settled}
use Rattle.row_flight.proofs.Given.{ReadyFunction, ready_function}
use Rattle.row_flight.proofs.Heard.{hears_item, hears_listed, hears_again, hears_settled}
use Rattle.row_flight.proofs.Naming.{get_mapped}
use Rattle.row_flight.proofs.Viewing.{read_put, read_keeps, known_put}
use Rattle.row_flight.specs.Attempts.{is_next, accepted, outcome_by, attempt_by, with_item, listed_attempt, IsAttempt}
use Rattle.row_flight.specs.Hearing.{IsPieceOfSeen, Hears, RowHears, RowGoes}
use Rattle.row_flight.specs.Pooled.{IsSound}
use Rattle.row_flight.specs.Rows.{flight_row, item_of, attempt_of, with_attempt, slot_of, settled_so, rule_at, no_rule, row_lists, row_hears, call_with, call_of, IsPlaced}
use Rattle.row_flight.specs.declared.attempt.Attempt.{Attempt}
use Rattle.row_flight.specs.declared.row.RowCalls.{RowCalls}

-- a step of the laws is the step of a row
goes_by : (table : TableDecl) (request : ScanRequest) (answers : Answers) (row next : RowCalls) (view : FlightRow) (came : List ℕ → Option Cell) (added : List Made) → flight_row next ≡ view → ((name : List ℕ) → item_of next name ≡ came name)
    → RowKeeps table request answers (flight_row row) view added → Hears table answers view came → RowGoes table request answers row next added
goes_by table request answers row next view came added is items keeps hears =
    let same : came ≡ item_of next = λ i. λ name. sym (items name) i in
    record {
      keeps = subst (λ z. RowKeeps table request answers (flight_row row) z added) (sym is) keeps;
      hears = subst (λ z. Hears table answers z (item_of next)) (sym is) (subst (λ c. Hears table answers view c) same hears);
    }

pub stays : (table : TableDecl) (request : ScanRequest) (answers : Answers) (row : FlightRow) → RowAgrees table answers row → RowKeeps table request answers row row []
stays table request answers row agrees = record { agrees = agrees; item = refl; listed = λ p. omega arith }

-- ---- what pieces mean

never_open : (rule : Rule) (attempt : ℕ) (e : Ending) → judged rule attempt (Some e) ≡ Open → ⊥
never_open rule attempt End is = cc
never_open rule attempt (Error text) is = by (is_ignored rule.ignore text) (is_retried rule.retry attempt text) is
  where
    by : (a b : Bool) → (if a then Accept else (if b then Again else Refuse text)) ≡ Open → ⊥
    by true b e = cc
    by false true e = cc
    by false false e = cc

counted : (name : List ℕ) (items : List Cell) (item : Option Cell) → (length items ≡ 1 → (x : Cell) × (item ≡ Some x) × (slice_get items 0 ≡ Some x)) → outcome_of name (Some (Items items)) ≡ Some (accepted name (length items) item)
counted name [] item one = refl
counted name (x ∷ []) item one =
    let p = one refl in
    let s : x ≡ p.0 = (let e = p.2 in cc) in
    ap (λ z. outcome_of name (Some (Items (z ∷ [])))) s ∙ sym (ap (λ o. Some (accepted name 1 o)) p.1)
counted name (x ∷ y ∷ more) item one = refl

accepted_is : (name : List ℕ) (items : List Cell) (n : ℕ) (item : Option Cell) → n ≡ length items → (n ≡ 1 → (x : Cell) × (item ≡ Some x) × (slice_get items 0 ≡ Some x)) → outcome_of name (Some (Items items)) ≡ Some (accepted name n item)
accepted_is name items n item e one =
    counted name items item (λ is. one (e ∙ is)) ∙ ap (λ k. Some (accepted name k item)) (sym e)

or_by : (goal : Type 0) (a b : Bool) → (a ≡ true → goal) → (b ≡ true → goal) → (a || b) ≡ true → goal
or_by goal true b left right e = left refl
or_by goal false b left right e = right e

next_one : (next : ℕ) → (1 == 0 || 1 == next) ≡ true → next ≡ 1
next_one next e = or_by (next ≡ 1) (1 == 0) (1 == next) (λ a. let z = (Decides-eqb 1 0).0 a in absurd (omega (arith, z))) (λ b. sym ((Decides-eqb 1 next).0 b)) e

next_zero : (next place : ℕ) → (place == 0 || place == next) ≡ true → (1 ≤ next → ⊥) → place ≡ 0
next_zero next place e never = or_by (place ≡ 0) (place == 0) (place == next) (λ a. (Decides-eqb place 0).0 a) (λ b. let s = (Decides-eqb place next).0 b in below next s never) e
  where
    below : (n : ℕ) → place ≡ n → (1 ≤ n → ⊥) → place ≡ 0
    below zero s h = s
    below (suc n) s h = absurd (h (omega arith))

some_item : (o : Option Cell) → IsSome o → (x : Cell) × (o ≡ Some x)
some_item None s = absurd (cc)
some_item (Some x) s = (x, refl)

module _ (table : TableDecl) (request : ScanRequest) (answers : Answers) (row : RowCalls) (f : FunctionDecl) (results : List (List ℕ × Cell)) (fs : row.graph.plan.functions ≡ table.functions)
    (declared : slice_get row.graph.plan.functions (number_of row.graph.plan.functions f.name) ≡ Some f) (slot : ℕ) (placed : IsPlaced row (number_of row.graph.plan.functions f.name) slot)
    (ready : IsReady table (flight_row row) f results) (agrees : RowAgrees table answers (flight_row row)) (hears : RowHears table answers row) where
  abbrev number : ℕ
  number = number_of row.graph.plan.functions f.name

  abbrev present : Attempt
  present = attempt_of row number

  abbrev replies : ℕ → Seen
  replies = answers (call.Hydrate table.name f.name row.graph.item results)

  abbrev with_present : Attempt → RowCalls
  with_present a = record { graph = row.graph; attempts = with_attempt row.attempts (slot_of row.graph.plan number) a; all_listed = false }

  -- the present attempt is listed
  pub lists : AreApart table → is_wanted table.functions (columns_named request.columns table.columns) f.name ≡ true → present.listed ≡ false
      → RowGoes table request answers row (row_lists row number) ((call.Hydrate table.name f.name row.graph.item results, suc present.tries) ∷ [])
  lists apart wanted l =
      let a : Attempt = listed_attempt present in
      goes_by table request answers row (row_lists row number) (function_listed (flight_row row) f.name) (item_of row) ((call.Hydrate table.name f.name row.graph.item results, suc present.tries) ∷ [])
      (λ i. record {
        item = row.graph.item;
        known = known row.graph;
        tries = λ name. read_keeps row f declared slot placed a (λ z. z.tries) refl name i;
        listed = λ name. read_put row f declared slot placed a (λ z. z.listed) true refl name i;
      })
      (read_keeps row f declared slot placed a (λ z. z.item) refl)
      (function_is_listed table request answers (flight_row row) f results apart agrees ready wanted l)
      (hears_listed table answers (flight_row row) (item_of row) hears f)

  module _ (l : present.listed ≡ true) (sound : IsAttempt present) (tick : ℕ) where
    -- ---- an item

    first_item : (place : ℕ) (x : Cell) → is_next present (piece.Item place x) ≡ true → slice_get (replies (suc present.tries)).items place ≡ Some x → (o : Option Cell) → present.item ≡ o
        → (y : Cell) × (or_else present.item (Some x) ≡ Some y) × (slice_get (replies (suc present.tries)).items 0 ≡ Some y)
    first_item place x next is None none =
        let at : place ≡ 0 = next_zero present.next place next (λ le. let s = some_item present.item (sound.first le) in let bad : None ≡ Some s.0 = sym none ∙ s.1 in cc) in
        (x, ap (λ o. or_else o (Some x)) none, ap (slice_get (replies (suc present.tries)).items) (sym at) ∙ is)
    first_item place x next is (Some y) there = (y, ap (λ o. or_else o (Some x)) there, hears.first f results y ready.found ready.given there)

    pub item_comes : (place : ℕ) (x : Cell) → is_next present (piece.Item place x) ≡ true → IsPieceOfSeen (replies (suc present.tries)) (piece.Item place x) → RowGoes table request answers row (row_hears row number (piece.Item place x) tick) []
    item_comes place x next is =
        let a : Attempt = with_item place x present in
        let p = first_item place x next is present.item refl in
        goes_by table request answers row (row_hears row number (piece.Item place x) tick) (flight_row row) (put (item_of row) f.name (Some p.0)) []
        (λ i. record {
          item = row.graph.item;
          known = known row.graph;
          tries = λ name. read_keeps row f declared slot placed a (λ z. z.tries) refl name i;
          listed = λ name. read_keeps row f declared slot placed a (λ z. z.listed) refl name i;
        })
        (read_put row f declared slot placed a (λ z. z.item) (Some p.0) p.1)
        (stays table request answers (flight_row row) agrees)
        (hears_item table answers (flight_row row) (item_of row) hears f results p.0 ready l p.2)

    -- ---- an ending

    abbrev settled_row : Outcome → Attempt → RowCalls
    settled_row o a = record { graph = record { plan = row.graph.plan; item = row.graph.item; settled = set row.graph.settled number (Some o) }; attempts = with_attempt row.attempts (slot_of row.graph.plan number) a; all_listed = false }

    settles : (v : Verdict) (o : Outcome) (a : Attempt) → AreApart table → a.tries ≡ present.tries → a.listed ≡ present.listed → a.item ≡ None
        → judged (rule_of table f.ignore f.retry) (suc present.tries) (replies (suc present.tries)).ending ≡ v → outcome_of f.name (settled_by v (replies (suc present.tries)).items (suc present.tries) None) ≡ Some o
        → RowGoes table request answers row (settled_row o a) []
    settles v o a apart tries listed item verdict outcome =
        goes_by table request answers row (settled_row o a) (function_settled (flight_row row) f.name o) (put (item_of row) f.name None) []
        (λ i. record {
          item = row.graph.item;
          known = λ name. known_put row f declared slot placed o name i;
          tries = λ name. read_keeps row f declared slot placed a (λ z. z.tries) tries name i;
          listed = λ name. read_keeps row f declared slot placed a (λ z. z.listed) listed name i;
        })
        (read_put row f declared slot placed a (λ z. z.item) None item)
        (function_is_settled table request answers (flight_row row) f results v o apart agrees ready l verdict outcome)
        (hears_settled table answers (flight_row row) (item_of row) hears f results o agrees ready)

    module _ (apart : AreApart table) (rules : row.graph.plan.rules ≡ rules_in table table.functions) (n : ℕ) (e : Ending) (next : is_next present (piece.Ending n e) ≡ true) (is : IsPieceOfSeen (replies (suc present.tries)) (piece.Ending n e)) where
      rule_is : rule_at row.graph.plan number ≡ rule_of table f.ignore f.retry
      rule_is =
          ap (λ rs. get_or rs number no_rule) rules
          ∙ get_mapped (λ g. rule_of table g.ignore g.retry) table.functions number f no_rule (ap (λ z. slice_get z number) (sym fs) ∙ declared)

      judged_is : (v : Verdict) → judged (rule_at row.graph.plan number) (suc present.tries) (Some e) ≡ v → judged (rule_of table f.ignore f.retry) (suc present.tries) (replies (suc present.tries)).ending ≡ v
      judged_is v h = ap (judged (rule_of table f.ignore f.retry) (suc present.tries)) is.1 ∙ ap (λ r. judged r (suc present.tries) (Some e)) (sym rule_is) ∙ h

      named : name_at row.graph.plan.functions number ≡ f.name
      named = ap name_of declared

      one_item : n ≡ 1 → (x : Cell) × (present.item ≡ Some x) × (slice_get (replies (suc present.tries)).items 0 ≡ Some x)
      one_item h =
          let at : present.next ≡ 1 = next_one present.next (ap (λ k. k == 0 || k == present.next) (sym h) ∙ next) in
          let s = some_item present.item (sound.first (omega (arith, at))) in
          (s.0, s.1, hears.first f results s.0 ready.found ready.given s.1)

      abbrev after_verdict : Verdict → RowCalls
      after_verdict v = record {
        graph = settled_so row.graph number (outcome_by v (name_at row.graph.plan.functions number) n present);
        attempts = with_attempt row.attempts (slot_of row.graph.plan number) (attempt_by v (rule_at row.graph.plan number) tick present);
        all_listed = false;
      }

      by_verdict : (v : Verdict) → judged (rule_at row.graph.plan number) (suc present.tries) (Some e) ≡ v → RowGoes table request answers row (after_verdict v) []
      by_verdict Accept h =
          let o : Outcome = accepted (name_at row.graph.plan.functions number) n present.item in
          settles Accept o (attempt_by Accept (rule_at row.graph.plan number) tick present) apart refl refl refl (judged_is Accept h)
          (accepted_is f.name (replies (suc present.tries)).items n present.item is.0 one_item ∙ ap (λ name. Some (accepted name n present.item)) (sym named))
      by_verdict Again h =
          let a : Attempt = attempt_by Again (rule_at row.graph.plan number) tick present in
          goes_by table request answers row (with_present a) (function_again (flight_row row) f.name) (put (item_of row) f.name None) []
          (λ i. record {
            item = row.graph.item;
            known = known row.graph;
            tries = λ name. read_put row f declared slot placed a (λ z. z.tries) (suc present.tries) refl name i;
            listed = λ name. read_put row f declared slot placed a (λ z. z.listed) false refl name i;
          })
          (read_put row f declared slot placed a (λ z. z.item) None refl)
          (function_is_asked_again table request answers (flight_row row) f results agrees ready l (judged_is Again h))
          (hears_again table answers (flight_row row) (item_of row) hears f)
      by_verdict (Refuse text) h =
          settles (Refuse text) _ (attempt_by (Refuse text) (rule_at row.graph.plan number) tick present) apart refl refl refl (judged_is (Refuse text) h)
          (ap (λ name. outcome_of name (settled_by (Refuse text) (replies (suc present.tries)).items (suc present.tries) None)) (sym named))
      by_verdict Open h = absurd (never_open (rule_at row.graph.plan number) (suc present.tries) e h)

      pub ending_comes : RowGoes table request answers row (row_hears row number (piece.Ending n e) tick) []
      ending_comes = by_verdict (judged (rule_at row.graph.plan number) (suc present.tries) (Some e)) refl

-- ---- by the number of a function

some_call : (table name : List ℕ) (item : Cell) (r : Results) (results : List (List ℕ × Cell)) (asked : Call) → r ≡ Given results → call_with table name item r ≡ Some asked → asked ≡ call.Hydrate table name item results
some_call table name item r results asked is e =
    let s : Some (call.Hydrate table name item results) ≡ Some asked = sym (ap (call_with table name item) is) ∙ e in
    cc

module _ (table : TableDecl) (request : ScanRequest) (answers : Answers) (row : RowCalls) (k slot : ℕ) (apart : AreApart table) (fs : row.graph.plan.functions ≡ table.functions) (sound : IsSound row.graph.plan)
    (placed : IsPlaced row k slot) (may : is_ready row.graph k ≡ true) (agrees : RowAgrees table answers (flight_row row)) (hears : RowHears table answers row) where
  this : ReadyFunction table row k
  this = ready_function table answers row k apart agrees sound fs may placed.declared

  number_is : number_of row.graph.plan.functions this.f.name ≡ k
  number_is = ap (λ z. number_of z this.f.name) fs ∙ this.number

  declared_is : slice_get row.graph.plan.functions (number_of row.graph.plan.functions this.f.name) ≡ Some this.f
  declared_is = ap (slice_get row.graph.plan.functions) number_is ∙ ap (λ z. slice_get z k) fs ∙ this.at

  placed_is : IsPlaced row (number_of row.graph.plan.functions this.f.name) slot
  placed_is = subst (λ n. IsPlaced row n slot) (sym number_is) placed

  named_is : name_at row.graph.plan.functions k ≡ this.f.name
  named_is = ap name_of (ap (λ z. slice_get z k) fs ∙ this.at)

  -- the call of the function
  asked_is : (asked : Call) → call_of table.name row k ≡ Some asked → asked ≡ call.Hydrate table.name this.f.name row.graph.item this.results
  asked_is asked e =
      some_call table.name (name_at row.graph.plan.functions k) row.graph.item (results_at row.graph k) this.results asked this.results_are e
      ∙ ap (λ name. call.Hydrate table.name name row.graph.item this.results) named_is

  -- its present attempt is listed
  pub listed_goes : row.graph.plan.columns ≡ columns_named request.columns table.columns → (attempt_of row k).listed ≡ false → (asked : Call) (attempt : ℕ) → call_of table.name row k ≡ Some asked → attempt ≡ suc (attempt_of row k).tries
      → RowGoes table request answers row (row_lists row k) ((asked, attempt) ∷ [])
  listed_goes columns l asked attempt e n =
      let wanted : is_wanted table.functions (columns_named request.columns table.columns) this.f.name ≡ true = subst (λ z. is_wanted table.functions z this.f.name ≡ true) columns this.wanted in
      let goes : RowGoes table request answers row (row_lists row k) ((call.Hydrate table.name this.f.name row.graph.item this.results, suc (attempt_of row k).tries) ∷ []) =
      subst (λ z. RowGoes table request answers row (row_lists row z) ((call.Hydrate table.name this.f.name row.graph.item this.results, suc (attempt_of row z).tries) ∷ [])) number_is
      (lists table request answers row this.f this.results fs declared_is slot placed_is this.ready agrees hears apart wanted (ap (λ z. (attempt_of row z).listed) number_is ∙ l)) in
      subst (λ m. RowGoes table request answers row (row_lists row k) ((asked, m) ∷ [])) (sym n)
      (subst (λ z. RowGoes table request answers row (row_lists row k) ((z, suc (attempt_of row k).tries) ∷ [])) (sym (asked_is asked e)) goes)

  -- a piece of its call is taken in
  pub piece_goes : row.graph.plan.rules ≡ rules_in table table.functions → IsAttempt (attempt_of row k) → (attempt_of row k).listed ≡ true → (asked : Call) (attempt : ℕ) → call_of table.name row k ≡ Some asked → attempt ≡ suc (attempt_of row k).tries
      → (p : Piece) (tick : ℕ) → is_next (attempt_of row k) p ≡ true → IsPieceOfSeen (answers asked attempt) p → RowGoes table request answers row (row_hears row k p tick) []
  piece_goes rules sound_attempt l asked attempt e n p tick next is =
      subst (λ z. RowGoes table request answers row (row_hears row z p tick) []) number_is
      (by p (ap (λ z. is_next (attempt_of row z) p) number_is ∙ next)
      (subst (λ m. IsPieceOfSeen (answers (call.Hydrate table.name this.f.name row.graph.item this.results) m) p) (n ∙ ap (λ z. suc (attempt_of row z).tries) (sym number_is)) (subst (λ z. IsPieceOfSeen (answers z attempt) p) (asked_is asked e) is)))
    where
      here : (attempt_of row (number_of row.graph.plan.functions this.f.name)).listed ≡ true
      here = ap (λ z. (attempt_of row z).listed) number_is ∙ l

      fine : IsAttempt (attempt_of row (number_of row.graph.plan.functions this.f.name))
      fine = subst (λ z. IsAttempt (attempt_of row z)) (sym number_is) sound_attempt

      by : (q : Piece) → is_next (attempt_of row (number_of row.graph.plan.functions this.f.name)) q ≡ true
          → IsPieceOfSeen (answers (call.Hydrate table.name this.f.name row.graph.item this.results) (suc (attempt_of row (number_of row.graph.plan.functions this.f.name)).tries)) q
          → RowGoes table request answers row (row_hears row (number_of row.graph.plan.functions this.f.name) q tick) []
      by (piece.Item place x) h s = item_comes table request answers row this.f this.results fs declared_is slot placed_is this.ready agrees hears here fine tick place x h s
      by (piece.Ending count ending) h s = ending_comes table request answers row this.f this.results fs declared_is slot placed_is this.ready agrees hears here fine tick apart rules count ending h s
