-- Calls of rows in a pool are listed, row after row.
use Rattle.std.proofs.Common.{◌≡◌, ◌+◌, ◌⊎◌, inl, inr, ℕ, zero, suc, List, [], ◌∷◌, ◌++◌, Some, refl, sym, ap, subst, ◌∙◌, arith}
use Rattle.std.specs.Prelude.{slice_get, ◌≢◌}
use Rattle.std.proofs.lemmas.List.{append_assoc}
use Rattle.std.proofs.lemmas.Bool.{cases_eq}
use Rattle.sp_model.specs.Settling.{Answers}
use Rattle.sp_model.specs.declared.declaration.TableDecl.{TableDecl}
use Rattle.sp_model.specs.declared.scan.ScanRequest.{ScanRequest}
use Rattle.hydrate_graph.specs.Graphs.{Plan}
use Rattle.row_pool.specs.Pools.{Pool, shown, Changes}
use Rattle.row_pool.specs.declared.key.Key.{Key}
use Rattle.scan_laws.specs.Flights.{AreApart}
use Rattle.scan_laws.specs.Scans.{AllAgree}
use Rattle.row_flight.proofs.Answering.{shown_at, sits_shown}
use Rattle.row_flight.proofs.Going.{nothing_goes, then_goes, row_goes}
use Rattle.row_flight.proofs.ListedCalls.{get_both, made_both, job_stays}
use Rattle.row_flight.proofs.Pooling.{key_cases, new_differs, row_first, seated_same, some_of, rewritten}
use Rattle.row_flight.specs.Rows.{AreListed, IsRow}
use Rattle.row_flight.specs.Flying.{InFlight, Seated, IsOf, key_at, rows_in}
use Rattle.row_flight.specs.Hearing.{AllHear, Keeps}
use Rattle.row_flight.specs.Jobs.{made_of, DiffersInListed, DifferInListed, IsRowJob, IsJobOf, RowLists, Lists, PoolLists, RowsListed}
use Rattle.row_flight.specs.Pooled.{with_row, seated, AreApart as KeysApart, IsFlight, IsSound, Rewrites, RowsShown}
use Rattle.row_flight.specs.declared.frame.CallFrame.{CallFrame}
use Rattle.row_flight.specs.declared.frame.Wanted.{Wanted}
use Rattle.row_flight.specs.declared.row.RowCalls.{RowCalls}

-- the row of a key stands once among the others
pub split_rows : (p q : Pool RowCalls) (keys : List Key) (place : ℕ) (key : Key) (row next : RowCalls) → slice_get keys place ≡ Some key → KeysApart keys → shown p key ≡ Some row → Changes p q key (Some next)
    → (before : List Seated) × (after : List Seated) × (seated p keys ≡ before ++ record { key = key; row = row } ∷ after) × (seated q keys ≡ before ++ record { key = key; row = next } ∷ after)
split_rows p q [] place key row next at apart is changes = absurd (cc)
split_rows p q (k ∷ keys) zero key row next at apart is changes =
    let same : k ≡ key = cc in
    let others : seated q keys ≡ seated p keys = seated_same p q keys (λ j a. changes.others j (λ e. new_differs k keys apart.0 j a (e ∙ sym same))) in (
      [],
      seated p keys,
      ap (λ z. with_row z (shown p z) (seated p keys)) same ∙ ap (λ o. with_row key o (seated p keys)) is,
      ap (λ z. with_row z (shown q z) (seated q keys)) same ∙ ap (λ o. with_row key o (seated q keys)) changes.shows ∙ ap (λ rest. record { key = key; row = next } ∷ rest) others,
    )
split_rows p q (k ∷ keys) (suc place) key row next at apart is changes =
    let differs : k ≢ key = λ e. new_differs k keys apart.0 key (place, at) (sym e) in
    let rest = split_rows p q keys place key row next at apart.1 is changes in (
      with_row k (shown p k) [] ++ rest.0,
      rest.1,
      row_first k (shown p k) (seated p keys) ∙ ap (λ xs. with_row k (shown p k) [] ++ xs) rest.2 ∙ sym (append_assoc (with_row k (shown p k) []) rest.0 (record { key = key; row = row } ∷ rest.1)),
      row_first k (shown q k) (seated q keys) ∙ ap (λ o. with_row k o [] ++ seated q keys) (changes.others k differs) ∙ ap (λ xs. with_row k (shown p k) [] ++ xs) rest.3
          ∙ sym (append_assoc (with_row k (shown p k) []) rest.0 (record { key = key; row = next } ∷ rest.1)),
    )

differ_none : (rows : List Seated) → DifferInListed rows rows
differ_none [] = tt
differ_none (s ∷ ss) = (refl, record { graph = refl; attempts = λ k. refl }, differ_none ss)

differ_on : (xs ys zs : List Seated) → DifferInListed xs ys → DifferInListed ys zs → DifferInListed xs zs
differ_on [] [] zs d e = e
differ_on [] (t ∷ ts) zs d e = absurd d
differ_on (s ∷ ss) [] zs d e = absurd d
differ_on (s ∷ ss) (t ∷ ts) [] d e = absurd e
differ_on (s ∷ ss) (t ∷ ts) (u ∷ us) d e =
    (e.0 ∙ d.0, record { graph = e.1.graph ∙ d.1.graph; attempts = λ k. e.1.attempts k ∙ d.1.attempts k }, differ_on ss ts us d.2 e.2)

differ_one : (before : List Seated) (s t : Seated) (after : List Seated) → t.key ≡ s.key → DiffersInListed s.row t.row → DifferInListed (before ++ s ∷ after) (before ++ t ∷ after)
differ_one [] s t after key d = (key, d, differ_none after)
differ_one (b ∷ bs) s t after key d = (refl, record { graph = refl; attempts = λ k. refl }, differ_one bs s t after key d)

pub lists_none : (scan : ℕ) (f : InFlight) (xs : List Wanted) → Lists scan f f xs xs
lists_none scan f xs = record {
  more = [];
  grows = sym (append_nil xs);
  plan = refl;
  frame = refl;
  window = refl;
  differ = differ_none f.rows;
  stays = λ w job. job;
  jobs = λ place w at. absurd (cc);
  keeps = λ table request answers of apart agree hear. nothing_goes table request answers f.rows agree hear;
}
  where
    append_nil : (ys : List Wanted) → ys ++ [] ≡ ys
    append_nil [] = refl
    append_nil (y ∷ ys) = ap (λ zs. y ∷ zs) (append_nil ys)

pub lists_on : (scan : ℕ) (a b c : InFlight) (xs ys zs : List Wanted) → Lists scan a b xs ys → Lists scan b c ys zs → Lists scan a c xs zs
lists_on scan a b c xs ys zs first second = record {
  more = first.more ++ second.more;
  grows = second.grows ∙ ap (λ us. us ++ second.more) first.grows ∙ append_assoc xs first.more second.more;
  plan = second.plan ∙ first.plan;
  frame = second.frame ∙ first.frame;
  window = second.window ∙ first.window;
  differ = differ_on a.rows b.rows c.rows first.differ second.differ;
  stays = λ w job. second.stays w (first.stays w job);
  jobs = get_both (IsJobOf scan c) first.more second.more (λ place w at. second.stays w (first.jobs place w at)) second.jobs;
  keeps = λ table request answers of apart agree hear.
      let one = first.keeps table request answers of apart agree hear in
      let there : IsOf table request b = record {
        name = ap (λ f. f.table) first.frame ∙ of.name;
        functions = ap (λ p. p.functions) first.plan ∙ of.functions;
        rules = ap (λ p. p.rules) first.plan ∙ of.rules;
        columns = ap (λ p. p.columns) first.plan ∙ of.columns;
      } in
      let two = second.keeps table request answers there apart one.agree one.hear in
      subst (Keeps table request answers a.rows c.rows) (sym (made_both first.more second.more)) (then_goes table request answers a.rows b.rows c.rows (made_of first.more) (made_of second.more) one two);
}

module _ (plan : Plan) (frame : CallFrame) (window number : ℕ) (p q : Pool RowCalls) (keys : List Key) (f : IsFlight plan window number p keys) (g : IsFlight plan window number q keys) (scan place : ℕ) (key : Key)
    (row next : RowCalls) (at : slice_get keys place ≡ Some key) (is : shown p key ≡ Some row) (rewrites : Rewrites p q key next) (before after : List Wanted) (lists : RowLists frame scan key row next before after) where
  abbrev old : InFlight
  old = record { plan = plan; frame = frame; window = window; rows = seated p keys }

  abbrev new : InFlight
  new = record { plan = plan; frame = frame; window = window; rows = seated q keys }

  one_row : (a b : RowCalls) → shown p key ≡ Some a → shown p key ≡ Some b → a ≡ b
  one_row a b x y = let e : Some a ≡ Some b = sym x ∙ y in cc

  stays_by : (w : Wanted) (r : RowCalls) → shown p (key_at w.seat) ≡ Some r → IsRowJob frame scan (key_at w.seat) r w → (key_at w.seat ≡ key) ⊎ (key_at w.seat ≡ key → ⊥) → IsJobOf scan new w
  stays_by w r there job (inl e) =
      let same : row ≡ r = one_row row r is (ap (shown p) (sym e) ∙ there) in
      record {
        row = next;
        sits = shown_at plan frame window number q keys g w.seat next (ap (shown q) e ∙ rewrites.changes.shows);
        job = job_stays frame scan key row next before after lists (key_at w.seat) w (subst (λ z. IsRowJob frame scan (key_at w.seat) z w) (sym same) job);
      }
  stays_by w r there job (inr other) = record { row = r; sits = shown_at plan frame window number q keys g w.seat r (rewrites.changes.others (key_at w.seat) other ∙ there); job = job }

  -- some calls of one row are listed
  pub row_is_listed : Lists scan old new before after
  row_is_listed = record {
    more = lists.more;
    grows = lists.grows;
    plan = refl;
    frame = refl;
    window = refl;
    differ = differ;
    stays = λ w job. stays_by w job.row (sits_shown plan frame window number p keys f w.seat job.row job.sits) job.job (key_cases (key_at w.seat) key);
    jobs = λ j w e.
        let job = lists.jobs j w e in
        record {
          row = next;
          sits = shown_at plan frame window number q keys g w.seat next (ap (shown q) job.key_is ∙ rewrites.changes.shows);
          job = record { key_is = refl; scan_is = job.scan_is; listed = job.listed; call = job.call };
        };
    keeps = λ table request answers of apart agree hear. keeps table request answers of apart agree hear;
  }
    where
      differ : DifferInListed (seated p keys) (seated q keys)
      differ =
          let s = split_rows p q keys place key row next at f.apart is rewrites.changes in
          subst (λ rows. DifferInListed rows (seated q keys)) (sym s.2)
          (subst (λ rows. DifferInListed (s.0 ++ record { key = key; row = row } ∷ s.1) rows) (sym s.3)
          (differ_one s.0 (record { key = key; row = row }) (record { key = key; row = next }) s.1 refl (record { graph = lists.graph; attempts = lists.differs })))

      plan_is : row.graph.plan ≡ plan
      plan_is = (f.rows key row is).0

      keeps : (table : TableDecl) (request : ScanRequest) (answers : Answers) → IsOf table request old → AreApart table → AllAgree table answers (rows_in (seated p keys)) → AllHear table answers (seated p keys)
          → Keeps table request answers (seated p keys) (seated q keys) (made_of lists.more)
      keeps table request answers of apart agree hear =
          let s = split_rows p q keys place key row next at f.apart is rewrites.changes in
          let goes = row_goes table request answers s.0 (record { key = key; row = row }) (record { key = key; row = next }) s.1 (made_of lists.more) (subst (λ rows. AllAgree table answers (rows_in rows)) s.2 agree)
          (subst (AllHear table answers) s.2 hear)
          (λ a h. lists.keeps table request answers of.name (ap (λ z. z.functions) plan_is ∙ of.functions) (ap (λ z. z.columns) plan_is ∙ of.columns) (subst IsSound (sym plan_is) f.sound) apart a h) in
          subst (λ rows. Keeps table request answers rows (seated q keys) (made_of lists.more)) (sym s.2)
          (subst (λ rows. Keeps table request answers (s.0 ++ record { key = key; row = row } ∷ s.1) rows (made_of lists.more)) (sym s.3) goes)

module _ (p q : Pool RowCalls) (keys : List Key) (place : ℕ) (key : Key) (next : RowCalls) (rewrites : Rewrites p q key next) (at : slice_get keys place ≡ Some key) where
  -- rows that were listed before, and one more
  pub listed_more : AreListed next → RowsListed p keys place → RowsListed q keys (place + 1)
  listed_more here done j k r l there is = by (key_cases k key) (cases_eq j place)
    where
      by : (k ≡ key) ⊎ (k ≡ key → ⊥) → (j ≡ place) ⊎ (j ≡ place → ⊥) → AreListed r
      by (inl e) either =
          let s : Some next ≡ Some r = sym rewrites.changes.shows ∙ ap (shown q) (sym e) ∙ is in
          let same : next ≡ r = cc in
          subst AreListed same here
      by (inr other) (inl e) =
          let s : Some k ≡ Some key = sym there ∙ ap (slice_get keys) e ∙ at in
          let same : k ≡ key = cc in
          absurd (other same)
      by (inr other) (inr apart) = done j k r (omega (arith, l, apart)) there (sym (rewrites.changes.others k other) ∙ is)

  -- each key still shows a row
  pub shown_more : IsRow next → RowsShown p keys → RowsShown q keys
  shown_more here shows j k there = by (key_cases k key)
    where
      by : (k ≡ key) ⊎ (k ≡ key → ⊥) → (row : RowCalls) × (shown q k ≡ Some row) × IsRow row
      by (inl e) = (next, ap (shown q) e ∙ rewrites.changes.shows, here)
      by (inr other) = let s = shows j k there in (s.0, rewrites.changes.others k other ∙ s.1, s.2)

pub flight_shows : (plan : Plan) (window number : ℕ) (p : Pool RowCalls) (keys : List Key) → IsFlight plan window number p keys → RowsShown p keys
flight_shows plan window number p keys f place key at =
    let row = some_of (shown p key) (f.shows place key at) in
    (row.0, row.1, (f.rows key row.0 row.1).1)

pub pool_then : (plan : Plan) (frame : CallFrame) (window number scan : ℕ) (keys : List Key) (p q r : Pool RowCalls) (place : ℕ) (key : Key) (row next : RowCalls) (xs ys zs : List Wanted) → IsFlight plan window number p keys
    → PoolLists plan frame window number scan keys p q xs ys → slice_get keys place ≡ Some key → shown q key ≡ Some row → Rewrites q r key next → RowLists frame scan key row next ys zs → PoolLists plan frame window number scan keys p r xs zs
pool_then plan frame window number scan keys p q r place key row next xs ys zs f lists at is rewrites more =
    let was = lists.0.rows key row is in
    let g : IsFlight plan window number r keys = rewritten plan window number q r keys lists.0 key row next is rewrites (ap (λ z. z.plan) more.graph ∙ was.0) more.sound in
    let at_pool : Pool RowCalls → InFlight = λ pool. record { plan = plan; frame = frame; window = window; rows = seated pool keys } in
    (g, lists_on scan (at_pool p) (at_pool q) (at_pool r) xs ys zs lists.1 (row_is_listed plan frame window number q r keys lists.0 g scan place key row next at is rewrites ys zs more))
