-- Rows in flight that go on.
use Rattle.std.proofs.Common.{◌≡◌, List, [], ◌∷◌, ◌++◌, Some, None, refl, sym, ap, ◌∙◌, arith}
use Rattle.sp_model.specs.Settling.{Answers}
use Rattle.sp_model.specs.declared.declaration.TableDecl.{TableDecl}
use Rattle.sp_model.specs.declared.scan.ScanRequest.{ScanRequest}
use Rattle.scan_laws.proofs.Counting.{count_append}
use Rattle.scan_laws.specs.Counts.{count}
use Rattle.scan_laws.specs.Flights.{row_listed, RowAgrees}
use Rattle.scan_laws.specs.Reaching.{Made}
use Rattle.scan_laws.specs.Scans.{items_of, flight_listed, AllAgree}
use Rattle.row_flight.specs.Flying.{Seated, rows_in}
use Rattle.row_flight.specs.Hearing.{AllHear, RowHears, RowGoes, Keeps}
use Rattle.row_flight.specs.Laws.{FlightGoesOn}
use Rattle.row_flight.specs.Rows.{flight_row}

pub flight_goes_on : FlightGoesOn
flight_goes_on table request answers st old new added agrees going is keeps = record {
  agrees = record {
    split = agrees.split ∙ ap (λ rows. items_of rows ++ st.waiting) is ∙ ap (λ items. items ++ st.waiting) (sym keeps.items);
    rows = keeps.agree;
    inner = agrees.inner;
    outer = agrees.outer;
    walk = agrees.walk;
    counted = agrees.counted;
    done = agrees.done;
    spent = λ w e. let bad : None ≡ Some w = sym going ∙ e in absurd (cc);
  };
  listed = λ calls has p.
      let before : count p (flight_listed table request st.flight) ≡ count p (flight_listed table request (rows_in old)) = ap (λ rows. count p (flight_listed table request rows)) is in
      let h = has p in
      let k = keeps.listed p in
      let n = count_append p calls added in
      omega (arith, before, h, k, n);
}

-- ---- rows one after another

pub nothing_goes : (table : TableDecl) (request : ScanRequest) (answers : Answers) (rows : List Seated) → AllAgree table answers (rows_in rows) → AllHear table answers rows → Keeps table request answers rows rows []
nothing_goes table request answers rows agree hear = record { agree = agree; hear = hear; items = refl; listed = λ p. omega arith }

pub then_goes : (table : TableDecl) (request : ScanRequest) (answers : Answers) (a b c : List Seated) (xs ys : List Made) → Keeps table request answers a b xs → Keeps table request answers b c ys → Keeps table request answers a c (xs ++ ys)
then_goes table request answers a b c xs ys first second = record {
  agree = second.agree;
  hear = second.hear;
  items = second.items ∙ first.items;
  listed = λ p. let f = first.listed p in let s = second.listed p in let n = count_append p xs ys in omega (arith, f, s, n);
}

-- one row among them
pub row_goes : (table : TableDecl) (request : ScanRequest) (answers : Answers) (before : List Seated) (s t : Seated) (after : List Seated) (added : List Made)
    → AllAgree table answers (rows_in (before ++ s ∷ after)) → AllHear table answers (before ++ s ∷ after) → (RowAgrees table answers (flight_row s.row) → RowHears table answers s.row → RowGoes table request answers s.row t.row added)
    → Keeps table request answers (before ++ s ∷ after) (before ++ t ∷ after) added
row_goes table request answers [] s t after added agree hear goes =
    let g = goes agree.0 hear.0 in
    record {
      agree = (g.keeps.agrees, agree.1);
      hear = (g.hears, hear.1);
      items = ap (λ x. x ∷ items_of (rows_in after)) g.keeps.item;
      listed = λ p.
          let k = g.keeps.listed p in
          let m = count_append p (row_listed table request (flight_row s.row)) (flight_listed table request (rows_in after)) in
          let n = count_append p (row_listed table request (flight_row t.row)) (flight_listed table request (rows_in after)) in
          omega (arith, k, m, n);
    }
row_goes table request answers (b ∷ before) s t after added agree hear goes =
    let rest = row_goes table request answers before s t after added agree.1 hear.1 goes in
    record {
      agree = (agree.0, rest.agree);
      hear = (hear.0, rest.hear);
      items = ap (λ xs. b.row.graph.item ∷ xs) rest.items;
      listed = λ p.
          let k = rest.listed p in
          let m = count_append p (row_listed table request (flight_row b.row)) (flight_listed table request (rows_in (before ++ s ∷ after))) in
          let n = count_append p (row_listed table request (flight_row b.row)) (flight_listed table request (rows_in (before ++ t ∷ after))) in
          omega (arith, k, m, n);
    }
