-- The row of an item of which nothing is known.
use Rattle.std.proofs.Common.{◌≡◌, ℕ, zero, suc, List, [], ◌∷◌, ◌++◌, length, get_or, replicate, Option, Some, None, refl, sym, ap, subst, ◌∙◌}
use Rattle.sp_value.specs.declared.cell.Cell.{Cell}
use Rattle.sp_model.specs.Settling.{Answers}
use Rattle.sp_model.specs.declared.declaration.TableDecl.{TableDecl}
use Rattle.sp_model.specs.declared.outcome.Outcome.{Outcome}
use Rattle.hydrate_graph.specs.Graphs.{Plan}
use Rattle.hydrate_graph.specs.Numbers.{number_of}
use Rattle.scan_laws.specs.Steps.{fresh_row}
use Rattle.row_flight.specs.Attempts.{fresh}
use Rattle.row_flight.specs.Flying.{InFlight, Seated, Puts, rows_in, rows_of}
use Rattle.row_flight.specs.Hearing.{RowHears, AllHear}
use Rattle.row_flight.specs.Rows.{attempt_in, slot_of, begun, flight_row}

pub none_known : (n k : ℕ) → get_or (replicate n (let none : Option Outcome = None in none)) k None ≡ None
none_known zero k = refl
none_known (suc n) zero = refl
none_known (suc n) (suc k) = none_known n k

fresh_get : (n k : ℕ) → get_or (replicate n fresh) k fresh ≡ fresh
fresh_get zero k = refl
fresh_get (suc n) zero = refl
fresh_get (suc n) (suc k) = fresh_get n k

pub fresh_in : (n : ℕ) (slot : Option ℕ) → attempt_in (replicate n fresh) slot ≡ fresh
fresh_in n None = refl
fresh_in n (Some slot) = fresh_get n slot

module _ (p : Plan) (item : Cell) where
  at_first : (name : List ℕ) → attempt_in (replicate p.room fresh) (slot_of p (number_of p.functions name)) ≡ fresh
  at_first name = fresh_in p.room (slot_of p (number_of p.functions name))

  begun_view : flight_row (begun p item) ≡ fresh_row item
  begun_view = λ i. record {
    item = item;
    known = λ name. none_known (length p.functions) (number_of p.functions name) i;
    tries = λ name. (at_first name i).tries;
    listed = λ name. (at_first name i).listed;
  }

  pub begun_hears : (table : TableDecl) (answers : Answers) → RowHears table answers (begun p item)
  begun_hears table answers = record {
    first = λ f results x found given came. let bad : None ≡ Some x = sym (ap (λ a. a.item) (at_first f.name)) ∙ came in absurd (cc);
    unlisted = λ f found l. ap (λ a. a.item) (at_first f.name);
  }

rows_push : (rows : List Seated) (s : Seated) → rows_in (rows ++ s ∷ []) ≡ rows_in rows ++ flight_row s.row ∷ []
rows_push [] s = refl
rows_push (r ∷ rows) s = ap (λ xs. flight_row r.row ∷ xs) (rows_push rows s)

hear_push : (table : TableDecl) (answers : Answers) (rows : List Seated) (s : Seated) → AllHear table answers rows → RowHears table answers s.row → AllHear table answers (rows ++ s ∷ [])
hear_push table answers [] s hear hears = (hears, tt)
hear_push table answers (r ∷ rows) s hear hears = (hear.0, hear_push table answers rows s hear.1 hears)

pub put_view : (old new : InFlight) (item : Cell) → Puts old new item → rows_of new ≡ rows_of old ++ fresh_row item ∷ []
put_view old new item puts =
    ap rows_of puts.is ∙ rows_push old.rows (record { key = puts.key; row = begun old.plan item }) ∙ ap (λ row. rows_of old ++ row ∷ []) (begun_view old.plan item)

pub put_hears : (old new : InFlight) (item : Cell) → Puts old new item → (table : TableDecl) (answers : Answers) → AllHear table answers old.rows → AllHear table answers new.rows
put_hears old new item puts table answers hear =
    subst (λ f. AllHear table answers f.rows) (sym puts.is) (hear_push table answers old.rows (record { key = puts.key; row = begun old.plan item }) hear (begun_hears old.plan item table answers))
