-- Rows in a pool, in the order of their keys.
use Rattle.std.proofs.Common.{◌≡◌, ◌+◌, ◌==◌, ◌&&◌, ◌⊎◌, inl, inr, ℕ, zero, suc, Bool, true, false, List, [], ◌∷◌, ◌++◌, length, map, Option, Some, None, if◌then◌else◌, refl, sym, ap, subst, ◌∙◌, arith}
use Rattle.std.specs.Prelude.{slice_get, is_some, ◌≢◌, OnSome}
use Rattle.std.proofs.lemmas.Bool.{cases_eq}
use Rattle.std.proofs.lemmas.List.{length-replicate}
use Rattle.sp_value.specs.declared.cell.Cell.{Cell}
use Rattle.std.proofs.lemmas.Bool.Decides.{Decides-eqb}
use Rattle.sp_model.specs.declared.call.Piece.{Piece}
use Rattle.sp_model.specs.declared.scan.Seat.{Seat}
use Rattle.hydrate_graph.specs.Graphs.{Plan}
use Rattle.row_pool.specs.Pools.{Pool, shown, taken, Changes}
use Rattle.row_pool.specs.declared.key.Key.{Key}
use Rattle.row_flight.specs.Flying.{Seated, key_at, is_at, hears_at}
use Rattle.row_flight.specs.Pooled.{with_row, seated, IsNew, AreApart, Among, AllShow, IsFlight, Rewrites}
use Rattle.row_flight.specs.Attempts.{fresh}
use Rattle.row_flight.specs.Rows.{begun, row_hears, IsRow}
use Rattle.row_flight.specs.declared.row.RowCalls.{RowCalls}

-- ---- keys

key_by : (a b : Key) → (a.slot ≡ b.slot) ⊎ (a.slot ≡ b.slot → ⊥) → (a.generation ≡ b.generation) ⊎ (a.generation ≡ b.generation → ⊥) → (a ≡ b) ⊎ (a ≡ b → ⊥)
key_by a b (inl s) (inl g) = inl (λ i. record { slot = s i; generation = g i })
key_by a b (inr s) g = inr (λ e. s (ap (λ k. k.slot) e))
key_by a b (inl s) (inr g) = inr (λ e. g (ap (λ k. k.generation) e))

-- two keys are the same or not
pub key_cases : (a b : Key) → (a ≡ b) ⊎ (a ≡ b → ⊥)
key_cases a b = key_by a b (cases_eq a.slot b.slot) (cases_eq a.generation b.generation)

new_at : (key : Key) (keys : List Key) → IsNew key keys → (place : ℕ) → slice_get keys place ≡ Some key → ⊥
new_at key [] new place e = cc
new_at key (k ∷ keys) new zero e = let s : k ≡ key = cc in new.0 s
new_at key (k ∷ keys) new (suc place) e = new_at key keys new.1 place e

is_new : (key : Key) (keys : List Key) → ((place : ℕ) → slice_get keys place ≡ Some key → ⊥) → IsNew key keys
is_new key [] never = tt
is_new key (k ∷ keys) never = (λ e. never 0 (ap (λ z. Some z) e), is_new key keys (λ place e. never (suc place) e))

new_push : (key : Key) (keys : List Key) (other : Key) → IsNew key keys → (other ≡ key → ⊥) → IsNew key (keys ++ other ∷ [])
new_push key [] other new differs = (differs, tt)
new_push key (k ∷ keys) other new differs = (new.0, new_push key keys other new.1 differs)

apart_push : (keys : List Key) (key : Key) → AreApart keys → ((place : ℕ) → slice_get keys place ≡ Some key → ⊥) → AreApart (keys ++ key ∷ [])
apart_push [] key apart never = (tt, tt)
apart_push (k ∷ keys) key apart never = (new_push k keys key apart.0 (λ e. never 0 (ap (λ z. Some z) (sym e))), apart_push keys key apart.1 (λ place e. never (suc place) e))

among_step : (k : Key) (keys : List Key) (key other : Key) → (Among other keys → Among other (keys ++ key ∷ [])) → (place : ℕ) → slice_get (k ∷ keys) place ≡ Some other → Among other (k ∷ (keys ++ key ∷ []))
among_step k keys key other more zero e = (0, e)
among_step k keys key other more (suc place) e = let a = more (place, e) in (suc a.0, a.1)

among_push : (keys : List Key) (key other : Key) → Among other keys → Among other (keys ++ key ∷ [])
among_push [] key other among = let e = among.1 in absurd (cc)
among_push (k ∷ keys) key other among = among_step k keys key other (λ a. among_push keys key other a) among.0 among.1

among_last : (keys : List Key) (key : Key) → Among key (keys ++ key ∷ [])
among_last [] key = (0, refl)
among_last (k ∷ keys) key = let a = among_last keys key in (suc a.0, a.1)

later : (k : Key) (keys : List Key) (key other : Key) → (Among other keys) ⊎ (other ≡ key) → (Among other (k ∷ keys)) ⊎ (other ≡ key)
later k keys key other (inl a) = inl (suc a.0, a.1)
later k keys key other (inr s) = inr s

push_at : (keys : List Key) (key other : Key) (place : ℕ) → slice_get (keys ++ key ∷ []) place ≡ Some other → (Among other keys) ⊎ (other ≡ key)
push_at [] key other zero e = let s : key ≡ other = cc in inr (sym s)
push_at [] key other (suc place) e = absurd (cc)
push_at (k ∷ keys) key other zero e = inl (0, e)
push_at (k ∷ keys) key other (suc place) e = later k keys key other (push_at keys key other place e)

-- ---- the rows of keys

row_length : (key : Key) (o : Option RowCalls) (rest : List Seated) → is_some o ≡ true → length (with_row key o rest) ≡ suc (length rest)
row_length key None rest h = absurd (cc)
row_length key (Some row) rest h = refl

pub seated_length : (p : Pool RowCalls) (keys : List Key) → AllShow p keys → length (seated p keys) ≡ length keys
seated_length p [] shows = refl
seated_length p (key ∷ keys) shows =
    row_length key (shown p key) (seated p keys) (shows 0 key refl) ∙ ap (λ n. suc n) (seated_length p keys (λ place k e. shows (suc place) k e))

-- where the keys show the same
pub seated_same : (p q : Pool RowCalls) (keys : List Key) → ((key : Key) → Among key keys → shown q key ≡ shown p key) → seated q keys ≡ seated p keys
seated_same p q [] same = refl
seated_same p q (key ∷ keys) same =
    ap (λ o. with_row key o (seated q keys)) (same key (0, refl)) ∙ ap (λ rest. with_row key (shown p key) rest) (seated_same p q keys (λ k a. same k (suc a.0, a.1)))

row_push : (key : Key) (o : Option RowCalls) (rest more : List Seated) → with_row key o (rest ++ more) ≡ with_row key o rest ++ more
row_push key None rest more = refl
row_push key (Some row) rest more = refl

seated_push : (p q : Pool RowCalls) (keys : List Key) (key : Key) (row : RowCalls) → ((k : Key) → Among k keys → shown q k ≡ shown p k) → shown q key ≡ Some row
    → seated q (keys ++ key ∷ []) ≡ seated p keys ++ record { key = key; row = row } ∷ []
seated_push p q [] key row same is = ap (λ o. with_row key o []) is
seated_push p q (k ∷ keys) key row same is =
    ap (λ o. with_row k o (seated q (keys ++ key ∷ []))) (same k (0, refl))
    ∙ ap (λ rest. with_row k (shown p k) rest) (seated_push p q keys key row (λ j a. same j (suc a.0, a.1)) is)
    ∙ row_push k (shown p k) (seated p keys) (record { key = key; row = row } ∷ [])

-- ---- one more row

-- what holds where there is a value
pub on_some : {X : Type 0} (P : Type 0) (r : Option X) (x : X) → r ≡ Some x → OnSome r P → P
on_some P None x e h = absurd (cc)
on_some P (Some y) x e h = h

pub begun_row : (p : Plan) (item : Cell) → length p.rules ≡ length p.functions → IsRow (begun p item)
begun_row p item rules = record { room = length-replicate p.room fresh; rules = rules; settled = length-replicate (length p.functions) None; listed = λ said. absurd (cc) }

length_push : (keys : List Key) (key : Key) → length (keys ++ key ∷ []) ≡ suc (length keys)
length_push [] key = refl
length_push (k ∷ keys) key = ap (λ n. suc n) (length_push keys key)

pub some_of : {X : Type 0} (o : Option X) → is_some o ≡ true → (x : X) × (o ≡ Some x)
some_of None h = absurd (cc)
some_of (Some x) h = (x, refl)

module _ (plan : Plan) (window number : ℕ) (p q : Pool RowCalls) (keys : List Key) (key : Key) (row : RowCalls) (f : IsFlight plan window number p keys) (none : shown p key ≡ None) (changes : Changes p q key (Some row)) where
  -- a key that shows a row isn't the new one
  differs : (k : Key) → is_some (shown p k) ≡ true → k ≢ key
  differs k h e = let b : true ≡ false = sym h ∙ ap (λ z. is_some (shown p z)) e ∙ ap is_some none in cc

  same_at : (k : Key) → Among k keys → shown q k ≡ shown p k
  same_at k a = changes.others k (differs k (f.shows a.0 k a.1))

  pub pushed_rows : seated q (keys ++ key ∷ []) ≡ seated p keys ++ record { key = key; row = row } ∷ []
  pushed_rows = seated_push p q keys key row same_at changes.shows

  module _ (of_plan : row.graph.plan ≡ plan) (is : IsRow row) (used : taken q ≡ taken p + 1) (room : q.count ≡ p.count) (last : q.drawn ≡ p.drawn + 1) where
    shown_by : (k : Key) (r : RowCalls) → shown q k ≡ Some r → (k ≡ key) ⊎ (k ≡ key → ⊥) → ((r.graph.plan ≡ plan) × IsRow r) × Among k (keys ++ key ∷ [])
    shown_by k r at (inl e) =
        let s : Some row ≡ Some r = sym changes.shows ∙ ap (shown q) (sym e) ∙ at in
        let same : row ≡ r = cc in
        ((ap (λ z. z.graph.plan) (sym same) ∙ of_plan, subst IsRow same is), subst (λ z. Among z (keys ++ key ∷ [])) (sym e) (among_last keys key))
    shown_by k r at (inr other) =
        let before : shown p k ≡ Some r = sym (changes.others k other) ∙ at in
        (f.rows k r before, among_push keys key k (f.all k r before))

    shows_by : (k : Key) → (Among k keys) ⊎ (k ≡ key) → is_some (shown q k) ≡ true
    shows_by k (inl a) = ap is_some (same_at k a) ∙ f.shows a.0 k a.1
    shows_by k (inr e) = ap (λ z. is_some (shown q z)) e ∙ ap is_some changes.shows

    pub pushed : IsFlight plan window (number + 1) q (keys ++ key ∷ [])
    pushed = record {
      sound = f.sound;
      rows = λ k r at. (shown_by k r at (key_cases k key)).0;
      all = λ k r at. (shown_by k r at (key_cases k key)).1;
      shows = λ place k at. shows_by k (push_at keys key k place at);
      apart = apart_push keys key f.apart (λ place e. differs key (f.shows place key e) refl);
      used = let n = length_push keys key in let u = f.used in omega (arith, used, n, u);
      room = room ∙ f.room;
      last = let l = f.last in omega (arith, last, l);
    }

-- ---- the first row is let go

pub new_differs : (key : Key) (keys : List Key) → IsNew key keys → (k : Key) → Among k keys → k ≢ key
new_differs key keys new k a e = new_at key keys new a.0 (a.1 ∙ ap (λ z. Some z) e)

past_first : (key : Key) (keys : List Key) (k : Key) → k ≢ key → (place : ℕ) → slice_get (key ∷ keys) place ≡ Some k → Among k keys
past_first key keys k other zero e = let s : key ≡ k = cc in absurd (other (sym s))
past_first key keys k other (suc place) e = (place, e)

module _ (plan : Plan) (window number : ℕ) (p q : Pool RowCalls) (key : Key) (keys : List Key) (f : IsFlight plan window number p (key ∷ keys)) (changes : Changes p q key None) where
  pub first_row : (row : RowCalls) → shown p key ≡ Some row → seated p (key ∷ keys) ≡ record { key = key; row = row } ∷ seated q keys
  first_row row is =
      ap (λ o. with_row key o (seated p keys)) is
      ∙ ap (λ rest. record { key = key; row = row } ∷ rest) (sym (seated_same p q keys (λ k a. changes.others k (new_differs key keys f.apart.0 k a))))

  pub popped : taken q + 1 ≡ taken p → q.count ≡ p.count → q.drawn ≡ p.drawn → IsFlight plan window number q keys
  popped used room last = record {
    sound = f.sound;
    rows = λ k r at. (shown_by k r at (key_cases k key)).0;
    all = λ k r at. (shown_by k r at (key_cases k key)).1;
    shows = λ place k at. ap is_some (changes.others k (new_differs key keys f.apart.0 k (place, at))) ∙ f.shows (suc place) k at;
    apart = f.apart.1;
    used = let u = f.used in omega (arith, used, u);
    room = room ∙ f.room;
    last = last ∙ f.last;
  }
    where
      shown_by : (k : Key) (r : RowCalls) → shown q k ≡ Some r → (k ≡ key) ⊎ (k ≡ key → ⊥) → ((r.graph.plan ≡ plan) × IsRow r) × Among k keys
      shown_by k r at (inl e) = let bad : None ≡ Some r = sym changes.shows ∙ ap (shown q) (sym e) ∙ at in absurd (cc)
      shown_by k r at (inr other) =
          let before : shown p k ≡ Some r = sym (changes.others k other) ∙ at in
          let a = f.all k r before in
          (f.rows k r before, past_first key keys k other a.0 a.1)

-- ---- one row is another

pub row_first : (key : Key) (o : Option RowCalls) (rest : List Seated) → with_row key o rest ≡ with_row key o [] ++ rest
row_first key None rest = refl
row_first key (Some row) rest = refl

map_more : (h : Seated → Seated) (xs ys : List Seated) → map h (xs ++ ys) ≡ map h xs ++ map h ys
map_more h [] ys = refl
map_more h (x ∷ xs) ys = ap (λ zs. h x ∷ zs) (map_more h xs ys)

seated_map : (h : Seated → Seated) (p q : Pool RowCalls) (keys : List Key) → ((key : Key) → with_row key (shown q key) [] ≡ map h (with_row key (shown p key) [])) → seated q keys ≡ map h (seated p keys)
seated_map h p q [] each = refl
seated_map h p q (key ∷ keys) each =
    row_first key (shown q key) (seated q keys)
    ∙ ap (λ xs. xs ++ seated q keys) (each key)
    ∙ ap (λ ys. map h (with_row key (shown p key) []) ++ ys) (seated_map h p q keys each)
    ∙ sym (map_more h (with_row key (shown p key) []) (seated p keys))
    ∙ ap (map h) (sym (row_first key (shown p key) (seated p keys)))

is_at_yes : (key : Key) (seat : Seat) → key.slot ≡ seat.slot → key.generation ≡ seat.generation → is_at key seat ≡ true
is_at_yes key seat s g =
    let a : (key.slot == seat.slot) ≡ true = (Decides-eqb key.slot seat.slot).1 s in
    let b : (key.generation == seat.generation) ≡ true = (Decides-eqb key.generation seat.generation).1 g in
    ap (λ x. x && (key.generation == seat.generation)) a ∙ b

and_no : (a b : Bool) → (a ≡ true → b ≡ true → ⊥) → (a && b) ≡ false
and_no true true never = absurd (never refl refl)
and_no true false never = refl
and_no false b never = refl

is_at_no : (key : Key) (seat : Seat) → key ≢ key_at seat → is_at key seat ≡ false
is_at_no key seat other =
    and_no (key.slot == seat.slot) (key.generation == seat.generation)
    (λ a b. other (λ i. record { slot = (Decides-eqb key.slot seat.slot).0 a i; generation = (Decides-eqb key.generation seat.generation).0 b i }))

module _ (seat : Seat) (piece : Piece) (tick : ℕ) (p q : Pool RowCalls) (row : RowCalls) (is : shown p (key_at seat) ≡ Some row) (changes : Changes p q (key_at seat) (Some (row_hears row seat.function piece tick))) where
  untouched : (key : Key) (o : Option RowCalls) → is_at key seat ≡ false → with_row key o [] ≡ map (hears_at seat piece tick) (with_row key o [])
  untouched key None other = refl
  untouched key (Some r) other = ap (λ b. (if b then record { key = key; row = row_hears r seat.function piece tick } else record { key = key; row = r }) ∷ []) (sym other)

  each : (key : Key) → (key ≡ key_at seat) ⊎ (key ≡ key_at seat → ⊥) → with_row key (shown q key) [] ≡ map (hears_at seat piece tick) (with_row key (shown p key) [])
  each key (inl e) =
      subst (λ k. with_row k (shown q k) [] ≡ map (hears_at seat piece tick) (with_row k (shown p k) [])) (sym e)
      (ap (λ o. with_row (key_at seat) o []) changes.shows
      ∙ ap (λ b. (if b then record { key = key_at seat; row = row_hears row seat.function piece tick } else record { key = key_at seat; row = row }) ∷ []) (sym (is_at_yes (key_at seat) seat refl refl))
      ∙ sym (ap (λ o. map (hears_at seat piece tick) (with_row (key_at seat) o [])) is))
  each key (inr other) =
      ap (λ o. with_row key o []) (changes.others key other) ∙ untouched key (shown p key) (is_at_no key seat other)

  -- the rows once the row at the seat took a piece in
  pub heard_rows : (keys : List Key) → seated q keys ≡ map (hears_at seat piece tick) (seated p keys)
  heard_rows keys = seated_map (hears_at seat piece tick) p q keys (λ key. each key (key_cases key (key_at seat)))

module _ (plan : Plan) (window number : ℕ) (p q : Pool RowCalls) (keys : List Key) (f : IsFlight plan window number p keys) (key : Key) (old row : RowCalls) (is : shown p key ≡ Some old) (rewrites : Rewrites p q key row) where
  -- another row under a key
  pub rewritten : row.graph.plan ≡ plan → IsRow row → IsFlight plan window number q keys
  rewritten of_plan sound = record {
    sound = f.sound;
    rows = λ k r at. (shown_by k r at (key_cases k key)).0;
    all = λ k r at. (shown_by k r at (key_cases k key)).1;
    shows = λ place k at. shows_by place k at (key_cases k key);
    apart = f.apart;
    used = rewrites.used ∙ f.used;
    room = rewrites.room ∙ f.room;
    last = rewrites.last ∙ f.last;
  }
    where
      shown_by : (k : Key) (r : RowCalls) → shown q k ≡ Some r → (k ≡ key) ⊎ (k ≡ key → ⊥) → ((r.graph.plan ≡ plan) × IsRow r) × Among k keys
      shown_by k r at (inl e) =
          let s : Some row ≡ Some r = sym rewrites.changes.shows ∙ ap (shown q) (sym e) ∙ at in
          let same : row ≡ r = cc in
          ((ap (λ z. z.graph.plan) (sym same) ∙ of_plan, subst IsRow same sound), f.all k old (ap (shown p) e ∙ is))
      shown_by k r at (inr other) =
          let before : shown p k ≡ Some r = sym (rewrites.changes.others k other) ∙ at in
          (f.rows k r before, f.all k r before)

      shows_by : (place : ℕ) (k : Key) → slice_get keys place ≡ Some k → (k ≡ key) ⊎ (k ≡ key → ⊥) → is_some (shown q k) ≡ true
      shows_by place k at (inl e) = ap (λ z. is_some (shown q z)) e ∙ ap is_some rewrites.changes.shows
      shows_by place k at (inr other) = ap is_some (rewrites.changes.others k other) ∙ f.shows place k at

  -- the same row again
  pub unwritten : row ≡ old → seated q keys ≡ seated p keys
  unwritten same = seated_same p q keys (λ k a. by k (key_cases k key))
    where
      by : (k : Key) → (k ≡ key) ⊎ (k ≡ key → ⊥) → shown q k ≡ shown p k
      by k (inl e) = ap (shown q) e ∙ rewrites.changes.shows ∙ ap (λ z. Some z) same ∙ sym is ∙ ap (shown p) (sym e)
      by k (inr other) = rewrites.changes.others k other

-- ---- rows by their places

row_at : (goal : Type 0) (k : Key) (o : Option RowCalls) (rest : List Seated) (place : ℕ) (s : Seated) → slice_get (with_row k o rest) place ≡ Some s → ((j : ℕ) → slice_get rest j ≡ Some s → goal) → (o ≡ Some s.row → k ≡ s.key → goal) → goal
row_at goal k None rest place s e later here = later place e
row_at goal k (Some r) rest zero s e later here =
    let same : record { key = k; row = r } ≡ s = cc in
    here (ap (λ z. Some z.row) same) (ap (λ z. z.key) same)
row_at goal k (Some r) rest (suc place) s e later here = later place e

-- a key shows the row that stands under it
pub seated_shows : (p : Pool RowCalls) (keys : List Key) (place : ℕ) (s : Seated) → slice_get (seated p keys) place ≡ Some s → shown p s.key ≡ Some s.row
seated_shows p [] place s e = absurd (cc)
seated_shows p (k ∷ keys) place s e =
    row_at (shown p s.key ≡ Some s.row) k (shown p k) (seated p keys) place s e (λ j h. seated_shows p keys j s h) (λ is same. ap (shown p) (sym same) ∙ is)

row_past : (k : Key) (o : Option RowCalls) (rest : List Seated) (place : ℕ) (s : Seated) → is_some o ≡ true → slice_get rest place ≡ Some s → slice_get (with_row k o rest) (suc place) ≡ Some s
row_past k None rest place s h e = absurd (cc)
row_past k (Some r) rest place s h e = e

-- and the row that it shows stands at its place
pub shown_sits : (p : Pool RowCalls) (keys : List Key) (key : Key) (row : RowCalls) → AllShow p keys → shown p key ≡ Some row → (place : ℕ) → slice_get keys place ≡ Some key → slice_get (seated p keys) place ≡ Some (record { key = key; row = row })
shown_sits p [] key row shows is place e = absurd (cc)
shown_sits p (k ∷ keys) key row shows is zero e =
    let same : k ≡ key = cc in
    ap (λ z. slice_get (with_row z (shown p z) (seated p keys)) 0) same ∙ ap (λ o. slice_get (with_row key o (seated p keys)) 0) is
shown_sits p (k ∷ keys) key row shows is (suc place) e =
    row_past k (shown p k) (seated p keys) place (record { key = key; row = row }) (shows 0 k refl) (shown_sits p keys key row (λ j z h. shows (suc j) z h) is place e)
