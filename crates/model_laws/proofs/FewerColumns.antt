-- The row of an item in fewer columns.
use Rattle.std.proofs.Common.{◌≡◌, ℕ, Bool, true, false, ◌&&◌, ◌||◌, not, cond, List, [], ◌∷◌, map, filter, Option, Some, None, is_none, if◌then◌else◌, bytes_eq, refl, sym, ap, subst, ◌∙◌}
use Rattle.std.proofs.lemmas.Bool.{or_parts, false_from_ne_true, false≢true, not-true, or_right}
use Rattle.std.proofs.lemmas.Slice.Eq.{bytes_eq-Decides}
use Rattle.std.specs.List.{list_all, zip}
use Rattle.sp_value.specs.Names.{value_under}
use Rattle.sp_value.specs.declared.cell.Cell.{Cell}
use Rattle.sp_value.specs.declared.kind.Kind.{Kind}
use Rattle.sp_model.specs.Names.{are_distinct}
use Rattle.sp_model.specs.Covers.{in_columns}
use Rattle.sp_model.specs.Fields.{or_null, field, is_of_kind}
use Rattle.sp_model.specs.RowOf.{has_name, checked, column_of, source_of, column_value, with_cell, row_of, names_of_columns}
use Rattle.sp_model.specs.SubsetKeys.{field_named}
use Rattle.sp_model.specs.Walk.{cell_of}
use Rattle.sp_model.specs.declared.declaration.ColumnDecl.{ColumnDecl}
use Rattle.sp_model.specs.declared.outcome.Outcome.{Outcome}
use Rattle.sp_model.specs.declared.outcome.Outcome.TheVariants.{Gave, Fails}
use Rattle.sp_model.specs.declared.outcome.Row.{Row}
use Rattle.sp_model.specs.declared.outcome.Row.TheVariants.{Whole, Broken}
use Rattle.model_laws.proofs.Merging.{left, right}

pub bytes_same : (a b : List ℕ) → bytes_eq a b ≡ true → a ≡ b
bytes_same a b h = (bytes_eq-Decides a b).0 h

pub bytes_itself : (a : List ℕ) → bytes_eq a a ≡ true
bytes_itself a = (bytes_eq-Decides a a).1 refl

pub bytes_turn : (a b : List ℕ) → bytes_eq a b ≡ false → bytes_eq b a ≡ false
bytes_turn a b h = false_from_ne_true (bytes_eq b a) (λ e. false≢true (sym h ∙ (bytes_eq-Decides a b).1 (sym (bytes_same b a e))))

-- the columns whose names pass a test
abbrev pub kept_by : (List ℕ → Bool) → List ColumnDecl → List ColumnDecl
kept_by q columns = filter (λ column. q column.name) columns

-- ---- names

or_else_true : (a b : Bool) → a ≡ false → (a || b) ≡ true → b ≡ true
or_else_true true b e h = absurd (false≢true (sym e))
or_else_true false b e h = h

passes_here : (q : List ℕ → Bool) (k : ColumnDecl) (rest : List ColumnDecl) (name : List ℕ) (c : Bool) → bytes_eq name k.name ≡ c → q k.name ≡ true
    → (c || has_name (names_of_columns rest) name) ≡ true → (has_name (names_of_columns rest) name ≡ true → q name ≡ true) → q name ≡ true
passes_here q k rest name true e h m later = subst (λ n. q n ≡ true) (sym (bytes_same name k.name e)) h
passes_here q k rest name false e h m later = later m

passes_by : (q : List ℕ → Bool) (k : ColumnDecl) (rest : List ColumnDecl) (name : List ℕ) (b : Bool) → q k.name ≡ b → has_name (names_of_columns (cond b (k ∷ rest) rest)) name ≡ true
    → (has_name (names_of_columns rest) name ≡ true → q name ≡ true) → q name ≡ true
passes_by q k rest name true e h later = passes_here q k rest name (bytes_eq name k.name) refl e h later
passes_by q k rest name false e h later = later h

-- a name among those of the columns passes the test
pub passes : (q : List ℕ → Bool) (columns : List ColumnDecl) (name : List ℕ) → has_name (names_of_columns (kept_by q columns)) name ≡ true → q name ≡ true
passes q [] name h = absurd (false≢true h)
passes q (k ∷ ks) name h = passes_by q k (kept_by q ks) name (q k.name) refl h (passes q ks name)

name_left_out : (q : List ℕ → Bool) (columns : List ColumnDecl) (name : List ℕ) → has_name (names_of_columns columns) name ≡ false → has_name (names_of_columns (kept_by q columns)) name ≡ false
name_left_out q [] name h = refl
name_left_out q (k ∷ ks) name h =
    let here : bytes_eq name k.name ≡ false = (or_parts (bytes_eq name k.name) (has_name (names_of_columns ks) name) h).0 in
    let later : has_name (names_of_columns (kept_by q ks)) name ≡ false = name_left_out q ks name ((or_parts (bytes_eq name k.name) (has_name (names_of_columns ks) name) h).1) in
    elim (q k.name) as (λ b. has_name (names_of_columns (cond b (k ∷ kept_by q ks) (kept_by q ks))) name ≡ false)
    [ true ↦ ap (λ b. b || has_name (names_of_columns (kept_by q ks)) name) here ∙ later | false ↦ later ]

distinct_kept : (q : List ℕ → Bool) (columns : List ColumnDecl) → are_distinct (names_of_columns columns) ≡ true → are_distinct (names_of_columns (kept_by q columns)) ≡ true
distinct_kept q [] h = refl
distinct_kept q (k ∷ ks) h =
    let other : has_name (names_of_columns ks) k.name ≡ false = not-true (has_name (names_of_columns ks) k.name) (left (not (has_name (names_of_columns ks) k.name)) (are_distinct (names_of_columns ks)) h) in
    let later : are_distinct (names_of_columns (kept_by q ks)) ≡ true = distinct_kept q ks (right (not (has_name (names_of_columns ks) k.name)) (are_distinct (names_of_columns ks)) h) in
    elim (q k.name) as (λ b. are_distinct (names_of_columns (cond b (k ∷ kept_by q ks) (kept_by q ks))) ≡ true)
    [ true ↦ ap (λ b. not b && are_distinct (names_of_columns (kept_by q ks))) (name_left_out q ks k.name other) ∙ later | false ↦ later ]

names_in_by : (n : List ℕ) (ns ms : List (List ℕ)) (name : List ℕ) (b : Bool) → bytes_eq name n ≡ b → has_name ms n ≡ true → (b || has_name ns name) ≡ true → (has_name ns name ≡ true → has_name ms name ≡ true) → has_name ms name ≡ true
names_in_by n ns ms name true e h m later = subst (λ x. has_name ms x ≡ true) (sym (bytes_same name n e)) h
names_in_by n ns ms name false e h m later = later m

pub names_in : (ns ms : List (List ℕ)) (name : List ℕ) → list_all (has_name ms) ns ≡ true → has_name ns name ≡ true → has_name ms name ≡ true
names_in [] ms name h m = absurd (false≢true m)
names_in (n ∷ ns) ms name h m =
    names_in_by n ns ms name (bytes_eq name n) refl (left (has_name ms n) (list_all (has_name ms) ns) h) m (names_in ns ms name (right (has_name ms n) (list_all (has_name ms) ns) h))

-- ---- cells by name

cell_first : (k : ColumnDecl) (ks : List ColumnDecl) (x : Cell) (xs : List Cell) → cell_of (k ∷ ks) (x ∷ xs) k.name ≡ x
cell_first k ks x xs =
    let later : Option Cell = value_under k.name (zip (names_of_columns ks) xs) in
    ap (λ b. or_null (if b then Some x else later)) (bytes_itself k.name)

cell_past : (k : ColumnDecl) (ks : List ColumnDecl) (x : Cell) (xs : List Cell) (name : List ℕ) → bytes_eq k.name name ≡ false → cell_of (k ∷ ks) (x ∷ xs) name ≡ cell_of ks xs name
cell_past k ks x xs name e =
    let later : Option Cell = value_under name (zip (names_of_columns ks) xs) in
    ap (λ b. or_null (if b then Some x else later)) e

abbrev shown : (List ℕ → Cell) → List ColumnDecl → List Cell
shown look columns = map (λ column. look column.name) columns

cell_in_by : (look : List ℕ → Cell) (k : ColumnDecl) (ks : List ColumnDecl) (name : List ℕ) (b : Bool) → bytes_eq k.name name ≡ b → has_name (names_of_columns (k ∷ ks)) name ≡ true
    → (has_name (names_of_columns ks) name ≡ true → cell_of ks (shown look ks) name ≡ look name) → cell_of (k ∷ ks) (shown look (k ∷ ks)) name ≡ look name
cell_in_by look k ks name true e h later =
    let same : k.name ≡ name = bytes_same k.name name e in
    subst (λ n. cell_of (k ∷ ks) (shown look (k ∷ ks)) n ≡ look n) same (cell_first k ks (look k.name) (shown look ks))
cell_in_by look k ks name false e h later =
    cell_past k ks (look k.name) (shown look ks) name e ∙ later (or_else_true (bytes_eq name k.name) (has_name (names_of_columns ks) name) (bytes_turn k.name name e) h)

-- the cell of a column among those that are shown
pub cell_in : (look : List ℕ → Cell) (columns : List ColumnDecl) (name : List ℕ) → has_name (names_of_columns columns) name ≡ true → cell_of columns (shown look columns) name ≡ look name
cell_in look [] name h = absurd (false≢true h)
cell_in look (k ∷ ks) name h = cell_in_by look k ks name (bytes_eq k.name name) refl h (cell_in look ks name)

-- ---- a whole row

record Parts (o : Option Outcome) (rest : Option Row) (cells : List Cell) : Type 0 where
  x : Cell
  xs : List Cell
  value : o ≡ Some (Gave x)
  later : rest ≡ Some (Whole xs)
  all : x ∷ xs ≡ cells

parts_of : (name : List ℕ) (o : Option Outcome) (rest : Option Row) (cells : List Cell) → with_cell name o rest ≡ Some (Whole cells) → Parts o rest cells
parts_of name None rest cells h = let no : ⊥ = cc in absurd no
parts_of name (Some (Fails cause)) rest cells h = let no : ⊥ = cc in absurd no
parts_of name (Some (Gave x)) None cells h = let no : ⊥ = cc in absurd no
parts_of name (Some (Gave x)) (Some (Broken column cause)) cells h = let no : ⊥ = cc in absurd no
parts_of name (Some (Gave x)) (Some (Whole xs)) cells h = let all : x ∷ xs ≡ cells = cc in record { x = x; xs = xs; value = refl; later = refl; all = all }

module _ (gives : List ℕ → Option Outcome) (item : Cell) where
  -- each of the columns has the value that is looked up under its name
  abbrev pub Shows : (List ℕ → Cell) → List ColumnDecl → Type 0
  Shows look [] = Unit {0}
  Shows look (k ∷ ks) = (column_value gives item k ≡ Some (Gave (look k.name))) × Shows look ks

  shows_past : (k : ColumnDecl) (ks : List ColumnDecl) (x : Cell) (xs : List Cell) (columns : List ColumnDecl) → has_name (names_of_columns columns) k.name ≡ false
      → Shows (cell_of ks xs) columns → Shows (cell_of (k ∷ ks) (x ∷ xs)) columns
  shows_past k ks x xs [] h s = tt
  shows_past k ks x xs (l ∷ ls) h s =
      let here : bytes_eq k.name l.name ≡ false = (or_parts (bytes_eq k.name l.name) (has_name (names_of_columns ls) k.name) h).0 in
      (s.0 ∙ ap (λ c. Some (Gave c)) (sym (cell_past k ks x xs l.name here)), shows_past k ks x xs ls ((or_parts (bytes_eq k.name l.name) (has_name (names_of_columns ls) k.name) h).1) s.1)

  -- a whole row shows its columns
  pub shows_row : (columns : List ColumnDecl) (cells : List Cell) → are_distinct (names_of_columns columns) ≡ true → row_of gives columns item ≡ Some (Whole cells) → Shows (cell_of columns cells) columns
  shows_row [] cells d h = tt
  shows_row (k ∷ ks) cells d h =
      let p : Parts (column_value gives item k) (row_of gives ks item) cells = parts_of k.name (column_value gives item k) (row_of gives ks item) cells h in
      let other : has_name (names_of_columns ks) k.name ≡ false = not-true (has_name (names_of_columns ks) k.name) (left (not (has_name (names_of_columns ks) k.name)) (are_distinct (names_of_columns ks)) d) in
      let later : Shows (cell_of ks p.xs) ks = shows_row ks p.xs (right (not (has_name (names_of_columns ks) k.name)) (are_distinct (names_of_columns ks)) d) p.later in
      let all : Shows (cell_of (k ∷ ks) (p.x ∷ p.xs)) (k ∷ ks) = (p.value ∙ ap (λ c. Some (Gave c)) (sym (cell_first k ks p.x p.xs)), shows_past k ks p.x p.xs ks other later) in
      subst (λ cs. Shows (cell_of (k ∷ ks) cs) (k ∷ ks)) p.all all

  fewer_by : (look : List ℕ → Cell) (k : ColumnDecl) (ps qs : List ColumnDecl) (b c : Bool) → (c ≡ true → b ≡ true) → Shows look (cond b (k ∷ ps) ps) → (Shows look ps → Shows look qs) → Shows look (cond c (k ∷ qs) qs)
  fewer_by look k ps qs true true i h later = (h.0, later h.1)
  fewer_by look k ps qs true false i h later = later h.1
  fewer_by look k ps qs false true i h later = absurd (false≢true (i refl))
  fewer_by look k ps qs false false i h later = later h

  shows_fewer : (look : List ℕ → Cell) (p q : List ℕ → Bool) → ((name : List ℕ) → q name ≡ true → p name ≡ true) → (columns : List ColumnDecl) → Shows look (kept_by p columns) → Shows look (kept_by q columns)
  shows_fewer look p q i [] h = tt
  shows_fewer look p q i (k ∷ ks) h = fewer_by look k (kept_by p ks) (kept_by q ks) (p k.name) (q k.name) (i k.name) h (shows_fewer look p q i ks)

  row_shown : (look : List ℕ → Cell) (columns : List ColumnDecl) → Shows look columns → row_of gives columns item ≡ Some (Whole (shown look columns))
  row_shown look [] h = refl
  row_shown look (k ∷ ks) h =
      ap (λ o. with_cell k.name o (row_of gives ks item)) h.0 ∙ ap (λ r. with_cell k.name (Some (Gave (look k.name))) r) (row_shown look ks h.1)

  -- the row of an item in fewer columns has the same cells
  pub row_fewer : (p q : List ℕ → Bool) → ((name : List ℕ) → q name ≡ true → p name ≡ true) → (columns : List ColumnDecl) (cells : List Cell) → are_distinct (names_of_columns columns) ≡ true
      → row_of gives (kept_by p columns) item ≡ Some (Whole cells) → row_of gives (kept_by q columns) item ≡ Some (Whole (in_columns (kept_by p columns) (kept_by q columns) cells))
  row_fewer p q i columns cells d h =
      let look : List ℕ → Cell = cell_of (kept_by p columns) cells in
      row_shown look (kept_by q columns) (shows_fewer look p q i columns (shows_row (kept_by p columns) cells (distinct_kept p columns d) h))

  -- ---- fields

  source_plain : (f : Option (List ℕ)) → is_none f ≡ true → source_of gives item f ≡ Some (Gave item)
  source_plain None h = refl
  source_plain (Some f) h = absurd (false≢true h)

  gave_by : (kind : Kind) (x y : Cell) (b : Bool) → is_of_kind kind x ≡ b → Some (checked kind x) ≡ Some (Gave y) → x ≡ y
  gave_by kind x y true e h = let g : Some (Gave x) ≡ Some (Gave y) = rw e at h in cc
  gave_by kind x y false e h = let no : ⊥ = (let g = rw e at h in cc) in absurd no

  abbrev fields_only : List ℕ → List ColumnDecl → Bool
  fields_only name columns = list_all (λ column. not (bytes_eq column.name name) || is_none column.function) columns

  field_past : (look : List ℕ → Cell) (q : List ℕ → Bool) (name : List ℕ) (k : ColumnDecl) (ks : List ColumnDecl) (c : Bool) → bytes_eq k.name name ≡ false
      → Shows look (cond c (k ∷ kept_by q ks) (kept_by q ks)) → has_name (names_of_columns (cond c (k ∷ kept_by q ks) (kept_by q ks))) name ≡ true
      → (Shows look (kept_by q ks) → has_name (names_of_columns (kept_by q ks)) name ≡ true → look name ≡ field (field_named ks name) item)
      → look name ≡ field (field_named ks name) item
  field_past look q name k ks true e s m later = later s.1 (or_else_true (bytes_eq name k.name) (has_name (names_of_columns (kept_by q ks)) name) (bytes_turn k.name name e) m)
  field_past look q name k ks false e s m later = later s m

  field_by : (look : List ℕ → Cell) (q : List ℕ → Bool) (name : List ℕ) (k : ColumnDecl) (ks : List ColumnDecl) (b : Bool) → bytes_eq k.name name ≡ b → q name ≡ true
      → Shows look (cond (q k.name) (k ∷ kept_by q ks) (kept_by q ks)) → has_name (names_of_columns (cond (q k.name) (k ∷ kept_by q ks) (kept_by q ks))) name ≡ true
      → (not b || is_none k.function) ≡ true
      → (Shows look (kept_by q ks) → has_name (names_of_columns (kept_by q ks)) name ≡ true → look name ≡ field (field_named ks name) item)
      → look name ≡ field (if b then k.field else field_named ks name) item
  field_by look q name k ks true e p s m plain later =
      let same : k.name ≡ name = bytes_same k.name name e in
      let kept : q k.name ≡ true = subst (λ n. q n ≡ true) (sym same) p in
      let here : Shows look (k ∷ kept_by q ks) = subst (λ b. Shows look (cond b (k ∷ kept_by q ks) (kept_by q ks))) kept s in
      let value : Some (checked k.kind (field k.field item)) ≡ Some (Gave (look k.name)) = sym (ap (column_of k) (source_plain k.function plain)) ∙ here.0 in
      ap look (sym same) ∙ sym (gave_by k.kind (field k.field item) (look k.name) (is_of_kind k.kind (field k.field item)) refl value)
  field_by look q name k ks false e p s m plain later = field_past look q name k ks (q k.name) e s m later

  -- what is looked up under the name of a column without a function is the field that it shows
  field_looked : (look : List ℕ → Cell) (q : List ℕ → Bool) (name : List ℕ) → q name ≡ true → (columns : List ColumnDecl) → Shows look (kept_by q columns)
      → has_name (names_of_columns (kept_by q columns)) name ≡ true → fields_only name columns ≡ true → look name ≡ field (field_named columns name) item
  field_looked look q name p [] s m plain = absurd (false≢true m)
  field_looked look q name p (k ∷ ks) s m plain =
      field_by look q name k ks (bytes_eq k.name name) refl p s m (left (not (bytes_eq k.name name) || is_none k.function) (fields_only name ks) plain)
      (λ t n. field_looked look q name p ks t n (right (not (bytes_eq k.name name) || is_none k.function) (fields_only name ks) plain))

  pub cell_is_field : (p : List ℕ → Bool) (columns : List ColumnDecl) (cells : List Cell) (name : List ℕ) → are_distinct (names_of_columns columns) ≡ true
      → row_of gives (kept_by p columns) item ≡ Some (Whole cells) → has_name (names_of_columns (kept_by p columns)) name ≡ true → fields_only name columns ≡ true
      → cell_of (kept_by p columns) cells name ≡ field (field_named columns name) item
  cell_is_field p columns cells name d h m plain =
      field_looked (cell_of (kept_by p columns) cells) p name (passes p columns name m) columns (shows_row (kept_by p columns) cells (distinct_kept p columns d) h) m plain

  more_here : (n k : List ℕ) (ps qs : List (List ℕ)) (e : Bool) → (e || has_name qs n) ≡ true → (has_name qs n ≡ true → has_name ps n ≡ true) → (e || has_name ps n) ≡ true
  more_here n k ps qs true h later = refl
  more_here n k ps qs false h later = later h

  more_by : (k : ColumnDecl) (ps qs : List ColumnDecl) (name : List ℕ) (b c : Bool) → (c ≡ true → b ≡ true) → has_name (names_of_columns (cond c (k ∷ qs) qs)) name ≡ true
      → (has_name (names_of_columns qs) name ≡ true → has_name (names_of_columns ps) name ≡ true) → has_name (names_of_columns (cond b (k ∷ ps) ps)) name ≡ true
  more_by k ps qs name true true i h later = more_here name k.name (names_of_columns ps) (names_of_columns qs) (bytes_eq name k.name) h later
  more_by k ps qs name true false i h later = or_right (bytes_eq name k.name) (has_name (names_of_columns ps) name) (later h)
  more_by k ps qs name false true i h later = absurd (false≢true (i refl))
  more_by k ps qs name false false i h later = later h

  -- a name of the fewer columns is one of the more
  pub name_in_more : (p q : List ℕ → Bool) → ((name : List ℕ) → q name ≡ true → p name ≡ true) → (columns : List ColumnDecl) (name : List ℕ)
      → has_name (names_of_columns (kept_by q columns)) name ≡ true → has_name (names_of_columns (kept_by p columns)) name ≡ true
  name_in_more p q i [] name h = h
  name_in_more p q i (k ∷ ks) name h = more_by k (kept_by p ks) (kept_by q ks) name (p k.name) (q k.name) (i k.name) h (name_in_more p q i ks name)
