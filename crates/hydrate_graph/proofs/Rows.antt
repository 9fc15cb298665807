-- Rows by what is known of their functions.
use Rattle.std.proofs.Common.{◌≡◌, ◌<◌, ◌+◌, ℕ, zero, suc, true, List, [], ◌∷◌, ◌++◌, length, get_or, drop, Option, Some, None, refl, sym, ap, ◌∙◌, arith, add-one, append_assoc}
use Rattle.std.specs.Prelude.{slice_get}
use Rattle.std.proofs.Math.Seq.{drop-cons}
use Rattle.sp_value.specs.declared.cell.Cell.{Cell}
use Rattle.sp_model.specs.Hydration.{hydrated_by}
use Rattle.sp_model.specs.RowOf.{column_of, source_of, column_value, with_cell, row_of}
use Rattle.sp_model.specs.declared.declaration.ColumnDecl.{ColumnDecl}
use Rattle.sp_model.specs.declared.declaration.FunctionDecl.{FunctionDecl}
use Rattle.sp_model.specs.declared.outcome.Outcome.{Outcome}
use Rattle.sp_model.specs.declared.outcome.Outcome.TheVariants.{Gave, Fails}
use Rattle.sp_model.specs.declared.outcome.Row.{Row}
use Rattle.sp_model.specs.declared.outcome.Row.TheVariants.{Whole, Broken}
use Rattle.sp_model.specs.declared.scan.Cause.{Cause}
use Rattle.hydrate_graph.specs.Ends.{FailsAt, IsWhole}
use Rattle.hydrate_graph.specs.Following.{by_known, Follows, Completes}
use Rattle.hydrate_graph.specs.Graphs.{Graph, known, row_so_far}
use Rattle.hydrate_graph.specs.Numbers.{number_of, name_at, source_number}
use Rattle.sp_model.specs.Rests.{rests, rests_some}
use Rattle.hydrate_graph.proofs.Numbering.{named_at}
use Rattle.hydrate_graph.proofs.Hydrating.{status_is_hydrated, hydrated_is_status}
use Rattle.hydrate_graph.proofs.Chain.{found_here}

abbrev Gives : Type 0
Gives = List ℕ → Option Outcome

-- ---- a value

-- a column's function that rests has the name of its number
pub source_named : (fs : List FunctionDecl) (number : ℕ) (name : Option (List ℕ)) → Some number ≡ source_number fs name → rests_some fs name ≡ true
    → (number_of fs (name_at fs number) ≡ number) × (rests fs (name_at fs number) ≡ true) × (name ≡ Some (name_at fs number))
source_named fs number None e h = absurd (cc)
source_named fs number (Some name) e h =
    let same : number ≡ number_of fs name = cc in
    let p = found_here (length fs) fs name h in
    let named : name_at fs number ≡ name = ap (name_at fs) same ∙ named_at name fs p.0 p.1 in
    (ap (number_of fs) named ∙ sym same, ap (rests fs) named ∙ h, ap (λ n. Some n) (sym named))

-- a column's value is that of what its function gives
pub value_by : (gives : Gives) (item : Cell) (column : ColumnDecl) (name : List ℕ) (o : Option Outcome) → column.function ≡ Some name → o ≡ gives name → column_of column o ≡ column_value gives item column
value_by gives item column name o f e = ap (column_of column) (e ∙ sym (ap (source_of gives item) f))

-- ---- a row

-- cells before a row
abbrev pub after_cells : List Cell → Option Row → Option Row
after_cells xs None = None
after_cells xs (Some (Broken column cause)) = Some (Broken column cause)
after_cells xs (Some (Whole ys)) = Some (Whole (xs ++ ys))

pub after_more : (xs : List Cell) (name : List ℕ) (x : Cell) (row : Option Row) → after_cells xs (with_cell name (Some (Gave x)) row) ≡ after_cells (xs ++ x ∷ []) row
after_more xs name x None = refl
after_more xs name x (Some (Broken column cause)) = refl
after_more xs name x (Some (Whole ys)) = ap (λ l. Some (Whole l)) (sym (append_assoc xs (x ∷ []) ys))

pub get_is : {X : Type 0} (xs : List X) (n : ℕ) (x : X) → n < length xs → x ≡ get_or xs n x → slice_get xs n ≡ Some x
get_is [] n x l h = absurd (omega arith)
get_is (y ∷ ys) zero x l h = ap (λ z. Some z) (sym h)
get_is (y ∷ ys) (suc n) x l h = get_is ys n x (omega arith) h

module _ (gives : Gives) (item : Cell) (columns : List ColumnDecl) (k : ℕ) (column : ColumnDecl) (l : k < length columns) (is : column ≡ get_or columns k column) where
  row_here : row_of gives (drop k columns) item ≡ with_cell column.name (column_value gives item column) (row_of gives (drop (k + 1) columns) item)
  row_here =
      ap (λ cs. row_of gives cs item) (drop-cons columns k column l)
      ∙ ap (λ cl. with_cell cl.name (column_value gives item cl) (row_of gives (drop (suc k) columns) item)) (sym is)
      ∙ ap (λ n. with_cell column.name (column_value gives item column) (row_of gives (drop n columns) item)) (sym (add-one k))

  pub row_gives : (xs : List Cell) (x : Cell) → Some (Gave x) ≡ column_value gives item column → after_cells xs (row_of gives (drop k columns) item) ≡ after_cells (xs ++ x ∷ []) (row_of gives (drop (k + 1) columns) item)
  row_gives xs x e =
      ap (after_cells xs) (row_here ∙ ap (λ o. with_cell column.name o (row_of gives (drop (k + 1) columns) item)) (sym e)) ∙ after_more xs column.name x (row_of gives (drop (k + 1) columns) item)

  pub row_fails : (xs : List Cell) (row : Option Row) (why : Cause) → row ≡ after_cells xs (row_of gives (drop k columns) item) → Some (Fails why) ≡ column_value gives item column → FailsAt columns row k why
  row_fails xs row why whole e =
      (column, get_is columns k column l is, whole ∙ ap (after_cells xs) (row_here ∙ ap (λ o. with_cell column.name o (row_of gives (drop (k + 1) columns) item)) (sym e)))

-- ---- on more

column_more : (column : ColumnDecl) (a b : Option Outcome) → ((o : Outcome) → a ≡ Some o → b ≡ Some o) → (o : Outcome) → column_of column a ≡ Some o → column_of column b ≡ Some o
column_more column None b up o e = absurd (cc)
column_more column (Some a) b up o e = ap (column_of column) (up a refl) ∙ e

source_more : (h k : Gives) → ((d : List ℕ) (o : Outcome) → h d ≡ Some o → k d ≡ Some o) → (item : Cell) (name : Option (List ℕ)) (o : Outcome) → source_of h item name ≡ Some o → source_of k item name ≡ Some o
source_more h k up item None o e = e
source_more h k up item (Some name) o e = up name o e

cell_more : (name : List ℕ) (a b : Option Outcome) (r s : Option Row) → ((o : Outcome) → a ≡ Some o → b ≡ Some o) → ((r ≡ None → ⊥) → s ≡ r) → (with_cell name a r ≡ None → ⊥) → with_cell name b s ≡ with_cell name a r
cell_more name None b r s up same w = absurd (w refl)
cell_more name (Some (Fails cause)) b r s up same w = rw (up (Fails cause) refl) refl
cell_more name (Some (Gave x)) b (Some (Whole xs)) s up same w = rw (up (Gave x) refl, same (λ e. cc)) refl
cell_more name (Some (Gave x)) b (Some (Broken column cause)) s up same w = rw (up (Gave x) refl, same (λ e. cc)) refl
cell_more name (Some (Gave x)) b None s up same w = absurd (w refl)

-- a row that is decided on less is decided the same on more
pub row_more : (h k : Gives) → ((d : List ℕ) (o : Outcome) → h d ≡ Some o → k d ≡ Some o) → (item : Cell) (columns : List ColumnDecl) → (row_of h columns item ≡ None → ⊥) → row_of k columns item ≡ row_of h columns item
row_more h k up item [] w = refl
row_more h k up item (column ∷ columns) w =
    cell_more column.name (column_value h item column) (column_value k item column) (row_of h columns item) (row_of k columns item)
    (column_more column (source_of h item column.function) (source_of k item column.function) (source_more h k up item column.function)) (row_more h k up item columns) w

-- a row that is decided by what is settled is the one that hydration gives
pub row_truth : (g : Graph) (call : FunctionDecl → List (List ℕ × Cell) → Option Outcome) → Follows g.plan.functions (known g) call → (row_so_far g ≡ None → ⊥) → row_of (hydrated_by g.plan.functions call) g.plan.columns g.item ≡ row_so_far g
row_truth g call follows w =
    row_more (hydrated_by g.plan.functions (by_known (known g))) (hydrated_by g.plan.functions call) (status_is_hydrated g.plan.functions (known g) call follows (length g.plan.functions)) g.item g.plan.columns w

pub whole_truth : (g : Graph) (call : FunctionDecl → List (List ℕ × Cell) → Option Outcome) → Follows g.plan.functions (known g) call → IsWhole (row_so_far g) → row_of (hydrated_by g.plan.functions call) g.plan.columns g.item ≡ row_so_far g
whole_truth g call follows whole = row_truth g call follows (λ e. let n : None ≡ Some (Whole whole.0) = sym e ∙ whole.1 in cc)

pub failed_truth : (g : Graph) (call : FunctionDecl → List (List ℕ × Cell) → Option Outcome) (number : ℕ) (why : Cause) → Follows g.plan.functions (known g) call → FailsAt g.plan.columns (row_so_far g) number why
    → row_of (hydrated_by g.plan.functions call) g.plan.columns g.item ≡ row_so_far g
failed_truth g call number why follows fails = row_truth g call follows (λ e. let n : None ≡ Some (Broken fails.0.name why) = sym e ∙ fails.2 in cc)

pub same_cause : (row : Option Row) (column other : List ℕ) (why cause : Cause) → row ≡ Some (Broken column why) → row ≡ Some (Broken other cause) → why ≡ cause
same_cause row column other why cause e f = cc

source_same : (h k : Gives) → ((d : List ℕ) → h d ≡ k d) → (item : Cell) (name : Option (List ℕ)) → source_of h item name ≡ source_of k item name
source_same h k same item None = refl
source_same h k same item (Some name) = same name

row_same : (h k : Gives) → ((d : List ℕ) → h d ≡ k d) → (item : Cell) (columns : List ColumnDecl) → row_of h columns item ≡ row_of k columns item
row_same h k same item [] = refl
row_same h k same item (column ∷ columns) =
    ap (λ o. with_cell column.name (column_of column o) (row_of h columns item)) (source_same h k same item column.function) ∙ ap (with_cell column.name (column_value k item column)) (row_same h k same item columns)

-- where every known call is settled, the row is the one that hydration gives, also where it waits
pub row_exact : (g : Graph) (call : FunctionDecl → List (List ℕ × Cell) → Option Outcome) → Follows g.plan.functions (known g) call → Completes g.plan.functions (known g) call
    → row_of (hydrated_by g.plan.functions call) g.plan.columns g.item ≡ row_so_far g
row_exact g call follows completes =
    row_same (hydrated_by g.plan.functions call) (hydrated_by g.plan.functions (by_known (known g))) (hydrated_is_status g.plan.functions (known g) call follows completes (length g.plan.functions)) g.item g.plan.columns
