-- Cells by places, by names and by columns.
use Rattle.std.proofs.Common.{◌≡◌, ℕ, suc, ◌+◌, Bool, true, false, ◌&&◌, not, cond, if◌then◌else◌, List, [], ◌∷◌, map, filter, length, Some, bytes_eq, refl, sym, ap, ◌∙◌, arith}
use Rattle.std.specs.List.{list_all, zip, slice_get}
use Rattle.sp_value.specs.Names.{value_under}
use Rattle.sp_value.specs.Truth.{truth}
use Rattle.sp_value.specs.declared.cell.Cell.{Cell}
use Rattle.sp_model.specs.Covers.{in_columns, cut, further}
use Rattle.sp_model.specs.Fields.{or_null}
use Rattle.sp_model.specs.Names.{has_name}
use Rattle.sp_model.specs.RowOf.{names_of_columns}
use Rattle.sp_model.specs.Walk.{is_yes, meets}
use Rattle.sp_model.specs.declared.call.Condition.{Condition}
use Rattle.sp_model.specs.declared.declaration.ColumnDecl.{ColumnDecl}
use Rattle.sp_model.specs.declared.scan.ScanRequest.{ScanRequest}
use Rattle.sp_world.specs.Kept.{IsKeptForm}
use Rattle.sp_world.specs.declared.kept_scan.KeptScan.{KeptScan}
use Rattle.model_laws.proofs.FewerColumns.{cell_in}
use Rattle.model_laws.proofs.Merging.{left, right}
use Rattle.query_cache.specs.Places.{place_of, cell_at, cells_at, placed_condition, is_true_at, are_true_at, rows_by_places}
use Rattle.query_cache.specs.Serving.{cell_under, is_true_of, are_true_of, in_names, served_rows}

-- ---- lists

map_map : {X Y Z : Type 0} (f : Y → Z) (g : X → Y) (xs : List X) → map f (map g xs) ≡ map (λ x. f (g x)) xs
map_map f g [] = refl
map_map f g (x ∷ xs) = ap (λ ys. f (g x) ∷ ys) (map_map f g xs)

map_same : {X Y : Type 0} (f g : X → Y) → ((x : X) → f x ≡ g x) → (xs : List X) → map f xs ≡ map g xs
map_same f g e [] = refl
map_same f g e (x ∷ xs) = ap (λ y. y ∷ map f xs) (e x) ∙ ap (λ ys. g x ∷ ys) (map_same f g e xs)

all_map : {X Y : Type 0} (p : Y → Bool) (f : X → Y) (xs : List X) → list_all p (map f xs) ≡ list_all (λ x. p (f x)) xs
all_map p f [] = refl
all_map p f (x ∷ xs) = ap (λ b. p (f x) && b) (all_map p f xs)

all_same : {X : Type 0} (p q : X → Bool) → ((x : X) → p x ≡ q x) → (xs : List X) → list_all p xs ≡ list_all q xs
all_same p q e [] = refl
all_same p q e (x ∷ xs) = ap (λ b. b && list_all p xs) (e x) ∙ ap (λ b. q x && b) (all_same p q e xs)

-- a function and a test that agree with others on each row
rows_by : {X Y : Type 0} (f g : X → Y) (p q : X → Bool) (x : X) (xs : List X) → f x ≡ g x → map f (filter p xs) ≡ map g (filter q xs) → (b : Bool)
    → map f (cond b (x ∷ filter p xs) (filter p xs)) ≡ map g (cond b (x ∷ filter q xs) (filter q xs))
rows_by f g p q x xs e later true = ap (λ y. y ∷ map f (filter p xs)) e ∙ ap (λ ys. g x ∷ ys) later
rows_by f g p q x xs e later false = later

rows_same : {X Y : Type 0} (f g : X → Y) (p q : X → Bool) (xs : List X) → ((k : ℕ) (x : X) → slice_get xs k ≡ Some x → (f x ≡ g x) × (p x ≡ q x)) → map f (filter p xs) ≡ map g (filter q xs)
rows_same f g p q [] h = refl
rows_same f g p q (x ∷ xs) h =
    rows_by f g p q x xs (h 0 x refl).0 (rows_same f g p q xs (λ k. h (suc k))) (p x)
    ∙ ap (λ b. map g (cond b (x ∷ filter q xs) (filter q xs))) (h 0 x refl).1

-- a test after a function, and before it
swap_by : {X Y : Type 0} (f : X → Y) (p : Y → Bool) (q : X → Bool) (x : X) (xs : List X) → filter p (map f xs) ≡ map f (filter q xs) → (b : Bool)
    → cond b (f x ∷ filter p (map f xs)) (filter p (map f xs)) ≡ map f (cond b (x ∷ filter q xs) (filter q xs))
swap_by f p q x xs later true = ap (λ ys. f x ∷ ys) later
swap_by f p q x xs later false = later

swap : {X Y : Type 0} (f : X → Y) (p : Y → Bool) (q : X → Bool) → ((x : X) → p (f x) ≡ q x) → (xs : List X) → filter p (map f xs) ≡ map f (filter q xs)
swap f p q e [] = refl
swap f p q e (x ∷ xs) = swap_by f p q x xs (swap f p q e xs) (p (f x)) ∙ ap (λ b. map f (cond b (x ∷ filter q xs) (filter q xs))) (e x)

-- ---- cells by places

cell_by : (n : List ℕ) (ns : List (List ℕ)) (x : Cell) (xs : List Cell) (name : List ℕ) → cell_at xs (place_of ns name) ≡ cell_under ns xs name → (b : Bool)
    → cell_at (x ∷ xs) (cond (not b) (1 + place_of ns name) 0) ≡ or_null (if b then Some x else value_under name (zip ns xs))
cell_by n ns x xs name later true = refl
cell_by n ns x xs name later false = let e : 1 + place_of ns name ≡ suc (place_of ns name) = omega arith in ap (cell_at (x ∷ xs)) e ∙ later

cell_there : (names : List (List ℕ)) (cells : List Cell) (name : List ℕ) → length cells ≡ length names → cell_at cells (place_of names name) ≡ cell_under names cells name
cell_there [] [] name e = refl
cell_there [] (x ∷ xs) name e = absurd (omega arith)
cell_there (n ∷ ns) [] name e = absurd (omega arith)
cell_there (n ∷ ns) (x ∷ xs) name e = cell_by n ns x xs name (cell_there ns xs name (omega arith)) (bytes_eq n name)

-- rows of one cell for each name, by places and by names
pub by_places : (names wanted : List (List ℕ)) (conditions : List Condition) (rows : List (List Cell))
    → ((k : ℕ) (row : List Cell) → slice_get rows k ≡ Some row → length row ≡ length names)
    → map (cells_at (map (place_of names) wanted)) (filter (are_true_at (map (placed_condition names) conditions)) rows) ≡ map (in_names names wanted) (filter (are_true_of conditions names) rows)
by_places names wanted conditions rows form =
    rows_same _ _ _ _ rows (λ k row h. (
      map_map (cell_at row) (place_of names) wanted ∙ map_same _ _ (λ name. cell_there names row name (form k row h)) wanted,
      all_map (is_true_at row) (placed_condition names) conditions
          ∙ all_same _ _ (λ (condition : Condition). ap (λ cell. is_yes (truth condition.operator cell condition.value)) (cell_there names row condition.column (form k row h))) conditions,
    ))

-- the rows of a kept scan by places are those that it gives
pub served : (kept : KeptScan) (request : ScanRequest) → IsKeptForm kept → rows_by_places kept.note.request kept.rows request ≡ served_rows kept request
unfolding served_rows
served kept request form = ap (cut request.limit) (by_places kept.note.request.columns request.columns (further kept.note.request request) kept.rows form.0)

-- ---- cells by columns

module _ (from to : List ColumnDecl) where
  same_test : (conditions : List Condition) → list_all (λ (condition : Condition). has_name (names_of_columns to) condition.column) conditions ≡ true
      → (cells : List Cell) → meets conditions to (in_columns from to cells) ≡ are_true_of conditions (names_of_columns from) cells
  same_test [] named cells = refl
  same_test (condition ∷ conditions) named cells =
      let on_column : Condition → Bool = λ condition. has_name (names_of_columns to) condition.column in
      ap (λ cell. is_yes (truth condition.operator cell condition.value) && meets conditions to (in_columns from to cells))
      (cell_in (cell_under (names_of_columns from) cells) to condition.column (left (on_column condition) (list_all on_column conditions) named))
      ∙ ap (λ b. is_true_of (names_of_columns from) cells condition && b) (same_test conditions (right (on_column condition) (list_all on_column conditions) named) cells)

  -- rows by columns and by names
  pub by_columns : (conditions : List Condition) → list_all (λ (condition : Condition). has_name (names_of_columns to) condition.column) conditions ≡ true → (rows : List (List Cell))
      → map (in_names (names_of_columns from) (names_of_columns to)) (filter (are_true_of conditions (names_of_columns from)) rows) ≡ filter (meets conditions to) (map (in_columns from to) rows)
  by_columns conditions named rows =
      rows_same _ _ _ _ rows (λ k row h. (map_map (cell_under (names_of_columns from) row) (λ (column : ColumnDecl). column.name) to, refl))
      ∙ sym (swap (in_columns from to) (meets conditions to) (are_true_of conditions (names_of_columns from)) (same_test conditions named) rows)
