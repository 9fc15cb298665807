-- The order of rows.
use Rattle.std.specs.Prelude.{ℕ, Bool, true, false, List, [], ◌∷◌, Option, Some, None, if◌then◌else◌}
use Rattle.std.specs.Ordering.{nat_cmp, ordering_then, is_lt}
use Rattle.std.specs.declared.cmp.Ordering.{Ordering}
use Rattle.std.specs.declared.cmp.Ordering.TheVariants.{Equal}
use Rattle.sp_value.specs.declared.cell.Cell.{Cell}
use Rattle.sp_value.specs.declared.cell.Cell.TheOpen.{Cell-F}
use Rattle.sp_value.specs.declared.cell.Cell.TheViews.{out-Cell}
use Rattle.sp_value.specs.Truth.{order_of}
use Rattle.row_algebra.specs.declared.ordering.OrderKey.{OrderKey}
use Rattle.row_algebra.specs.RowTruth.{cell_at}

-- booleans, then integers, then texts, then lists and objects, and nulls last
abbrev pub rank_at : Cell-F Cell → ℕ
rank_at (Cell-F.Bool b) = 0
rank_at (Cell-F.Int n) = 1
rank_at (Cell-F.Text t) = 2
rank_at (Cell-F.List xs) = 3
rank_at (Cell-F.Object ms) = 3
rank_at Cell-F.Null = 4

abbrev pub cell_rank : Cell → ℕ
cell_rank x = rank_at (out-Cell x)

abbrev pub order_or : Option Ordering → Ordering → Ordering
order_or (Some found) other = found
order_or None other = other

-- the order of two values that compare, else that of their ranks
abbrev pub cell_order : Cell → Cell → Ordering
cell_order x y = order_or (order_of x y) (nat_cmp (cell_rank x) (cell_rank y))

-- descending is the reverse
abbrev pub directed : Bool → Cell → Cell → Ordering
directed true x y = cell_order y x
directed false x y = cell_order x y

abbrev pub key_order : OrderKey → List Cell → List Cell → Ordering
key_order key left right = directed key.down (cell_at left key.column) (cell_at right key.column)

-- by the first key that tells the two apart
abbrev pub row_order : List OrderKey → List Cell → List Cell → Ordering
row_order [] left right = Equal
row_order (key ∷ keys) left right = ordering_then (key_order key left right) (row_order keys left right)

abbrev pub comes_before : List OrderKey → List Cell → List Cell → Bool
comes_before keys left right = is_lt (row_order keys left right)

-- before the first row that does not come before this one
abbrev pub inserted : {X : Type 0} → (X → X → Bool) → X → List X → List X
inserted before x [] = x ∷ []
inserted before x (y ∷ ys) = if before y x then y ∷ inserted before x ys else x ∷ y ∷ ys

-- the rows in order, each placed before the later rows that it ties with
abbrev pub sorted_by : {X : Type 0} → (X → X → Bool) → List X → List X
sorted_by before [] = []
sorted_by before (x ∷ xs) = inserted before x (sorted_by before xs)

abbrev pub ordered : List OrderKey → List (List Cell) → List (List Cell)
ordered keys rows = sorted_by (comes_before keys) rows
