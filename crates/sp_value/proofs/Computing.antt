-- What a proof computes values with. An answer opens values by `unfolding cells`, so that `out-Cell` of a value that is written out gives its
-- variant. What is defined by a fold, the depth of a value and its JSON, goes variant by variant by `simp folded`.
use Rattle.std.proofs.Common.{rules, ◌≡◌, ℕ, suc, ℤ, Bool, List, map}
use Rattle.std.specs.Prelude.{⊤}
use Rattle.serde_json.specs.Data.{null, boolean, number, string, array, object}
use Rattle.serde_json.specs.Find.{of_integer}
use Rattle.sp_value.specs.Depth.{depth, largest}
use Rattle.sp_value.specs.Json.{data_of, cells_data, pairs_data}
use Rattle.sp_value.specs.declared.cell.Cell.{Cell, the_lemmas}
use Rattle.sp_value.specs.declared.cell.Cell as c

unfoldable pub cells : ⊤
unfolding
    Rattle.sp_value.specs.declared.cell.Cell.TheBlock.hidden-the_row-Cell-0 Rattle.sp_value.specs.declared.cell.Cell.TheBlock.shown-the_row-Cell-0
    Rattle.sp_value.specs.declared.cell.Cell.TheBlock.hidden-the_row-Cell-1 Rattle.sp_value.specs.declared.cell.Cell.TheBlock.shown-the_row-Cell-1
    Rattle.sp_value.specs.declared.cell.Cell.TheViews.out-Cell Rattle.sp_value.specs.declared.cell.Cell.TheViews.roll-Cell
    denote.Hole.Carrier.out denote.Hole.Carrier.roll denote.Hole.Carrier.shown denote.Hole.Carrier.hidden
cells = tt

pub depth-Null : depth c.Null ≡ 0
depth-Null = search (rules, the_lemmas)

pub depth-Bool : (b : Bool) → depth (c.Bool b) ≡ 0
depth-Bool b = search (rules, the_lemmas)

pub depth-Int : (z : ℤ) → depth (c.Int z) ≡ 0
depth-Int z = search (rules, the_lemmas)

pub depth-Text : (t : List ℕ) → depth (c.Text t) ≡ 0
depth-Text t = search (rules, the_lemmas)

pub depth-List : (xs : List Cell) → depth (c.List xs) ≡ suc (largest (map depth xs))
depth-List xs = search (rules, the_lemmas)

pub depth-Object : (ms : List (List ℕ × Cell)) → depth (c.Object ms) ≡ suc (largest (map {A = List ℕ × ℕ} (λ m. m.1) (map {A = List ℕ × Cell} (λ m. (m.0, depth m.1)) ms)))
depth-Object ms = search (rules, the_lemmas)

pub data_of-Null : data_of c.Null ≡ null
data_of-Null = search (rules, the_lemmas)

pub data_of-Bool : (b : Bool) → data_of (c.Bool b) ≡ boolean b
data_of-Bool b = search (rules, the_lemmas)

pub data_of-Int : (z : ℤ) → data_of (c.Int z) ≡ number (of_integer z)
data_of-Int z = search (rules, the_lemmas)

pub data_of-Text : (t : List ℕ) → data_of (c.Text t) ≡ string t
data_of-Text t = search (rules, the_lemmas)

pub data_of-List : (xs : List Cell) → data_of (c.List xs) ≡ array (cells_data xs)
data_of-List xs = search (rules, the_lemmas)

pub data_of-Object : (ms : List (List ℕ × Cell)) → data_of (c.Object ms) ≡ object (pairs_data ms)
data_of-Object ms = search (rules, the_lemmas)

pub ruleset folded = (depth-Null, depth-Bool, depth-Int, depth-Text, depth-List, depth-Object, data_of-Null, data_of-Bool, data_of-Int, data_of-Text, data_of-List, data_of-Object)
