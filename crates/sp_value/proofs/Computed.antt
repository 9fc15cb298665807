-- Values that compute.
use Rattle.std.proofs.Common.{◌≡◌, ℕ, List, [], ◌∷◌, pos, Some, refl}
use Rattle.sp_value.specs.declared.cell.Cell.{Cell}
use Rattle.sp_value.specs.declared.cell.Cell.TheOpen.{Cell-F}
use Rattle.sp_value.specs.declared.cell.Cell.TheViews.{out-Cell}
use Rattle.sp_value.specs.declared.cell.Cell as c
use Rattle.sp_value.specs.declared.truth.Op.TheVariants as op
use Rattle.sp_value.specs.declared.truth.Truth.TheVariants.{Yes}
use Rattle.sp_value.specs.Depth.{depth}
use Rattle.sp_value.specs.Json.{cell_of, data_of}
use Rattle.sp_value.specs.Names.{value_under}
use Rattle.sp_value.specs.Truth.{truth}
use Rattle.sp_value.proofs.Computing.{cells, folded}

abbrev some_object : Cell
some_object = c.Object ((97 ∷ [], c.List (c.Int (pos 1) ∷ c.Null ∷ [])) ∷ (98 ∷ [], c.Object []) ∷ [])

members_at : Cell-F Cell → List (List ℕ × Cell)
members_at (Cell-F.Object ms) = ms
members_at _ = []

nests_two : depth some_object ≡ 2
nests_two = simp folded

reads_back : cell_of (data_of some_object) ≡ Some some_object
reads_back = simp folded

field : value_under (98 ∷ []) (members_at (out-Cell some_object)) ≡ Some (c.Object [])
unfolding cells members_at
field = refl

below : truth op.Lt (c.Int (pos 1)) (c.Int (pos 2)) ≡ Yes
unfolding cells
below = refl
