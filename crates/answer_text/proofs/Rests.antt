-- Nothing is left of one of two lists.
use Rattle.std.proofs.Common.{◌≡◌, ◌<◌, ℕ, List, [], ◌∷◌, length, refl, arith}
use Rattle.std.specs.Prelude.{codes}
use Rattle.sp_value.specs.declared.cell.Cell.{Cell}
use Rattle.sp_value.specs.declared.kind.Kind.{Kind}
use Rattle.answer_text.specs.Table.{names_rest, cells_rest}

pub no_names : (ws : List ℕ) (ns : List (List ℕ)) → length ns < 1 → names_rest ws ns ≡ codes "\n"
no_names [] ns h = refl
no_names (w ∷ ws) [] h = refl
no_names (w ∷ ws) (n ∷ ns) h = absurd (omega arith)

pub no_kinds : (ws : List ℕ) (ks : List Kind) (cs : List Cell) → length ks < 1 → cells_rest ws ks cs ≡ codes "\n"
no_kinds [] ks cs h = refl
no_kinds (w ∷ ws) [] cs h = refl
no_kinds (w ∷ ws) (k ∷ ks) cs h = absurd (omega arith)

pub no_cells : (ws : List ℕ) (ks : List Kind) (cs : List Cell) → length cs < 1 → cells_rest ws ks cs ≡ codes "\n"
no_cells [] ks cs h = refl
no_cells (w ∷ ws) [] cs h = refl
no_cells (w ∷ ws) (k ∷ ks) [] h = refl
no_cells (w ∷ ws) (k ∷ ks) (c ∷ cs) h = absurd (omega arith)
