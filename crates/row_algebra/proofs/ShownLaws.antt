-- All of a row's columns, in their order.
use Rattle.std.proofs.Common.{◌≡◌, ℕ, suc, zero, ◌+◌, List, [], ◌∷◌, ◌++◌, length, map, drop, Some, refl, sym, ap, ◌∙◌, subst, arith}
use Rattle.std.specs.Prelude.{slice_get, unwrap_or}
use Rattle.sp_value.specs.declared.cell.Cell.{Cell}
use Rattle.sp_value.specs.declared.cell.Cell as c
use Rattle.row_algebra.specs.RowShown.{CountFrom, AreWide}
use Rattle.row_algebra.specs.RowTruth.{cell_at}

at_end : (before : List Cell) (x : Cell) (after : List Cell) → cell_at (before ++ x ∷ after) (length before) ≡ x
at_end [] x after = refl
at_end (y ∷ before) x after = at_end before x after

assoc_one : (before : List Cell) (x : Cell) (after : List Cell) → (before ++ x ∷ []) ++ after ≡ before ++ x ∷ after
assoc_one [] x after = refl
assoc_one (y ∷ before) x after = ap (λ ys. y ∷ ys) (assoc_one before x after)

length_one : (before : List Cell) (x : Cell) → length (before ++ x ∷ []) ≡ suc (length before)
length_one [] x = refl
length_one (y ∷ before) x = ap suc (length_one before x)

shown_from : (before after : List Cell) (columns : List ℕ) → CountFrom (length before) columns → length after ≡ length columns → map (cell_at (before ++ after)) columns ≡ after
shown_from before [] [] counts same = refl
shown_from before [] (k ∷ columns) counts same = absurd (cc)
shown_from before (x ∷ after) [] counts same = absurd (cc)
shown_from before (x ∷ after) (k ∷ columns) counts same =
    let here : cell_at (before ++ x ∷ after) k ≡ x = ap (cell_at (before ++ x ∷ after)) counts.0 ∙ at_end before x after in
    let rest : map (cell_at ((before ++ x ∷ []) ++ after)) columns ≡ after =
    shown_from (before ++ x ∷ []) after columns (subst (λ n. CountFrom n columns) (sym (length_one before x)) counts.1) (omega (arith, same)) in
    let moved : map (cell_at (before ++ x ∷ after)) columns ≡ after = subst (λ row. map (cell_at row) columns ≡ after) (assoc_one before x after) rest in
    ap (λ y. y ∷ map (cell_at (before ++ x ∷ after)) columns) here ∙ ap (λ ys. x ∷ ys) moved

pub all_shown : (rows : List (List Cell)) (columns : List ℕ) → CountFrom 0 columns → AreWide (length columns) rows → rows ≡ map (λ row. map (cell_at row) columns) rows
all_shown [] columns counts wide = refl
all_shown (row ∷ rows) columns counts wide =
    ap (λ r. r ∷ rows) (sym (shown_from [] row columns counts wide.0)) ∙ ap (λ rs. map (cell_at row) columns ∷ rs) (all_shown rows columns counts wide.1)
