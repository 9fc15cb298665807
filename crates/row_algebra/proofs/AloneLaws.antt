-- One row without cells, followed by one result.
use Rattle.std.proofs.Common.{◌≡◌, ℕ, List, [], ◌∷◌, ◌++◌, length, map, refl, sym, ap, ◌∙◌, subst}
use Rattle.sp_value.specs.declared.cell.Cell.{Cell}
use Rattle.row_algebra.specs.RowJoins.{joined, IsAlone}

after_nothing : (rows : List (List Cell)) → map (λ row. [] ++ row) rows ≡ rows
after_nothing [] = refl
after_nothing (row ∷ rows) = ap (λ more. row ∷ more) (after_nothing rows)

and_nothing : (rows : List (List Cell)) → rows ++ [] ≡ rows
and_nothing [] = refl
and_nothing (row ∷ rows) = ap (λ more. row ∷ more) (and_nothing rows)

one_joined : (rows : List (List Cell)) → joined ([] ∷ []) ((0 ∷ []) ∷ []) (rows ∷ []) ≡ rows
unfolding joined
one_joined rows = and_nothing (map (λ row. [] ++ row) rows ++ []) ∙ and_nothing (map (λ row. [] ++ row) rows) ∙ after_nothing rows

by_one : (left : List (List Cell)) (picks : List (List ℕ)) (right : List (List (List Cell))) → length right ≡ 1 → left ≡ [] ∷ [] → picks ≡ (0 ∷ []) ∷ [] → IsAlone left picks right
by_one left picks [] n l p = absurd (cc)
by_one left picks (rows ∷ []) n l p = record {
  rows = rows;
  one = refl;
  same = ap (λ xs. joined xs picks (rows ∷ [])) l ∙ ap (λ ps. joined ([] ∷ []) ps (rows ∷ [])) p ∙ one_joined rows;
}
by_one left picks (rows ∷ (more ∷ others)) n l p = absurd (cc)

pub alone_joined : (left : List (List Cell)) (picks : List (List ℕ)) (right : List (List (List Cell))) → length right ≡ 1 → left ≡ [] ∷ [] → picks ≡ (0 ∷ []) ∷ [] → IsAlone left picks right
alone_joined = by_one
