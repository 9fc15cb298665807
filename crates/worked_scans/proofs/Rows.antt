-- What holds of an accepted table, and of a row that fails.
use Rattle.std.proofs.Common.{◌≡◌, ℕ, ◌≤◌, Bool, true, false, cond, List, [], ◌∷◌, length, filter, Option, Some, refl, subst, arith}
use Rattle.std.proofs.lemmas.Bool.{and_parts, and_from}
use Rattle.std.specs.List.{list_all}
use Rattle.sp_model.specs.Rests.{column_rests}
use Rattle.sp_model.specs.RowOf.{columns_named}
use Rattle.sp_model.specs.declared.declaration.ColumnDecl.{ColumnDecl}
use Rattle.sp_model.specs.declared.declaration.TableDecl.{TableDecl}
use Rattle.sp_model.specs.declared.outcome.Row.{Row}
use Rattle.decl_words.specs.Sound.{IsSound}
use Rattle.hydrate_graph.specs.Ends.{IsEndOf, IsBroken}
use Rattle.hydrate_graph.specs.declared.ends.RowEnd.{RowEnd}
use Rattle.hydrate_graph.specs.declared.ends.RowEnd.TheVariants as end

broken_at : (columns : List ColumnDecl) (row : Option Row) (number : ℕ) → IsEndOf columns row (Some (end.Fails number)) → IsBroken row
broken_at columns row number (why, (column, at, is)) = (column.name, why, is)

pub broken : (columns : List ColumnDecl) (row : Option Row) (e : RowEnd) (number : ℕ) → e ≡ end.Fails number → IsEndOf columns row (Some e) → IsBroken row
broken columns row e number is h = broken_at columns row number (subst (λ e. IsEndOf columns row (Some e)) is h)

pub few_functions : (t : TableDecl) → IsSound t → length t.functions ≤ 64
few_functions t s = search (arith, s.limits)

-- what each of a list keeps, each of a part of it keeps
in_part : {X : Type 0} (p q : X → Bool) (xs : List X) → list_all p xs ≡ true → list_all p (filter q xs) ≡ true
in_part p q [] h = refl
in_part p q (x ∷ xs) h =
    let both = and_parts (p x) (list_all p xs) h in
    let later : list_all p (filter q xs) ≡ true = in_part p q xs both.1 in
    elim (q x) as (λ b. list_all p (cond b (x ∷ filter q xs) (filter q xs)) ≡ true) [ true ↦ and_from (p x) (list_all p (filter q xs)) both.0 later | false ↦ later ]

pub columns_rest : (t : TableDecl) (names : List (List ℕ)) → IsSound t → list_all (column_rests t.functions) (columns_named names t.columns) ≡ true
columns_rest t names s = in_part (column_rests t.functions) _ t.columns s.rests
