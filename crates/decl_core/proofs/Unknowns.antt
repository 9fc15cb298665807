-- Whether names are declared depends on which names are declared alone.
use Rattle.std.proofs.Common.{◌≡◌, ℕ, Bool, false, not, ◌||◌, List, [], ◌∷◌, Option, Some, None, refl, ap, ◌∙◌}
use Rattle.std.specs.List.{list_any}
use Rattle.std.specs.Option.{option_map_or}
use Rattle.sp_model.specs.declared.declaration.ColumnDecl.{ColumnDecl}
use Rattle.sp_model.specs.declared.declaration.FunctionDecl.{FunctionDecl}
use Rattle.sp_model.specs.Names.{has_name}
use Rattle.decl_words.specs.Refusals.{is_unknown, column_is_unknown, depends_on_unknown}

any-same : {X : Type 0} (p q : X → Bool) → ((x : X) → p x ≡ q x) → (xs : List X) → list_any p xs ≡ list_any q xs
any-same p q same [] = refl
any-same p q same (x ∷ xs) = ap (λ b. b || list_any p xs) (same x) ∙ ap (λ b. q x || b) (any-same p q same xs)

module _ (s t : List (List ℕ)) (same : (name : List ℕ) → has_name s name ≡ has_name t name) where
  column_by : (c : ColumnDecl) → column_is_unknown s c ≡ column_is_unknown t c
  column_by c = by c.function
    where
      by : (o : Option (List ℕ)) → option_map_or (is_unknown s) o false ≡ option_map_or (is_unknown t) o false
      by None = refl
      by (Some f) = ap not (same f)

  pub unknown_by : (columns : List ColumnDecl) (functions : List FunctionDecl)
      → (list_any (column_is_unknown s) columns || list_any (depends_on_unknown s) functions) ≡ (list_any (column_is_unknown t) columns || list_any (depends_on_unknown t) functions)
  unknown_by columns functions =
      ap (λ b. b || list_any (depends_on_unknown s) functions) (any-same (column_is_unknown s) (column_is_unknown t) column_by columns)
      ∙ ap (λ b. list_any (column_is_unknown t) columns || b)
      (any-same (depends_on_unknown s) (depends_on_unknown t) (λ f. any-same (is_unknown s) (is_unknown t) (λ name. ap not (same name)) f.depends) functions)
