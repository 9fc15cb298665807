-- The groups of a connection, one after another.
use Rattle.std.proofs.Common.{◌≡◌, ℕ, ◌+◌, ◌<◌, ◌≤◌, List, take, length, get_or, Option, subst, ◌∙◌}
use Rattle.std.specs.Prelude.{All}
use Rattle.std.proofs.lemmas.List.{take_all}
use Rattle.std.proofs.lemmas.List.Elements.{All-more}
use Rattle.sp_model.specs.declared.declaration.Declaration.{Declaration}
use Rattle.declaration_run.specs.Declaring.{AgreesIn, Agrees}

module _ (declarations : List ℕ → Option Declaration) (connections : List (List ℕ)) (groups : List (List (List ℕ))) (connection : List ℕ) (place : ℕ) where
  -- it agrees in the group at a place, too
  pub one_group_more : (group lent : List (List ℕ)) → place < length groups → group ≡ get_or groups place group → lent ≡ group
      → All (AgreesIn declarations connections connection) (take place groups) → AgreesIn declarations connections connection lent → All (AgreesIn declarations connections connection) (take (place + 1) groups)
  one_group_more group lent within at is_lent before here =
      All-more (AgreesIn declarations connections connection) groups place group within before
      (subst (λ (g : List (List ℕ)). AgreesIn declarations connections connection g) (is_lent ∙ at) here)

  pub all_groups : length groups ≤ place → All (AgreesIn declarations connections connection) (take place groups) → Agrees declarations connections groups connection
  all_groups past all = subst (λ (gs : List (List (List ℕ))). Agrees declarations connections gs connection) (take_all place groups past) all
