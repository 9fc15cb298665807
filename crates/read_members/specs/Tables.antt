-- The keys of TOML tables.
use Rattle.std.specs.Prelude.{ℕ, Bool, false, List, [], ◌∷◌}
use Rattle.std.specs.List.{list_all}
use Rattle.std.specs.Option.{option_map_or}
use Rattle.toml.specs.Data.{Data, Members, no_members, member, as_table}
use Rattle.sp_model.specs.Names.{has_name}

abbrev pub keys_of : Members → List (List ℕ)
keys_of no_members = []
keys_of (member key d ms) = key ∷ keys_of ms

-- a table with keys of these names and no other
abbrev pub table_has_only : List (List ℕ) → Data → Bool
table_has_only names d = option_map_or (λ ms. list_all (has_name names) (keys_of ms)) (as_table d) false
