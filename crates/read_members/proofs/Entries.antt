-- The names of the entries of a map are those of the members that it shows.
use Rattle.std.proofs.Common.{◌≡◌, ℕ, List, [], ◌∷◌, ◌&&◌, refl, sym, ap, ◌∙◌, String, Global, BTreeMap, string_bytes}
use Rattle.std.specs.List.{list_all}
use Rattle.serde_json.specs.View as json
use Rattle.serde_json.specs.declared.value.Value as json_value
use Rattle.serde_json.proofs.Views.{view-Object}
use Rattle.toml.specs.View as toml
use Rattle.toml.specs.declared.value.Value as toml_value
use Rattle.toml.proofs.Views.{view-Table}
use Rattle.sp_model.specs.Names.{has_name}
use Rattle.decl_words.specs.Members.{are_among, has_only}
use Rattle.read_members.specs.Tables.{keys_of, table_has_only}

object_members : (names : List (List ℕ)) (es : List (String Global × json_value.Value))
    → list_all (λ m. has_name names (string_bytes m.0)) es ≡ are_among names (json.members_view es)
object_members names [] = refl
object_members names (e ∷ es) = ap (λ b. has_name names (string_bytes e.0) && b) (object_members names es)

pub object_is : (names : List (List ℕ)) (v : json_value.Value) (m : BTreeMap (String Global) json_value.Value) → v ≡ json_value.Object m
    → list_all (λ e. has_name names (string_bytes e.0)) m.entries ≡ has_only names (json.view v)
object_is names v m is = object_members names m.entries ∙ ap (has_only names) (sym (view-Object m) ∙ ap json.view (sym is))

table_members : (names : List (List ℕ)) (es : List (String Global × toml_value.Value))
    → list_all (λ m. has_name names (string_bytes m.0)) es ≡ list_all (has_name names) (keys_of (toml.members_view es))
table_members names [] = refl
table_members names (e ∷ es) = ap (λ b. has_name names (string_bytes e.0) && b) (table_members names es)

pub table_is : (names : List (List ℕ)) (v : toml_value.Value) (m : BTreeMap (String Global) toml_value.Value) → v ≡ toml_value.Table m
    → list_all (λ e. has_name names (string_bytes e.0)) m.entries ≡ table_has_only names (toml.view v)
table_is names v m is = table_members names m.entries ∙ ap (table_has_only names) (sym (view-Table m) ∙ ap toml.view (sym is))
