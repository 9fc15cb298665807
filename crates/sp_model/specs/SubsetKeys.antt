-- Keys whose conditions only filter.
use Rattle.std.specs.Prelude.{◌≡◌, ℕ, Bool, true, false, ◌&&◌, List, [], ◌∷◌, filter, Option, is_some, if◌then◌else◌, bytes_eq}
use Rattle.std.specs.List.{list_any}
use Rattle.sp_value.specs.Truth.{truth}
use Rattle.sp_value.specs.declared.cell.Cell.{Cell}
use Rattle.sp_model.specs.Book.{Book}
use Rattle.sp_model.specs.Calls.{fit_keys, same_presence}
use Rattle.sp_model.specs.Conditions.{is_scalar}
use Rattle.sp_model.specs.Fields.{field}
use Rattle.sp_model.specs.Keys.{is_on, put_condition}
use Rattle.sp_model.specs.Walk.{is_yes}
use Rattle.sp_model.specs.declared.call.Call.TheVariants as call
use Rattle.sp_model.specs.declared.call.CallKey.{CallKey}
use Rattle.sp_model.specs.declared.call.Condition.{Condition}
use Rattle.sp_model.specs.declared.declaration.ColumnDecl.{ColumnDecl}
use Rattle.sp_model.specs.declared.declaration.KeyDecl.{KeyDecl}
use Rattle.sp_model.specs.declared.declaration.ListDecl.{ListDecl}
use Rattle.sp_model.specs.declared.declaration.Matching.{Matching}
use Rattle.sp_model.specs.declared.declaration.Matching.TheVariants.{Subset, Exact}
use Rattle.sp_model.specs.declared.declaration.TableDecl.{TableDecl}

abbrev pub is_subset : Matching → Bool
is_subset Subset = true
is_subset Exact = false

-- a condition that is sent on a key that is declared to filter only
abbrev pub is_on_subset_key : List KeyDecl → Condition → Bool
is_on_subset_key keys condition = list_any (λ key. is_subset key.matching && is_on key condition) keys

-- the field that a column shows
abbrev pub field_named : List ColumnDecl → List ℕ → List ℕ
field_named [] name = name
field_named (column ∷ columns) name = if bytes_eq column.name name then column.field else field_named columns name

-- the condition is true of the field that its column shows of an item
abbrev pub holds_of : List ColumnDecl → Condition → Cell → Bool
holds_of columns condition item = is_yes (truth condition.operator (field (field_named columns condition.column) item) condition.value)

abbrev pub list_key : List ℕ → ℕ → List ℕ → Option Cell → ℕ → List Condition → CallKey
list_key connection version table parent attempt conditions =
    record { connection = connection; version = version; call = call.List table conditions parent; attempt = attempt }

-- a list call that may be made of a list with these keys: its conditions are canonical, sent and met, and it has a parent exactly where one is declared
abbrev pub is_list_call : ListDecl → List Condition → Option Cell → Bool
is_list_call d conditions parent = fit_keys d.keys conditions && same_presence (is_some parent) (is_some d.parent)

-- a further condition on such a key, whose value is a boolean, an integer or a text
abbrev pub is_further : ListDecl → Condition → Bool
is_further d further = is_scalar further.value && is_on_subset_key d.keys further

-- the reply to a list call with one condition more on such a key is the reply without it, less the items for which it isn't true, with the same ending
abbrev pub SubsetKeysOnlyFilter : Book → List ℕ → TableDecl → ListDecl → Type 0
SubsetKeysOnlyFilter book connection table d =
    (version attempt : ℕ) (parent : Option Cell) (conditions : List Condition) (further : Condition)
    → is_list_call d conditions parent ≡ true
    → is_further d further ≡ true
    → book.reply (list_key connection version table.name parent attempt (put_condition further conditions))
    ≡ record {
      items = filter (holds_of table.columns further) (book.reply (list_key connection version table.name parent attempt conditions)).items;
      ending = (book.reply (list_key connection version table.name parent attempt conditions)).ending;
    }
