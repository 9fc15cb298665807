-- For the model of a flight: rows in a pool, in the order of their keys.
use Rattle.std.specs.Prelude.{◌≡◌, ℕ, true, List, [], ◌∷◌, length, Option, Some, None, slice_get, is_some}
use Rattle.std.specs.List.{list_all}
use Rattle.sp_model.specs.Calls.{is_wanted}
use Rattle.sp_model.specs.Hydration.{find_function}
use Rattle.sp_model.specs.Rests.{column_rests}
use Rattle.sp_model.specs.declared.declaration.FunctionDecl.{FunctionDecl}
use Rattle.hydrate_graph.specs.Graphs.{Plan, wants}
use Rattle.hydrate_graph.specs.Numbers.{number_of}
use Rattle.row_pool.specs.Pools.{Pool, shown, taken, Changes}
use Rattle.row_pool.specs.declared.key.Key.{Key}
use Rattle.row_flight.specs.Flying.{Seated}
use Rattle.row_flight.specs.Rows.{IsRow}
use Rattle.row_flight.specs.declared.row.RowCalls.{RowCalls}

abbrev pub with_row : Key → Option RowCalls → List Seated → List Seated
with_row key None rest = rest
with_row key (Some row) rest = record { key = key; row = row } ∷ rest

-- the rows that these keys show
abbrev pub seated : Pool RowCalls → List Key → List Seated
seated p [] = []
seated p (key ∷ keys) = with_row key (shown p key) (seated p keys)

-- the key isn't among these
abbrev pub IsNew : Key → List Key → Type 0
IsNew key [] = Unit {0}
IsNew key (other ∷ keys) = (other ≡ key → ⊥) × IsNew key keys

abbrev pub AreApart : List Key → Type 0
AreApart [] = Unit {0}
AreApart (key ∷ keys) = IsNew key keys × AreApart keys

abbrev pub Among : Key → List Key → Type 0
Among key keys = (place : ℕ) × (slice_get keys place ≡ Some key)

-- the functions that the columns need rest, and each function has its rule
pub record IsSound (p : Plan) : Type 0 where
  pub wanted : (name : List ℕ) (f : FunctionDecl) → find_function name p.functions ≡ Some f → wants p (number_of p.functions name) ≡ is_wanted p.functions p.columns name
  pub rest : list_all (column_rests p.functions) p.columns ≡ true
  pub rules : length p.rules ≡ length p.functions

-- every key shows a row
abbrev pub AllShow : Pool RowCalls → List Key → Type 0
AllShow p keys = (place : ℕ) (key : Key) → slice_get keys place ≡ Some key → is_some (shown p key) ≡ true

-- the keys that show a row are these, each once, and the rows are of the plan; so many rows were ever taken in
pub record IsFlight (plan : Plan) (window number : ℕ) (p : Pool RowCalls) (keys : List Key) : Type 0 where
  pub sound : IsSound plan
  pub rows : (key : Key) (row : RowCalls) → shown p key ≡ Some row → (row.graph.plan ≡ plan) × IsRow row
  pub all : (key : Key) (row : RowCalls) → shown p key ≡ Some row → Among key keys
  pub shows : AllShow p keys
  pub apart : AreApart keys
  pub used : taken p ≡ length keys
  pub room : p.count ≡ window
  pub last : p.drawn ≡ number

-- for private clauses: only this key shows another row
pub record Rewrites (old new : Pool RowCalls) (key : Key) (row : RowCalls) : Type 0 where
  pub changes : Changes old new key (Some row)
  pub used : taken new ≡ taken old
  pub room : new.count ≡ old.count
  pub last : new.drawn ≡ old.drawn

-- for private clauses: each of these keys shows a row
abbrev pub RowsShown : Pool RowCalls → List Key → Type 0
RowsShown p keys = (place : ℕ) (key : Key) → slice_get keys place ≡ Some key → (row : RowCalls) × (shown p key ≡ Some row) × IsRow row
