-- An index as it grows, from the last source to the first.
use Rattle.std.proofs.Common.{◌≡◌, ℕ, ◌+◌, ◌<◌, List, length, drop, get_or, sym, ap, ◌∙◌, cond}
use Rattle.std.specs.Prelude.{Some, bytes_eq}
use Rattle.std.specs.Borrow.{Bor}
use Rattle.std.specs.List.{position_from}
use Rattle.std.proofs.lemmas.Map.Text.{hash_map_updates_str}
use Rattle.indexmap.specs.IndexMap.{IndexMap, UpdatesBy}
use Rattle.sp_model.specs.declared.declaration.ColumnDecl.{ColumnDecl}
use Rattle.sql_grammar.specs.declared.ast.Ref.{Ref}
use Rattle.sql_bind.specs.Fits.{fits_from}
use Rattle.sql_bind.specs.Index.{noted, noted_at, source_at, is_meant, is_under, AliasesFrom}
use Rattle.sql_bind.specs.Sources.{Seen, alias_of}
use Rattle.sql_bind.specs.Wanted.{Wanted, wanted_by}
use Rattle.sql_bind.specs.declared.fitting.Fit.{Fit}
use Rattle.sql_bind.specs.declared.notes.Noted.{Noted}
use Rattle.sql_bind.proofs.Firsts.{rest_is}
use Rattle.sql_bind.proofs.Noting.{StartsFrom, starts_from, fits_then, put_if, column_turn}

-- ---- the columns of a source

-- those from this column on are noted, and others
abbrev pub ColumnsFrom : {S : Type 0} → IndexMap Wanted Noted S → List ℕ → ℕ → (Ref → List Fit) → ℕ → List ColumnDecl → Type 0
ColumnsFrom notes alias n rest column cs = (r : Ref) → noted_at notes (wanted_by r) ≡ noted (fits_then r n alias column cs (rest r))

-- one more
pub column_more : {S : Type 0} (old new : IndexMap Wanted Noted S) (alias : List ℕ) (n : ℕ) (rest : Ref → List Fit) → ((r : Ref) → StartsFrom (n + 1) (rest r))
    → (column : ℕ) (c : ColumnDecl) (cs : List ColumnDecl) → column < length cs → c ≡ get_or cs column c
    → ((r : Ref) → noted_at new (wanted_by r) ≡ put_if (is_meant alias c.name r) (record { source = n; column = column; kind = c.kind }) (noted_at old (wanted_by r)))
    → ColumnsFrom old alias n rest (column + 1) (drop (column + 1) cs)
    → ColumnsFrom new alias n rest column (drop column cs)
column_more old new alias n rest starts column c cs within is put later r =
    put r
    ∙ ap (put_if (is_meant alias c.name r) (record { source = n; column = column; kind = c.kind })) (later r)
    ∙ sym (column_turn r n alias column c (drop (column + 1) cs) (rest r) (starts r))
    ∙ sym (ap (λ ds. noted (fits_then r n alias column ds (rest r))) (rest_is cs column c within is))

-- ---- sources

-- the fits of later sources
abbrev pub later_fits : List Seen → ℕ → Ref → List Fit
later_fits all n r = fits_from r (n + 1) (drop (n + 1) all)

pub later_starts : (all : List Seen) (n : ℕ) (r : Ref) → StartsFrom (n + 1) (later_fits all n r)
later_starts all n r = starts_from r (n + 1) (drop (n + 1) all)

-- the alias of a source, before those of later sources
pub source_named : {S : Type 0} (old new : IndexMap (Bor (List ℕ)) ℕ S) (all : List Seen) (n : ℕ) (s : Seen) (key : List ℕ)
    → n < length all → s ≡ get_or all n s → key ≡ alias_of s.source
    → UpdatesBy (λ x y. bytes_eq x.now y.now) (λ k. bytes_eq key k.now) old new (Some n) → AliasesFrom old (n + 1) all → AliasesFrom new n all
source_named old new all n s key within is same put later alias =
    hash_map_updates_str key old new (Some n) put alias
    ∙ ap (λ a. cond (bytes_eq a alias) (Some n) (source_at old alias)) same
    ∙ ap (cond (bytes_eq (alias_of s.source) alias) (Some n)) (later alias)
    ∙ sym (ap (position_from (is_under alias) n) (rest_is all n s within is))
