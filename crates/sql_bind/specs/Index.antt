-- What is kept of many sources, so that what a ref fits is told at once.
use Rattle.std.specs.Prelude.{◌≡◌, ℕ, Bool, true, false, ◌&&◌, List, [], ◌∷◌, drop, nat_eq, nat_lt, bytes_eq, Option, Some, None, if◌then◌else◌}
use Rattle.std.specs.Borrow.{Bor}
use Rattle.std.specs.List.{position_from}
use Rattle.indexmap.specs.IndexMap.{IndexMap, get, get_by}
use Rattle.sql_grammar.specs.declared.ast.Name.{Name}
use Rattle.sql_grammar.specs.declared.ast.Ref.{Ref}
use Rattle.sql_bind.specs.Fits.{fits_from}
use Rattle.sql_bind.specs.Sources.{Seen, alias_of}
use Rattle.sql_bind.specs.Wanted.{Wanted, same_wanted, wanted_by}
use Rattle.sql_bind.specs.declared.fitting.Fit.{Fit}
use Rattle.sql_bind.specs.declared.fitting.Fits.{Fits}
use Rattle.sql_bind.specs.declared.fitting.Fits.TheVariants as are
use Rattle.sql_bind.specs.declared.index.Index.{Index}
use Rattle.sql_bind.specs.declared.notes.Noted.{Noted}

-- ---- columns

-- of fits in the order of sources: the first, and the source of the second
abbrev pub noted : List Fit → Option Noted
noted [] = None
noted (f ∷ []) = Some (record { first = f; next = None })
noted (f ∷ g ∷ fs) = Some (record { first = f; next = Some g.source })

-- the first source but for this one
abbrev pub next_after : ℕ → Option Noted → Option ℕ
next_after source None = None
next_after source (Some n) = if nat_eq n.first.source source then n.next else Some n.first.source

-- a ref may mean a source of this alias
abbrev pub goes_under : List ℕ → Option Name → Bool
goes_under alias None = true
goes_under alias (Some name) = bytes_eq alias name.text

-- a ref may mean a column of this name in a source of this alias
abbrev pub is_meant : List ℕ → List ℕ → Ref → Bool
is_meant alias column r = goes_under alias r.source && bytes_eq column r.column.text

-- a fit before those that are noted; it stands for others of its source
abbrev pub put_first : Fit → Option Noted → Noted
put_first f old = record { first = f; next = next_after f.source old }

abbrev pub is_below : ℕ → Option ℕ → Bool
is_below count None = false
is_below count (Some source) = nat_lt source count

-- what is noted says of the first sources, so many
abbrev pub fits_below : ℕ → Option Noted → Fits
fits_below count None = are.None
fits_below count (Some n) =
    if nat_lt n.first.source count then (if is_below count n.next then are.Several else are.One n.first) else are.None

abbrev pub noted_at : {S : Type 0} → IndexMap Wanted Noted S → Wanted → Option Noted
noted_at notes w = get same_wanted notes w

-- the columns of the sources from the n-th on are noted
abbrev pub NotesFrom : {S : Type 0} → IndexMap Wanted Noted S → ℕ → List Seen → Type 0
NotesFrom notes n all = (r : Ref) → noted_at notes (wanted_by r) ≡ noted (fits_from r n (drop n all))

-- ---- aliases

abbrev pub is_under : List ℕ → Seen → Bool
is_under alias seen = bytes_eq (alias_of seen.source) alias

abbrev pub source_at : {S : Type 0} → IndexMap (Bor (List ℕ)) ℕ S → List ℕ → Option ℕ
source_at aliases alias = get_by (λ k. bytes_eq alias k.now) aliases

-- each alias has the first of its sources from the n-th on
abbrev pub AliasesFrom : {S : Type 0} → IndexMap (Bor (List ℕ)) ℕ S → ℕ → List Seen → Type 0
AliasesFrom aliases n all = (alias : List ℕ) → source_at aliases alias ≡ position_from (is_under alias) n (drop n all)

-- it keeps these sources
abbrev pub Indexes : Index → List Seen → Type 0
Indexes index all = NotesFrom index.notes 0 all × AliasesFrom index.aliases 0 all
