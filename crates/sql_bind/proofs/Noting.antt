-- What is noted of fits, one put before others.
use Rattle.std.proofs.Common.{◌≡◌, ℕ, ◌+◌, ◌≤◌, List, [], ◌∷◌, ◌++◌, refl, sym, ap, arith, inl, inr}
use Rattle.std.specs.Prelude.{Bool, true, false, ◌&&◌, Option, Some, None, bytes_eq, nat_eq, option_to_list, if◌then◌else◌}
use Rattle.std.proofs.lemmas.Bool.{ne_eqb, eqb-false}
use Rattle.sp_model.specs.declared.declaration.ColumnDecl.{ColumnDecl}
use Rattle.sql_grammar.specs.declared.ast.Ref.{Ref}
use Rattle.sql_bind.specs.Fits.{may_mean, column_named, fit_in, fits_from}
use Rattle.sql_bind.specs.Index.{noted, put_first, goes_under, is_meant}
use Rattle.sql_bind.specs.Sources.{Seen}
use Rattle.sql_bind.specs.declared.fitting.Fit.{Fit}
use Rattle.sql_bind.specs.declared.notes.Noted.{Noted}
use Rattle.sql_bind.proofs.Declared.{split}

some_is : (f g : Fit) → Some f ≡ Some g → f ≡ g
some_is f g e = cc

-- ---- the sources of fits

named_source : (source n : ℕ) (name : List ℕ) (cs : List ColumnDecl) (f : Fit) → column_named source n name cs ≡ Some f → f.source ≡ source
named_source source n name [] f e = absurd (cc)
named_source source n name (c ∷ cs) f e = elim (split (bytes_eq c.name name)) [
  | inl is ↦ let same : record { source = source; column = n; kind = c.kind } ≡ f = some_is _ f (rw is at e) in ap (λ (g : Fit). g.source) (sym same)
  | inr is ↦ named_source source (n + 1) name cs f (rw is at e)
]

pub source_of_fit : (r : Ref) (n : ℕ) (s : Seen) (f : Fit) → fit_in r n s ≡ Some f → f.source ≡ n
source_of_fit r n s f e = elim (split (may_mean r.source s)) [
  | inl is ↦ named_source n 0 r.column.text s.table.columns f (rw is at e)
  | inr is ↦ let none : None ≡ Some f = rw is at e in absurd (cc)
]

-- the first fit is in no source before this one
abbrev pub StartsFrom : ℕ → List Fit → Type 0
StartsFrom n [] = Unit {0}
StartsFrom n (f ∷ fs) = n ≤ f.source

starts_later : (n : ℕ) (fs : List Fit) → StartsFrom (n + 1) fs → StartsFrom n fs
starts_later n [] starts = tt
starts_later n (f ∷ fs) starts = omega arith

pub starts_from : (r : Ref) (n : ℕ) (ss : List Seen) → StartsFrom n (fits_from r n ss)
starts_from r n [] = tt
starts_from r n (s ∷ ss) = by (starts_later n (fits_from r (n + 1) ss) (starts_from r (n + 1) ss)) (fit_in r n s) refl
  where
    by : StartsFrom n (fits_from r (n + 1) ss) → (q : Option Fit) → fit_in r n s ≡ q → StartsFrom n (option_to_list q ++ fits_from r (n + 1) ss)
    by later None e = later
    by later (Some f) e = let here : f.source ≡ n = source_of_fit r n s f e in omega arith

-- ---- a fit before others

abbrev noted_as : Fit → Option ℕ → Option Noted
noted_as f next = Some (record { first = f; next = next })

apart : (f g : Fit) → f.source + 1 ≤ g.source → nat_eq g.source f.source ≡ false
apart f g more = ne_eqb g.source f.source (λ same. omega arith)

-- before the fits of later sources
put_before : (f : Fit) (rest : List Fit) → StartsFrom (f.source + 1) rest → noted (f ∷ rest) ≡ Some (put_first f (noted rest))
put_before f [] starts = refl
put_before f (g ∷ []) starts = ap (λ b. noted_as f (if b then None else Some g.source)) (sym (apart f g starts))
put_before f (g ∷ h ∷ rest) starts = ap (λ b. noted_as f (if b then Some h.source else Some g.source)) (sym (apart f g starts))

-- before one of the same source
put_over : (f g : Fit) (rest : List Fit) → nat_eq g.source f.source ≡ true → noted (f ∷ rest) ≡ Some (put_first f (noted (g ∷ rest)))
put_over f g [] same = ap (λ b. noted_as f (if b then None else Some g.source)) (sym same)
put_over f g (h ∷ rest) same = ap (λ b. noted_as f (if b then Some h.source else Some g.source)) (sym same)

-- ---- a column before the others of a source

-- the fits in a source from a column on, and then others
abbrev pub fits_then : Ref → ℕ → List ℕ → ℕ → List ColumnDecl → List Fit → List Fit
fits_then r n alias column cs rest = option_to_list (if goes_under alias r.source then column_named n column r.column.text cs else None) ++ rest

abbrev pub put_if : Bool → Fit → Option Noted → Option Noted
put_if meant f old = if meant then Some (put_first f old) else old

self_eq : (n m : ℕ) → n ≡ m → nat_eq n m ≡ true
self_eq n m same = elim (split (nat_eq n m)) [
  | inl is ↦ is
  | inr is ↦ absurd (eqb-false n m is same)
]

pub column_turn : (r : Ref) (n : ℕ) (alias : List ℕ) (column : ℕ) (c : ColumnDecl) (cs : List ColumnDecl) (rest : List Fit) → StartsFrom (n + 1) rest
    → noted (fits_then r n alias column (c ∷ cs) rest)
    ≡ put_if (is_meant alias c.name r) (record { source = n; column = column; kind = c.kind }) (noted (fits_then r n alias (column + 1) cs rest))
column_turn r n alias column c cs rest starts =
    by (goes_under alias r.source) (bytes_eq c.name r.column.text) (column_named n (column + 1) r.column.text cs) (λ g e. named_source n (column + 1) r.column.text cs g e)
  where
    here : Fit
    here = record { source = n; column = column; kind = c.kind }

    by : (b e : Bool) (q : Option Fit) → ((g : Fit) → q ≡ Some g → g.source ≡ n)
        → noted (option_to_list (if b then (if e then Some here else q) else None) ++ rest) ≡ put_if (b && e) here (noted (option_to_list (if b then q else None) ++ rest))
    by false e q at = refl
    by true false q at = refl
    by true true None at = put_before here rest starts
    by true true (Some g) at = put_over here g rest (self_eq g.source n (at g refl))
