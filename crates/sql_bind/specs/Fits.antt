-- The columns that a ref fits.
use Rattle.std.specs.Prelude.{ℕ, ◌+◌, Bool, true, List, [], ◌∷◌, ◌++◌, bytes_eq, Option, Some, None, if◌then◌else◌, option_to_list}
use Rattle.sp_model.specs.declared.declaration.ColumnDecl.{ColumnDecl}
use Rattle.sql_grammar.specs.declared.ast.Name.{Name}
use Rattle.sql_grammar.specs.declared.ast.Ref.{Ref}
use Rattle.sql_bind.specs.Sources.{Seen, alias_of}
use Rattle.sql_bind.specs.declared.fitting.Fit.{Fit}
use Rattle.sql_bind.specs.declared.fitting.Fits.{Fits}
use Rattle.sql_bind.specs.declared.fitting.Fits.TheVariants as are

-- a ref without a source may mean each
abbrev pub may_mean : Option Name → Seen → Bool
may_mean None seen = true
may_mean (Some name) seen = bytes_eq (alias_of seen.source) name.text

-- the first column of a name, counted from the n-th on
abbrev pub column_named : ℕ → ℕ → List ℕ → List ColumnDecl → Option Fit
column_named source n name [] = None
column_named source n name (c ∷ cs) =
    if bytes_eq c.name name then Some (record { source = source; column = n; kind = c.kind }) else column_named source (n + 1) name cs

-- the column that a ref fits in the source of a number
abbrev pub fit_in : Ref → ℕ → Seen → Option Fit
fit_in r n seen = if may_mean r.source seen then column_named n 0 r.column.text seen.table.columns else None

abbrev pub fits_from : Ref → ℕ → List Seen → List Fit
fits_from r n [] = []
fits_from r n (s ∷ ss) = option_to_list (fit_in r n s) ++ fits_from r (n + 1) ss

abbrev pub count_fits : List Fit → Fits
count_fits [] = are.None
count_fits (f ∷ []) = are.One f
count_fits (f ∷ g ∷ fs) = are.Several

-- what a ref fits among these sources: none, the column of one, or several
abbrev pub fits_of : List Seen → Ref → Fits
fits_of looked r = count_fits (fits_from r 0 looked)
