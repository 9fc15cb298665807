-- What an index of all sources says of the first of them, so many.
use Rattle.std.proofs.Common.{◌≡◌, ℕ, zero, suc, ◌+◌, ◌<◌, ◌≤◌, List, [], ◌∷◌, ◌++◌, take, refl, sym, ap, ◌∙◌, arith, cond}
use Rattle.std.specs.Prelude.{Bool, true, false, ◌||◌, Option, Some, None, nat_lt, option_to_list, if◌then◌else◌}
use Rattle.std.specs.List.{list_any, position_from}
use Rattle.std.proofs.lemmas.Bool.{lt-ltb, le-ltb}
use Rattle.sql_grammar.specs.declared.ast.Ref.{Ref}
use Rattle.sql_bind.specs.Fits.{fit_in, fits_from, count_fits}
use Rattle.sql_bind.specs.Index.{noted, is_below, fits_below, is_under}
use Rattle.sql_bind.specs.Sources.{Seen}
use Rattle.sql_bind.specs.declared.fitting.Fit.{Fit}
use Rattle.sql_bind.specs.declared.fitting.Fits.{Fits}
use Rattle.sql_bind.specs.declared.fitting.Fits.TheVariants as are
use Rattle.sql_bind.proofs.Noting.{StartsFrom, starts_from, source_of_fit}

-- ---- fits

abbrev one_more : Fit → Fits → Fits
one_more f are.None = are.One f
one_more f (are.One g) = are.Several
one_more f are.Several = are.Several

count_more : (f : Fit) (fs : List Fit) → count_fits (f ∷ fs) ≡ one_more f (count_fits fs)
count_more f [] = refl
count_more f (g ∷ []) = refl
count_more f (g ∷ h ∷ fs) = refl

abbrev first_below : Bool → Bool → Fit → Fits
first_below here next f = if here then (if next then are.Several else are.One f) else are.None

one_more_below : (b e : Bool) (f g : Fit) → first_below true b f ≡ one_more f (first_below b e g)
one_more_below true true f g = refl
one_more_below true false f g = refl
one_more_below false e f g = refl

below_more : (count : ℕ) (f : Fit) (fs : List Fit) → f.source < count → fits_below count (noted (f ∷ fs)) ≡ one_more f (fits_below count (noted fs))
below_more count f fs within = by fs
  where
    here : nat_lt f.source count ≡ true
    here = lt-ltb f.source count within

    by : (gs : List Fit) → fits_below count (noted (f ∷ gs)) ≡ one_more f (fits_below count (noted gs))
    by [] = ap (λ b. first_below b false f) here
    by (g ∷ []) = ap (λ b. first_below b (nat_lt g.source count) f) here ∙ one_more_below (nat_lt g.source count) false f g
    by (g ∷ h ∷ gs) = ap (λ b. first_below b (nat_lt g.source count) f) here ∙ one_more_below (nat_lt g.source count) (nat_lt h.source count) f g

none_below : (n : ℕ) (fs : List Fit) → StartsFrom n fs → fits_below n (noted fs) ≡ are.None
none_below n [] starts = refl
none_below n (f ∷ []) starts = ap (λ b. first_below b false f) (le-ltb f.source n starts)
none_below n (f ∷ g ∷ fs) starts = ap (λ b. first_below b (nat_lt g.source n) f) (le-ltb f.source n starts)

-- the fits of the first sources are those below their count
pub fits_of_first : (r : Ref) (n k : ℕ) (ss : List Seen) → count_fits (fits_from r n (take k ss)) ≡ fits_below (n + k) (noted (fits_from r n ss))
fits_of_first r n zero ss = sym (ap (λ m. fits_below m (noted (fits_from r n ss))) (omega arith) ∙ none_below n (fits_from r n ss) (starts_from r n ss))
fits_of_first r n (suc k) [] = refl
fits_of_first r n (suc k) (s ∷ ss) =
    by (fits_of_first r (n + 1) k ss ∙ ap (λ m. fits_below m (noted (fits_from r (n + 1) ss))) (omega arith)) (fit_in r n s) refl
  where
    by : count_fits (fits_from r (n + 1) (take k ss)) ≡ fits_below (n + suc k) (noted (fits_from r (n + 1) ss))
        → (q : Option Fit) → fit_in r n s ≡ q
        → count_fits (option_to_list q ++ fits_from r (n + 1) (take k ss)) ≡ fits_below (n + suc k) (noted (option_to_list q ++ fits_from r (n + 1) ss))
    by later None e = later
    by later (Some f) e =
        let is : f.source ≡ n = source_of_fit r n s f e in
        count_more f (fits_from r (n + 1) (take k ss)) ∙ ap (one_more f) later ∙ sym (below_more (n + suc k) f (fits_from r (n + 1) ss) (omega arith))

-- ---- aliases

not_before : (alias : List ℕ) (count n : ℕ) (ss : List Seen) → count ≤ n → is_below count (position_from (is_under alias) n ss) ≡ false
not_before alias count n [] least = refl
not_before alias count n (s ∷ ss) least = by (not_before alias count (n + 1) ss (omega arith)) (is_under alias s)
  where
    by : is_below count (position_from (is_under alias) (n + 1) ss) ≡ false → (b : Bool) → is_below count (cond b (Some n) (position_from (is_under alias) (n + 1) ss)) ≡ false
    by later true = le-ltb n count least
    by later false = later

-- an alias is among the first sources where its first source is below their count
pub alias_of_first : (alias : List ℕ) (n k : ℕ) (ss : List Seen) → list_any (is_under alias) (take k ss) ≡ is_below (n + k) (position_from (is_under alias) n ss)
alias_of_first alias n zero ss = sym (ap (λ m. is_below m (position_from (is_under alias) n ss)) (omega arith) ∙ not_before alias n n ss (omega arith))
alias_of_first alias n (suc k) [] = refl
alias_of_first alias n (suc k) (s ∷ ss) =
    by (alias_of_first alias (n + 1) k ss ∙ ap (λ m. is_below m (position_from (is_under alias) (n + 1) ss)) (omega arith)) (is_under alias s)
  where
    by : list_any (is_under alias) (take k ss) ≡ is_below (n + suc k) (position_from (is_under alias) (n + 1) ss)
        → (b : Bool) → (b || list_any (is_under alias) (take k ss)) ≡ is_below (n + suc k) (cond b (Some n) (position_from (is_under alias) (n + 1) ss))
    by later true = sym (lt-ltb n (n + suc k) (omega arith))
    by later false = later
