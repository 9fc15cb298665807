-- The results of dependencies in the order of their names.
use Rattle.std.proofs.Common.{◌≡◌, ◌<◌, ℕ, zero, suc, Bool, true, ◌&&◌, List, [], ◌∷◌, length, get_or, drop, map, Option, Some, None, Ordering, Less, Equal, Greater, refl, sym, ap, ◌∙◌}
use Rattle.std.specs.Prelude.{slice_get}
use Rattle.std.specs.Cmp.Lexicographic.{slice_cmp}
use Rattle.std.specs.List.{list_all, zip}
use Rattle.std.specs.Ordering.{nat_cmp, match_ordering}
use Rattle.std.proofs.Math.Seq.{drop-cons}
use Rattle.std.proofs.lemmas.List.{length-map}
use Rattle.sp_value.proofs.PutLaws.{rise_put}
use Rattle.sp_value.specs.Names.{rise, names_of, put_under}
use Rattle.sp_value.specs.declared.cell.Cell.{Cell}
use Rattle.sp_value.specs.declared.cell.Cell.TheVariants.{Null}
use Rattle.sp_model.specs.Hydration.{gave, depends_of, with_result, results_of}
use Rattle.sp_model.specs.declared.declaration.FunctionDecl.{FunctionDecl}
use Rattle.sp_model.specs.declared.outcome.Outcome.{Outcome}
use Rattle.sp_model.specs.declared.outcome.Outcome.TheVariants.{Gave, Fails}
use Rattle.sp_model.specs.declared.outcome.Results.TheVariants.{Given}
use Rattle.hydrate_graph.specs.Graphs.{known_in}
use Rattle.hydrate_graph.specs.Numbers.{number_of, numbers_of, depends_at}
use Rattle.hydrate_graph.specs.Ordered.{put_name, ordered, depends_in, all_depends, result_of}
use Rattle.hydrate_graph.specs.declared.depends.Depends.{Depends}
use Rattle.hydrate_graph.proofs.Hydrating.{and_left, and_right}

abbrev Pairs : Type 0
Pairs = List (List ℕ × Cell)

abbrev names_at : Ordering → List ℕ → List ℕ → List (List ℕ) → List (List ℕ)
names_at o name m ms = match_ordering o (name ∷ m ∷ ms) (name ∷ ms) (m ∷ put_name name ms)

abbrev pairs_at : Ordering → List ℕ → Cell → (List ℕ × Cell) → Pairs → Pairs
pairs_at o name x m ms = match_ordering o ((name, x) ∷ m ∷ ms) ((name, x) ∷ ms) (m ∷ put_under name x ms)

-- ---- names

names_of_at : (o : Ordering) (name : List ℕ) (x : Cell) (m : List ℕ × Cell) (ms : Pairs) → names_of (put_under name x ms) ≡ put_name name (names_of ms) → names_of (pairs_at o name x m ms) ≡ names_at o name m.0 (names_of ms)
names_of_at Less name x m ms later = refl
names_of_at Equal name x m ms later = refl
names_of_at Greater name x m ms later = ap (λ ns. m.0 ∷ ns) later

-- the names of what is put under a name
names_put : (name : List ℕ) (x : Cell) (ms : Pairs) → names_of (put_under name x ms) ≡ put_name name (names_of ms)
names_put name x [] = refl
names_put name x (m ∷ ms) = names_of_at (slice_cmp nat_cmp name m.0) name x m ms (names_put name x ms)

-- one name more, from the last on
pub ordered_more : (names : List (List ℕ)) (m n place : ℕ) (name : List ℕ) (x : Cell) (ms new : Pairs) → names_of ms ≡ ordered (drop m names) → new ≡ put_under name x ms → place < length names → n ≡ place → m ≡ suc place → name ≡ get_or names place name
    → names_of new ≡ ordered (drop n names)
ordered_more names m n place name x ms new before put l n_is m_is is =
    ap names_of put
    ∙ names_put name x ms
    ∙ ap (put_name name) (before ∙ ap (λ k. ordered (drop k names)) m_is)
    ∙ ap (λ d. put_name d (ordered (drop (suc place) names))) is
    ∙ ap ordered (sym (drop-cons names place name l))
    ∙ ap (λ k. ordered (drop k names)) (sym n_is)

all_at_put : (p : List ℕ → Bool) (o : Ordering) (name m : List ℕ) (ms : List (List ℕ)) → p name ≡ true → p m ≡ true → list_all p ms ≡ true → list_all p (put_name name ms) ≡ true → list_all p (names_at o name m ms) ≡ true
all_at_put p Less name m ms here first rest later = rw (here, first) rest
all_at_put p Equal name m ms here first rest later = rw here rest
all_at_put p Greater name m ms here first rest later = rw first later

all_put : (p : List ℕ → Bool) (name : List ℕ) (ms : List (List ℕ)) → p name ≡ true → list_all p ms ≡ true → list_all p (put_name name ms) ≡ true
all_put p name [] here all = rw here refl
all_put p name (m ∷ ms) here all =
    let rest : list_all p ms ≡ true = and_right (p m) (list_all p ms) all in
    all_at_put p (slice_cmp nat_cmp name m) name m ms here (and_left (p m) (list_all p ms) all) rest (all_put p name ms here rest)

-- what holds of all of them holds of them in order
pub all_ordered : (p : List ℕ → Bool) (names : List (List ℕ)) → list_all p names ≡ true → list_all p (ordered names) ≡ true
all_ordered p [] all = refl
all_ordered p (name ∷ names) all = all_put p name (ordered names) (and_left (p name) (list_all p names) all) (all_ordered p names (and_right (p name) (list_all p names) all))

-- ---- values under names

-- each name with its value
abbrev pub under : (List ℕ → Cell) → List (List ℕ) → Pairs
under v names = map (λ name. (name, v name)) names

under_at : (v : List ℕ → Cell) (o : Ordering) (name m : List ℕ) (ms : List (List ℕ)) → put_under name (v name) (under v ms) ≡ under v (put_name name ms) → pairs_at o name (v name) (m, v m) (under v ms) ≡ under v (names_at o name m ms)
under_at v Less name m ms later = refl
under_at v Equal name m ms later = refl
under_at v Greater name m ms later = ap (λ ps. (m, v m) ∷ ps) later

under_put : (v : List ℕ → Cell) (name : List ℕ) (ms : List (List ℕ)) → put_under name (v name) (under v ms) ≡ under v (put_name name ms)
under_put v name [] = refl
under_put v name (m ∷ ms) = under_at v (slice_cmp nat_cmp name m) name m ms (under_put v name ms)

names_under : (v : List ℕ → Cell) (names : List (List ℕ)) → names_of (under v names) ≡ names
names_under v [] = refl
names_under v (name ∷ names) = ap (λ ns. name ∷ ns) (names_under v names)

-- names in order rise
pub ordered_rises : (names : List (List ℕ)) → rise (ordered names) ≡ true
ordered_rises [] = refl
ordered_rises (name ∷ names) =
    let nulls : Pairs = under (λ n. Null) (ordered names) in
    let same : names_of nulls ≡ ordered names = names_under (λ n. Null) (ordered names) in
    ap rise (sym (names_put name Null nulls ∙ ap (put_name name) same)) ∙ rise_put name Null nulls (ap rise same ∙ ordered_rises names)

module _ (known : List ℕ → Option Outcome) where
  abbrev pub given : List ℕ → Cell
  given name = result_of (known name)

  given_step : (d : List ℕ) (o : Option Outcome) (ds : List (List ℕ)) (all : Bool) → known d ≡ o → (gave o && all) ≡ true → (all ≡ true → results_of known ds ≡ Given (under given (ordered ds)))
      → with_result d o (results_of known ds) ≡ Given (under given (put_name d (ordered ds)))
  given_step d None ds all is e later = absurd (cc)
  given_step d (Some (Fails cause)) ds all is e later = absurd (cc)
  given_step d (Some (Gave x)) ds all is e later =
      ap (λ r. with_result d (Some (Gave x)) r) (later e)
      ∙ ap (λ y. Given (put_under d y (under given (ordered ds)))) (sym (ap result_of is))
      ∙ ap (λ ps. Given ps) (under_put given d (ordered ds))

  -- where each gave a result, these stand under the names in order
  pub results_ordered : (ds : List (List ℕ)) → list_all (λ d. gave (known d)) ds ≡ true → results_of known ds ≡ Given (under given (ordered ds))
  results_ordered [] all = refl
  results_ordered (d ∷ ds) all = given_step d (known d) ds (list_all (λ d. gave (known d)) ds) refl all (results_ordered ds)

-- ---- by numbers

all_map : {X Y : Type 0} (q : Y → Bool) (g : X → Y) (xs : List X) → list_all q (map g xs) ≡ list_all (λ x. q (g x)) xs
all_map q g [] = refl
all_map q g (x ∷ xs) = ap (λ b. q (g x) && b) (all_map q g xs)

zip_under : (fs : List FunctionDecl) (settled : List (Option Outcome)) (names : List (List ℕ)) → zip names (map (λ k. result_of (get_or settled k None)) (numbers_of fs names)) ≡ under (given (known_in fs settled)) names
zip_under fs settled [] = refl
zip_under fs settled (name ∷ names) = ap (λ ps. (name, given (known_in fs settled) name) ∷ ps) (zip_under fs settled names)

depends_found : (fs xs : List FunctionDecl) (k : ℕ) (d : Depends) → Some d ≡ slice_get (map (λ f. depends_in fs f.depends) xs) k → d ≡ depends_in fs (depends_of (slice_get xs k))
depends_found fs [] k d h = absurd (cc)
depends_found fs (x ∷ xs) zero d h = cc
depends_found fs (x ∷ xs) (suc k) d h = depends_found fs xs k d h

depends_none : (fs xs : List FunctionDecl) (k : ℕ) → None ≡ slice_get (map (λ f. depends_in fs f.depends) xs) k → depends_of (slice_get xs k) ≡ []
depends_none fs [] k h = refl
depends_none fs (x ∷ xs) zero h = absurd (cc)
depends_none fs (x ∷ xs) (suc k) h = depends_none fs xs k h

module _ (fs : List FunctionDecl) (depends : List Depends) (k : ℕ) (are : depends ≡ all_depends fs) where
  pub depends_here : (d : Depends) → Some d ≡ slice_get depends k → d ≡ depends_in fs (depends_at fs k)
  depends_here d h = depends_found fs fs k d (h ∙ ap (λ ds. slice_get ds k) are)

  pub no_depends : None ≡ slice_get depends k → depends_at fs k ≡ []
  no_depends h = depends_none fs fs k (h ∙ ap (λ ds. slice_get ds k) are)

module _ (fs : List FunctionDecl) (settled : List (Option Outcome)) (names : List (List ℕ)) (d : Depends) (is : d ≡ depends_in fs names) (gives : list_all (λ n. gave (known_in fs settled n)) names ≡ true) where
  -- each of these numbers gave
  pub numbers_gave : list_all (λ k. gave (get_or settled k None)) d.numbers ≡ true
  numbers_gave =
      ap (λ e. list_all (λ k. gave (get_or settled k None)) e.numbers) is
      ∙ all_map (λ k. gave (get_or settled k None)) (number_of fs) (ordered names)
      ∙ all_ordered (λ n. gave (known_in fs settled n)) names gives

  -- and the names with their results are those of the dependencies
  pub results_zipped : (ns : List (List ℕ)) (vs : List Cell) → ns ≡ d.names → vs ≡ map (λ k. result_of (get_or settled k None)) d.numbers → results_of (known_in fs settled) names ≡ Given (zip ns vs)
  results_zipped ns vs ns_are vs_are =
      results_ordered (known_in fs settled) names gives
      ∙ ap (λ ps. Given ps) (sym (zip_under fs settled (ordered names)))
      ∙ ap (λ e. Given (zip e.names (map (λ k. result_of (get_or settled k None)) e.numbers))) (sym is)
      ∙ ap (λ ms. Given (zip ms (map (λ k. result_of (get_or settled k None)) d.numbers))) (sym ns_are)
      ∙ ap (λ ws. Given (zip ns ws)) (sym vs_are)

  pub as_many : (ns : List (List ℕ)) (vs : List Cell) → ns ≡ d.names → vs ≡ map (λ k. result_of (get_or settled k None)) d.numbers → length vs ≡ length ns
  as_many ns vs ns_are vs_are =
      ap length vs_are
      ∙ length-map d.numbers (λ k. result_of (get_or settled k None))
      ∙ ap (λ e. length e.numbers) is
      ∙ length-map (ordered names) (number_of fs)
      ∙ ap (λ e. length e.names) (sym is)
      ∙ ap length (sym ns_are)

  pub names_rise : (ns : List (List ℕ)) → ns ≡ d.names → rise ns ≡ true
  names_rise ns ns_are = ap rise (ns_are ∙ ap (λ e. e.names) is) ∙ ordered_rises names
