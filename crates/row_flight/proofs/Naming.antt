-- Functions of different names by their numbers, and the functions that those of the columns need.
use Rattle.std.proofs.Common.{◌≡◌, ◌≤◌, ◌<◌, ℕ, zero, suc, Bool, true, false, ◌||◌, not, List, [], ◌∷◌, length, get_or, map, Option, Some, None, if◌then◌else◌, bytes_eq, refl, sym, ap, subst, ◌∙◌, arith}
use Rattle.std.specs.Prelude.{slice_get}
use Rattle.std.specs.List.{list_any, list_all}
use Rattle.std.proofs.lemmas.Bool.{or_parts, not-true}
use Rattle.std.proofs.lemmas.Slice.Eq.{bytes_eq-Decides}
use Rattle.sp_model.specs.Calls.{needs_in, needs_source, is_wanted}
use Rattle.sp_model.specs.Hydration.{depends_of, find_function, names_of_functions}
use Rattle.sp_model.specs.Names.{are_distinct}
use Rattle.sp_model.specs.Rests.{rests_by, rests_in, rests_some, column_rests}
use Rattle.sp_model.specs.RowOf.{has_name}
use Rattle.sp_model.specs.declared.declaration.ColumnDecl.{ColumnDecl}
use Rattle.sp_model.specs.declared.declaration.FunctionDecl.{FunctionDecl}
use Rattle.hydrate_graph.proofs.Hydrating.{and_left, and_right}
use Rattle.hydrate_graph.specs.Numbers.{number_of}
use Rattle.scan_laws.proofs.Hydrating.{bytes_itself}

-- ---- numbers

pub at_some : {X : Type 0} (xs : List X) (k : ℕ) → k < length xs → (x : X) × (slice_get xs k ≡ Some x)
at_some [] k l = absurd (omega (arith, l))
at_some (x ∷ xs) zero l = (x, refl)
at_some (x ∷ xs) (suc k) l = at_some xs k (omega (arith, l))

pub get_at : {X : Type 0} (xs : List X) (k : ℕ) (x d : X) → slice_get xs k ≡ Some x → get_or xs k d ≡ x
get_at [] k x d e = absurd (cc)
get_at (y ∷ ys) zero x d e = cc
get_at (y ∷ ys) (suc k) x d e = get_at ys k x d e

pub get_within : {X : Type 0} (xs : List X) (k : ℕ) (d : X) → k < length xs → slice_get xs k ≡ Some (get_or xs k d)
get_within [] k d l = absurd (omega (arith, l))
get_within (x ∷ xs) zero d l = refl
get_within (x ∷ xs) (suc k) d l = get_within xs k d (omega (arith, l))

pub get_mapped : {X Y : Type 0} (h : X → Y) (xs : List X) (k : ℕ) (x : X) (d : Y) → slice_get xs k ≡ Some x → get_or (map h xs) k d ≡ h x
get_mapped h [] k x d e = absurd (cc)
get_mapped h (y ∷ ys) zero x d e = let s : y ≡ x = cc in ap h s
get_mapped h (y ∷ ys) (suc k) x d e = get_mapped h ys k x d e

has_at : (fs : List FunctionDecl) (f : FunctionDecl) (k : ℕ) (name : List ℕ) → slice_get fs k ≡ Some f → has_name (names_of_functions fs) name ≡ false → bytes_eq name f.name ≡ false
has_at [] f k name at none = absurd (cc)
has_at (g ∷ gs) f zero name at none = let s : g ≡ f = cc in ap (λ z. bytes_eq name z.name) (sym s) ∙ (or_parts (bytes_eq name g.name) (has_name (names_of_functions gs) name) none).0
has_at (g ∷ gs) f (suc k) name at none = has_at gs f k name at (or_parts (bytes_eq name g.name) (has_name (names_of_functions gs) name) none).1

-- where functions have different names, each has the number of its place
pub number_at : (fs : List FunctionDecl) (f : FunctionDecl) (k : ℕ) → are_distinct (names_of_functions fs) ≡ true → slice_get fs k ≡ Some f → number_of fs f.name ≡ k
number_at [] f k apart at = absurd (cc)
number_at (g ∷ gs) f zero apart at =
    let s : g ≡ f = cc in
    ap (λ b. if b then 0 else suc (number_of gs f.name)) (ap (λ z. bytes_eq z.name f.name) s ∙ bytes_itself f.name)
number_at (g ∷ gs) f (suc k) apart at =
    let none : has_name (names_of_functions gs) g.name ≡ false = not-true (has_name (names_of_functions gs) g.name) (and_left (not (has_name (names_of_functions gs) g.name)) (are_distinct (names_of_functions gs)) apart) in
    ap (λ b. if b then 0 else suc (number_of gs f.name)) (has_at gs f k g.name at none)
    ∙ ap (λ n. suc n) (number_at gs f k (and_right (not (has_name (names_of_functions gs) g.name)) (are_distinct (names_of_functions gs)) apart) at)

-- ---- needs

rests_found : (r : List ℕ → Bool) (o : Option FunctionDecl) → rests_by r o ≡ true → list_all r (depends_of o) ≡ true
rests_found r None e = absurd (cc)
rests_found r (Some f) e = e

or_by : (goal : Type 0) (a b : Bool) → (a ≡ true → goal) → (b ≡ true → goal) → (a || b) ≡ true → goal
or_by goal true b left right e = left refl
or_by goal false b left right e = right e

some_of : {X : Type 0} (goal : Type 0) (p q : X → Bool) → ((x : X) → p x ≡ true → q x ≡ true → goal) → (xs : List X) → list_any p xs ≡ true → list_all q xs ≡ true → goal
some_of goal p q more [] some all = absurd (cc)
some_of goal p q more (x ∷ xs) some all =
    or_by goal (p x) (list_any p xs) (λ e. more x e (and_left (q x) (list_all q xs) all)) (λ e. some_of goal p q more xs e (and_right (q x) (list_all q xs) all)) some

abbrev pub Resting : ℕ → List FunctionDecl → List ℕ → Type 0
Resting n fs g = (m : ℕ) × (suc m ≤ n) × (list_all (λ d. rests_in m fs d) (depends_of (find_function g fs)) ≡ true)

needs_rest : (n : ℕ) (fs : List FunctionDecl) (g name : List ℕ) → needs_in n fs g name ≡ true → rests_in n fs name ≡ true → Resting n fs g
needs_rest zero fs g name needs rest = absurd (cc)
needs_rest (suc n) fs g name needs rest =
    or_by (Resting (suc n) fs g) (bytes_eq name g) (list_any (λ d. needs_in n fs g d) (depends_of (find_function name fs)))
    (λ e.
    let same : name ≡ g = (bytes_eq-Decides name g).0 e in
    (n, omega arith, rests_found (λ d. rests_in n fs d) (find_function g fs) (subst (λ z. rests_by (λ d. rests_in n fs d) (find_function z fs) ≡ true) same rest)))
    (λ e. some_of (Resting (suc n) fs g) (λ d. needs_in n fs g d) (λ d. rests_in n fs d)
    (λ d needed rests. let r = needs_rest n fs g d needed rests in let l = r.1 in (r.0, omega (arith, l), r.2))
    (depends_of (find_function name fs)) e (rests_found (λ d. rests_in n fs d) (find_function name fs) rest))
    needs

source_rest : (fs : List FunctionDecl) (g : List ℕ) (source : Option (List ℕ)) → needs_source fs g source ≡ true → rests_some fs source ≡ true → Resting (length fs) fs g
source_rest fs g None needs rest = absurd (cc)
source_rest fs g (Some name) needs rest = needs_rest (length fs) fs g name needs rest

-- what a function needs rests, where a column needs the function and the columns' functions rest
pub wanted_rest : (fs : List FunctionDecl) (columns : List ColumnDecl) (g : List ℕ) → is_wanted fs columns g ≡ true → list_all (column_rests fs) columns ≡ true → Resting (length fs) fs g
wanted_rest fs columns g wanted rest =
    some_of (Resting (length fs) fs g) (λ column. needs_source fs g column.function) (column_rests fs) (λ column needs rests. source_rest fs g column.function needs rests) columns wanted rest
