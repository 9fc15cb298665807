-- What remains of functions where those are taken out whose dependencies are all taken out.
use Rattle.std.proofs.Common.{◌≡◌, ℕ, zero, suc, ◌+◌, ◌<◌, ◌≤◌, ◌⊎◌, inl, inr, Bool, true, false, cond, not, ◌||◌, ◌&&◌, List, [], ◌∷◌, ◌++◌, length, filter, bytes_eq, slice_get, Option, Some, None, refl, sym, ap, subst, ◌∙◌, arith, true≢false}
use Rattle.std.specs.List.{list_any, list_all}
use Rattle.std.specs.Option.{option_map_or}
use Rattle.std.proofs.Math.Bool.{or-true}
use Rattle.std.proofs.lemmas.Bool.{or_parts}
use Rattle.std.proofs.lemmas.Slice.Eq.{bytes_eq-Decides}
use Rattle.sp_model.specs.declared.declaration.FunctionDecl.{FunctionDecl}
use Rattle.sp_model.specs.Hydration.{names_of_functions}
use Rattle.decl_words.specs.Leftover.{waits_for, still_waiting, after_rounds, leftover}
use Rattle.sp_model.specs.Names.{has_name}
use Rattle.decl_words.specs.Refusals.{repeats, depends_on_unknown}
use Rattle.decl_core.specs.Taking.{is_left, can_be_taken, with_taken, after_turns, takes_one, at_places}
use Rattle.decl_words.proofs.Lists.{In, In-filter, filter-In, filter-shorter, filter-filter, filter-all, some_fails, none_passes, In-all, slice_get-In}
use Rattle.decl_words.proofs.Functions.{named, has_name-In, dependency-known}
use Rattle.decl_words.proofs.Names.{has_name-push}
use Rattle.name_set.proofs.Insertions.{has_name-added}

-- no name of those after stands before
fresh : (before : List (List ℕ)) (functions : List FunctionDecl) → repeats before (names_of_functions functions) ≡ false → (g : FunctionDecl) → In g functions → has_name before g.name ≡ false
fresh before [] none g h = absurd h
fresh before (f ∷ fs) none g (inl h) = ap (λ x. has_name before x.name) h ∙ (or_parts _ _ none).0
fresh before (f ∷ fs) none g (inr h) =
    (or_parts _ _ (sym (has_name-push before f.name g.name) ∙ fresh (before ++ f.name ∷ []) fs (or_parts _ _ none).1 g h)).0

later : (before : List (List ℕ)) (h : FunctionDecl) (hs : List FunctionDecl) → repeats before (names_of_functions (h ∷ hs)) ≡ false
    → (g : FunctionDecl) → In g hs → g.name ≡ h.name → ⊥
later before h hs none g there same =
    let new : (has_name before g.name || bytes_eq g.name h.name) ≡ false =
    sym (has_name-push before h.name g.name) ∙ fresh (before ++ h.name ∷ []) hs (or_parts _ _ none).1 g there in
    true≢false (sym ((bytes_eq-Decides g.name h.name).1 same) ∙ (or_parts _ _ new).1)

-- two functions of one name are one
pub unique : (before : List (List ℕ)) (functions : List FunctionDecl) → repeats before (names_of_functions functions) ≡ false
    → (f g : FunctionDecl) → In f functions → In g functions → f.name ≡ g.name → f ≡ g
unique before [] none f g at_f at_g same = absurd at_f
unique before (h ∷ hs) none f g (inl at_f) (inl at_g) same = at_f ∙ sym at_g
unique before (h ∷ hs) none f g (inl at_f) (inr at_g) same = absurd (later before h hs none g at_g (sym same ∙ ap (λ x. x.name) at_f))
unique before (h ∷ hs) none f g (inr at_f) (inl at_g) same = absurd (later before h hs none f at_f (same ∙ ap (λ x. x.name) at_g))
unique before (h ∷ hs) none f g (inr at_f) (inr at_g) same = unique (before ++ h.name ∷ []) hs (or_parts _ _ none).1 f g at_f at_g same

-- ---- rounds

rounds-fixed : (n : ℕ) (functions : List FunctionDecl) → still_waiting functions ≡ functions → after_rounds n functions ≡ functions
rounds-fixed zero functions e = refl
rounds-fixed (suc n) functions e = ap (after_rounds n) e ∙ rounds-fixed n functions e

-- after as many rounds as there are functions a round more changes nothing
rounds-settle : (n : ℕ) (functions : List FunctionDecl) → length functions ≤ n → still_waiting (after_rounds n functions) ≡ after_rounds n functions
rounds-settle zero [] h = refl
rounds-settle zero (f ∷ fs) h = absurd (omega (arith, h))
rounds-settle (suc n) functions h = by (rounds-settle n (still_waiting functions)) (filter-shorter (waits_for functions) functions)
  where
    by : (length (still_waiting functions) ≤ n → still_waiting (after_rounds n (still_waiting functions)) ≡ after_rounds n (still_waiting functions)) → (still_waiting functions ≡ functions) ⊎ (length (still_waiting functions) < length functions) → still_waiting (after_rounds (suc n) functions) ≡ after_rounds (suc n) functions
    by rest (inl e) = let same = rounds-fixed (suc n) functions e in ap still_waiting same ∙ e ∙ sym same
    by rest (inr less) = rest (omega (arith, less, h))

pub leftover-settled : (functions : List FunctionDecl) → still_waiting (leftover functions) ≡ leftover functions
leftover-settled functions = rounds-settle (length functions) functions (omega arith)

rounds-In : (n : ℕ) (functions : List FunctionDecl) (g : FunctionDecl) → In g (after_rounds n functions) → In g functions
rounds-In zero functions g h = h
rounds-In (suc n) functions g h = (In-filter (waits_for functions) functions g (rounds-In n (still_waiting functions) g h)).0

pub leftover-In : (functions : List FunctionDecl) (g : FunctionDecl) → In g (leftover functions) → In g functions
leftover-In functions g h = rounds-In (length functions) functions g h

-- ---- what is taken out

-- none of these names is one that remains
pub record AreOut (functions : List FunctionDecl) (taken : List (List ℕ)) : Type 0 where
  pub out : (name : List ℕ) → has_name taken name ≡ true → has_name (names_of_functions (leftover functions)) name ≡ false

pub none_out : (functions : List FunctionDecl) → AreOut functions []
none_out functions = record { out = λ name h. absurd (true≢false (sym h)) }

-- a function whose dependencies are all out doesn't remain
ready-out : (functions : List FunctionDecl) (taken : List (List ℕ)) → repeats [] (names_of_functions functions) ≡ false → AreOut functions taken
    → (f : FunctionDecl) → In f functions → list_all (has_name taken) f.depends ≡ true → has_name (names_of_functions (leftover functions)) f.name ≡ false
ready-out functions taken distinct out f there ready = by (has_name (names_of_functions (leftover functions)) f.name) refl
  where
    left : List FunctionDecl
    left = leftover functions

    by : (b : Bool) → has_name (names_of_functions (leftover functions)) f.name ≡ b → b ≡ false
    by false e = refl
    by true e =
        let found = named (leftover functions) f.name e in
        let same = unique [] functions distinct found.0 f (leftover-In functions found.0 found.1.0) there found.1.1 in
        let waits = (In-filter (waits_for (leftover functions)) (leftover functions) found.0 (subst (In found.0) (sym (leftover-settled functions)) found.1.0)).1 in
        sym waits ∙ ap (waits_for (leftover functions)) same ∙ none_passes (has_name taken) (has_name (names_of_functions (leftover functions))) f.depends ready out.out

-- one more is out
pub out_more : (functions : List FunctionDecl) (taken new : List (List ℕ)) (added : Bool) → repeats [] (names_of_functions functions) ≡ false → AreOut functions taken
    → (f : FunctionDecl) → In f functions → list_all (has_name taken) f.depends ≡ true
    → added ≡ not (has_name taken f.name) → new ≡ cond added (taken ++ f.name ∷ []) taken → AreOut functions new
out_more functions taken new added distinct out f there ready was is =
    record { out = λ name h. by name (has_name taken name) refl (sym (has_name-added taken f.name new added was is name) ∙ h) }
  where
    by : (name : List ℕ) (b : Bool) → has_name taken name ≡ b → (b || bytes_eq name f.name) ≡ true → has_name (names_of_functions (leftover functions)) name ≡ false
    by name true e h = out.out name e
    by name false e h = ap (has_name (names_of_functions (leftover functions))) ((bytes_eq-Decides name f.name).0 h) ∙ ready-out functions taken distinct out f there ready

-- a function that is taken out, or waits for one that isn't
abbrev pub is_settled : List (List ℕ) → FunctionDecl → Bool
is_settled taken f = not (can_be_taken taken f)

waits-for-one : (taken : List (List ℕ)) (g : FunctionDecl) → is_settled taken g ≡ true → is_left taken g ≡ true → list_all (has_name taken) g.depends ≡ false
waits-for-one taken g settled s = by (is_left taken g) (list_all (has_name taken) g.depends) settled s
  where
    by : (a b : Bool) → not (a && b) ≡ true → a ≡ true → b ≡ false
    by true true h s = sym h
    by true false h s = refl
    by false b h s = absurd (true≢false (sym s))

-- where no function can be taken out any more, those that stay are those that remain
module _ (functions : List FunctionDecl) (taken : List (List ℕ)) (out : AreOut functions taken) (all : list_all (is_settled taken) functions ≡ true)
    (known : list_any (depends_on_unknown (names_of_functions functions)) functions ≡ false) where
  keeps : (fs : List FunctionDecl) → filter (is_left taken) fs ≡ filter (is_left taken) functions → filter (is_left taken) (still_waiting fs) ≡ filter (is_left taken) functions
  keeps fs same =
      filter-filter (is_left taken) (waits_for fs) fs (λ g there s.
      let of_all : In g functions = (In-filter (is_left taken) functions g (subst (In g) same (filter-In (is_left taken) fs g there s))).0 in
      some_fails (has_name taken) (has_name (names_of_functions fs)) g.depends (waits-for-one taken g (In-all (is_settled taken) functions g all of_all) s) (λ d at not_taken.
      let found = named functions d (dependency-known functions known g of_all d at) in
      let s' : is_left taken found.0 ≡ true = ap not (ap (has_name taken) found.1.1 ∙ not_taken) in
      let here : In found.0 fs = (In-filter (is_left taken) fs found.0 (subst (In found.0) (sym same) (filter-In (is_left taken) functions found.0 found.1.0 s'))).0 in
      ap (has_name (names_of_functions fs)) (sym found.1.1) ∙ has_name-In fs found.0 here))
      ∙ same

  rounds-keep : (n : ℕ) (fs : List FunctionDecl) → filter (is_left taken) fs ≡ filter (is_left taken) functions → filter (is_left taken) (after_rounds n fs) ≡ filter (is_left taken) functions
  rounds-keep zero fs same = same
  rounds-keep (suc n) fs same = rounds-keep n (still_waiting fs) (keeps fs same)

  all_stay : (g : FunctionDecl) → In g (leftover functions) → is_left taken g ≡ true
  all_stay g h = by (has_name taken g.name) refl
    where
      by : (b : Bool) → has_name taken g.name ≡ b → not b ≡ true
      by true e = absurd (true≢false (sym (has_name-In (leftover functions) g h) ∙ out.out g.name e))
      by false e = refl

  pub leftover-is : leftover functions ≡ filter (is_left taken) functions
  leftover-is = sym (filter-all (is_left taken) (leftover functions) all_stay) ∙ rounds-keep (length functions) functions refl

-- ---- turns

-- each of these is one of those
abbrev pub Within : List FunctionDecl → List FunctionDecl → Type 0
Within fs functions = (g : FunctionDecl) → In g fs → In g functions

is_left-parts : (a b : Bool) → (a && b) ≡ true → (a ≡ true) × (b ≡ true)
is_left-parts true b h = (refl, h)
is_left-parts false b h = absurd (true≢false (sym h))

with-out : (functions : List FunctionDecl) (taken : List (List ℕ)) → repeats [] (names_of_functions functions) ≡ false → AreOut functions taken
    → (f : FunctionDecl) → In f functions → AreOut functions (with_taken taken f)
with-out functions taken distinct out f there = by (can_be_taken taken f) refl
  where
    by : (b : Bool) → can_be_taken taken f ≡ b → AreOut functions (cond b (taken ++ f.name ∷ []) taken)
    by true e =
        let parts = is_left-parts (is_left taken f) (list_all (has_name taken) f.depends) e in
        out_more functions taken (taken ++ f.name ∷ []) true distinct out f there parts.1 (sym parts.0) refl
    by false e = out

pub turns-out : (functions : List FunctionDecl) → repeats [] (names_of_functions functions) ≡ false
    → (fs : List FunctionDecl) (taken : List (List ℕ)) → Within fs functions → AreOut functions taken → AreOut functions (after_turns taken fs)
turns-out functions distinct [] taken within out = out
turns-out functions distinct (f ∷ fs) taken within out =
    turns-out functions distinct fs (with_taken taken f) (λ g h. within g (inr h)) (with-out functions taken distinct out f (within f (inl refl)))

pub at_places-Within : (functions : List FunctionDecl) (places : List ℕ) → Within (at_places functions places) functions
at_places-Within functions [] g h = absurd h
at_places-Within functions (place ∷ places) g h = by (slice_get functions place) (λ f. slice_get-In functions place f) (at_places-Within functions places g) h
  where
    by : (o : Option FunctionDecl) → ((f : FunctionDecl) → o ≡ Some f → In f functions) → (In g (at_places functions places) → In g functions)
        → In g (option_map_or (λ f. f ∷ at_places functions places) o (at_places functions places)) → In g functions
    by None at rest h = rest h
    by (Some f) at rest (inl h) = subst (λ x. In x functions) (sym h) (at f refl)
    by (Some f) at rest (inr h) = rest h

-- where none is taken out at its turn, all are settled
pub none-taken : (fs : List FunctionDecl) (taken : List (List ℕ)) → takes_one taken fs ≡ false → (after_turns taken fs ≡ taken) × (list_all (is_settled taken) fs ≡ true)
none-taken [] taken none = (refl, refl)
none-taken (f ∷ fs) taken none =
    let parts = or_parts (can_be_taken taken f) (takes_one (with_taken taken f) fs) none in
    let same : with_taken taken f ≡ taken = ap (λ b. cond b (taken ++ f.name ∷ []) taken) parts.0 in
    let rest = none-taken fs taken (sym (ap (λ t. takes_one t fs) same) ∙ parts.1) in
    (ap (λ t. after_turns t fs) same ∙ rest.0, ap (λ b. not b && list_all (is_settled taken) fs) parts.0 ∙ rest.1)

-- the turns of functions at places, one by one
pub turns-at : (functions : List FunctionDecl) (place : ℕ) (places : List ℕ) (taken : List (List ℕ))
    → after_turns taken (at_places functions (place ∷ places)) ≡ after_turns (option_map_or (with_taken taken) (slice_get functions place) taken) (at_places functions places)
turns-at functions place places taken = by (slice_get functions place)
  where
    by : (o : Option FunctionDecl) → after_turns taken (option_map_or (λ f. f ∷ at_places functions places) o (at_places functions places)) ≡ after_turns (option_map_or (with_taken taken) o taken) (at_places functions places)
    by None = refl
    by (Some f) = refl

-- ---- how many aren't taken out

abbrev pub count : {X : Type 0} → (X → Bool) → List X → ℕ
count p [] = 0
count p (x ∷ xs) = cond (p x) 1 0 + count p xs

count-le : {X : Type 0} (p q : X → Bool) → ((x : X) → q x ≡ true → p x ≡ true) → (xs : List X) → count q xs ≤ count p xs
count-le p q less [] = omega arith
count-le p q less (x ∷ xs) = by (count-le p q less xs) (q x) (p x) refl refl
  where
    by : count q xs ≤ count p xs → (b c : Bool) → q x ≡ b → p x ≡ c → cond b 1 0 + count q xs ≤ cond c 1 0 + count p xs
    by rest false c e f = omega (arith, rest)
    by rest true true e f = omega (arith, rest)
    by rest true false e f = absurd (true≢false (sym (less x e) ∙ f))

count-lt : {X : Type 0} (p q : X → Bool) → ((x : X) → q x ≡ true → p x ≡ true) → (xs : List X) (y : X) → In y xs → p y ≡ true → q y ≡ false → count q xs < count p xs
count-lt p q less [] y h is isnt = absurd h
count-lt p q less (x ∷ xs) y (inl h) is isnt = by (q x) (p x) (ap q (sym h) ∙ isnt) (ap p (sym h) ∙ is) (count-le p q less xs)
  where
    by : (b c : Bool) → b ≡ false → c ≡ true → count q xs ≤ count p xs → cond b 1 0 + count q xs < cond c 1 0 + count p xs
    by false true e f rest = omega (arith, rest)
    by true c e f rest = absurd (true≢false e)
    by false false e f rest = absurd (true≢false (sym f))
count-lt p q less (x ∷ xs) y (inr h) is isnt = by (count-lt p q less xs y h is isnt) (q x) (p x) refl refl
  where
    by : count q xs < count p xs → (b c : Bool) → q x ≡ b → p x ≡ c → cond b 1 0 + count q xs < cond c 1 0 + count p xs
    by rest false c e f = omega (arith, rest)
    by rest true true e f = omega (arith, rest)
    by rest true false e f = absurd (true≢false (sym (less x e) ∙ f))

abbrev pub staying : List FunctionDecl → List (List ℕ) → ℕ
staying functions taken = count (is_left taken) functions

-- what is_left after one more is taken stayed before
stayed : (taken : List (List ℕ)) (name : List ℕ) (g : FunctionDecl) → is_left (taken ++ name ∷ []) g ≡ true → is_left taken g ≡ true
stayed taken name g h = by (has_name taken g.name) (bytes_eq g.name name) (ap not (sym (has_name-push taken name g.name)) ∙ h)
  where
    by : (a b : Bool) → not (a || b) ≡ true → not a ≡ true
    by true b h = h
    by false b h = refl

-- the one that is taken doesn't stay
gone : (taken : List (List ℕ)) (f : FunctionDecl) → is_left (taken ++ f.name ∷ []) f ≡ false
gone taken f = ap not (has_name-push taken f.name f.name ∙ ap (λ b. has_name taken f.name || b) ((bytes_eq-Decides f.name f.name).1 refl) ∙ or-true (has_name taken f.name))

fewer-with : (functions : List FunctionDecl) (taken : List (List ℕ)) (f : FunctionDecl) → In f functions → (b : Bool) → can_be_taken taken f ≡ b
    → staying functions (cond b (taken ++ f.name ∷ []) taken) + cond b 1 0 ≤ staying functions taken
fewer-with functions taken f there true e =
    omega (arith, count-lt (is_left taken) (is_left (taken ++ f.name ∷ [])) (stayed taken f.name) functions f there (is_left-parts (is_left taken f) (list_all (has_name taken) f.depends) e).0 (gone taken f))
fewer-with functions taken f there false e = omega arith

-- one less where one is taken out
pub fewer-turns : (functions : List FunctionDecl) (fs : List FunctionDecl) (taken : List (List ℕ)) → Within fs functions
    → staying functions (after_turns taken fs) + cond (takes_one taken fs) 1 0 ≤ staying functions taken
fewer-turns functions [] taken within = omega arith
fewer-turns functions (f ∷ fs) taken within =
    by (can_be_taken taken f) (fewer-with functions taken f (within f (inl refl)) (can_be_taken taken f) refl) (takes_one (with_taken taken f) fs) (fewer-turns functions fs (with_taken taken f) (λ g h. within g (inr h)))
  where
    by : (b : Bool) → staying functions (with_taken taken f) + cond b 1 0 ≤ staying functions taken
        → (c : Bool) → staying functions (after_turns (with_taken taken f) fs) + cond c 1 0 ≤ staying functions (with_taken taken f)
        → staying functions (after_turns (with_taken taken f) fs) + cond (b || c) 1 0 ≤ staying functions taken
    by true h true k = omega (arith, h, k)
    by true h false k = omega (arith, h, k)
    by false h c k = omega (arith, h, k)
