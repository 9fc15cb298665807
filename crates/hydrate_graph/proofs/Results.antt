-- The results of dependencies, from the last to the first.
use Rattle.std.proofs.Common.{◌≡◌, ◌<◌, ℕ, zero, suc, Bool, true, false, not, cond, ◌&&◌, List, [], ◌∷◌, length, get_or, map, Option, Some, None, refl, sym, ap, ◌∙◌, arith}
use Rattle.std.specs.Prelude.{is_none, is_some, slice_get}
use Rattle.std.specs.Borrow.{Bor}
use Rattle.std.specs.Option.{option_copied}
use Rattle.std.specs.List.{list_all, find}
use Rattle.sp_model.specs.Hydration.{gave, depends_of}
use Rattle.sp_model.specs.declared.declaration.FunctionDecl.{FunctionDecl}
use Rattle.sp_model.specs.declared.outcome.Outcome.{Outcome}
use Rattle.hydrate_graph.specs.Graphs.{Plan, known_in, wants, may_call}
use Rattle.hydrate_graph.specs.Numbers.{number_of, numbers_of, needs_of, depends_at}
use Rattle.hydrate_graph.proofs.Chain.{waiting_in}
use Rattle.hydrate_graph.proofs.Hydrating.{and_left, and_right}

pub all_at : {X : Type 0} (p : X → Bool) (xs : List X) (k : ℕ) (x : X) → list_all p xs ≡ true → k < length xs → x ≡ get_or xs k x → p x ≡ true
all_at p [] k x all l is = absurd (omega arith)
all_at p (y ∷ ys) zero x all l is = ap p is ∙ and_left (p y) (list_all p ys) all
all_at p (y ∷ ys) (suc k) x all l is = all_at p ys k x (and_right (p y) (list_all p ys) all) (omega arith) is

none_step : (b : Bool) (k : ℕ) (rest : Option ℕ) (all : Bool) → is_none rest ≡ all → is_none (cond (not b) (Some k) rest) ≡ (b && all)
none_step true k rest all e = e
none_step false k rest all e = refl

-- no number waits exactly where all of these functions gave a result
pub none_waits : (fs : List FunctionDecl) (settled : List (Option Outcome)) (ds : List (List ℕ)) → is_none (find (waiting_in settled) (numbers_of fs ds)) ≡ list_all (λ d. gave (known_in fs settled d)) ds
none_waits fs settled [] = refl
none_waits fs settled (d ∷ ds) = none_step (gave (known_in fs settled d)) (number_of fs d) (find (waiting_in settled) (numbers_of fs ds)) (list_all (λ e. gave (known_in fs settled e)) ds) (none_waits fs settled ds)

map_out : {X Y : Type 0} (g : X → Y) (xs : List X) (n : ℕ) → n < length xs → None ≡ slice_get (map g xs) n → ⊥
map_out g [] n l h = omega arith
map_out g (x ∷ xs) zero l h = cc
map_out g (x ∷ xs) (suc n) l h = map_out g xs n (omega arith) h

map_in : {X Y : Type 0} (g : X → Y) (xs : List X) (n : ℕ) (y : Y) → Some y ≡ slice_get (map g xs) n → (x : X) × (slice_get xs n ≡ Some x) × (y ≡ g x)
map_in g [] n y h = absurd (cc)
map_in g (x ∷ xs) zero y h = (x, refl, (cc))
map_in g (x ∷ xs) (suc n) y h = map_in g xs n y h

-- the needs of a function are the numbers of its dependencies
pub needs_at : (fs : List FunctionDecl) (needs : List (List ℕ)) (k : ℕ) (gs : List ℕ) → needs ≡ needs_of fs → Some gs ≡ slice_get needs k → gs ≡ numbers_of fs (depends_at fs k)
needs_at fs needs k gs are is =
    let p = map_in (λ f. numbers_of fs f.depends) fs k gs (is ∙ ap (λ l. slice_get l k) are) in
    p.2 ∙ ap (λ f. numbers_of fs (depends_of f)) (sym p.1)

pub needs_out : (fs : List FunctionDecl) (needs : List (List ℕ)) (k : ℕ) → needs ≡ needs_of fs → k < length fs → None ≡ slice_get needs k → ⊥
needs_out fs needs k are l out = map_out (λ f. numbers_of fs f.depends) fs k l (out ∙ ap (λ l. slice_get l k) are)

some_none : (o : Option Outcome) → is_some o ≡ false → is_none o ≡ true
some_none None e = refl
some_none (Some x) e = absurd (cc)

-- a function that is wanted and not settled may be called where none of its needs waits
pub may_call_is : (p : Plan) (settled : List (Option Outcome)) (k : ℕ) (gs : List ℕ) (first : Option ℕ) → wants p k ≡ true → is_some (get_or settled k None) ≡ false → gs ≡ numbers_of p.functions (depends_at p.functions k) → first ≡ find (waiting_in settled) gs
    → is_none first ≡ may_call p settled k
may_call_is p settled k gs first wanted open_ are is =
    rw (wanted, some_none (get_or settled k None) open_) (ap is_none (is ∙ ap (find (waiting_in settled)) are) ∙ none_waits p.functions settled (depends_at p.functions k))

pub copied_some : {X : Type 0} (o : Option (Bor X)) → is_some (option_copied o) ≡ is_some o
copied_some None = refl
copied_some (Some x) = refl

pub none_from : (o : Option ℕ) (b : Bool) → is_some o ≡ not b → b ≡ is_none o
none_from None true e = refl
none_from None false e = absurd (cc)
none_from (Some x) true e = absurd (cc)
none_from (Some x) false e = refl
