-- Rows up to a limit.
use Rattle.std.proofs.Common.{◌≡◌, ℕ, ◌≤◌, ◌<◌, true, false, List, [], ◌∷◌, ◌++◌, length, take, Option, Some, None, refl, sym, ap, ◌∙◌, arith, length-append}
use Rattle.std.proofs.lemmas.Bool.{false≢true, leb-true}
use Rattle.std.proofs.lemmas.Bool.Decides.{nat_tests}
use Rattle.std.proofs.lemmas.List.{take-append-le, take_all}
use Rattle.sp_model.specs.Covers.{cut}
use Rattle.sp_model.specs.Walk.{is_reached}

-- rows that reach the limit are all that it lets through
pub reached : {X : Type 0} (limit : Option ℕ) (shown more all : List X) → is_reached limit (length shown) ≡ true → cut limit shown ≡ shown → shown ++ more ≡ all → shown ≡ cut limit all
reached None shown more all h within rest = absurd (false≢true h)
reached (Some n) shown more all h within rest =
    let le : n ≤ length shown = leb-true n (length shown) h in
    sym within ∙ sym (take-append-le n shown more le) ∙ ap (take n) rest

-- one row more is let through where the limit isn't reached
pub one_more : {X : Type 0} (limit : Option ℕ) (shown : List X) (x : X) → is_reached limit (length shown) ≡ false → cut limit (shown ++ x ∷ []) ≡ shown ++ x ∷ []
one_more None shown x h = refl
one_more (Some n) shown x h =
    let lt : length shown < n = grind (arith, nat_tests) in
    take_all n (shown ++ x ∷ []) (simp length-append (omega arith))

-- rows within the limit are what it lets through
pub all_within : {X : Type 0} (limit : Option ℕ) (shown all : List X) → cut limit shown ≡ shown → shown ≡ all → shown ≡ cut limit all
all_within limit shown all within rest = sym within ∙ ap (cut limit) rest
