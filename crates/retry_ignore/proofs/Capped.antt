-- Sums that stay below a cap.
use Rattle.std.proofs.Common.{◌≡◌, ◌+◌, ◌*◌, ◌^◌, min, ℕ, suc, sym, ap, ◌∙◌, arith}
use Rattle.sp_model.specs.Delays.{fibonacci}

capped : (c x y a b r : ℕ) → a ≡ min c x → b ≡ min c y → r ≡ min c (a + b) → r ≡ min c (y + x)
capped c x y a b r p q e = omega arith

spread : (i a b : ℕ) → i * (a + b) ≡ i * a + i * b
spread i a b = omega arith

-- one attempt on
pub fibonacci_on : (c interval m n k before now next : ℕ) → n ≡ suc m → k ≡ suc (suc m) → before ≡ min c (interval * fibonacci m) → now ≡ min c (interval * fibonacci n) → next ≡ min c (before + now) → next ≡ min c (interval * fibonacci k)
fibonacci_on c interval m n k before now next n_is k_is p q e =
    let sum : interval * fibonacci k ≡ interval * fibonacci n + interval * fibonacci m = ap (λ j. interval * fibonacci j) k_is ∙ spread interval (fibonacci (suc m)) (fibonacci m) ∙ ap (λ j. interval * fibonacci j + interval * fibonacci m) (sym n_is) in
    capped c (interval * fibonacci m) (interval * fibonacci n) before now next p q e ∙ ap (min c) (sym sum)

twice : (i a : ℕ) → i * (2 * a) ≡ i * a + i * a
twice i a = omega arith

pub doubling_on : (c interval m n now next : ℕ) → n ≡ suc m → now ≡ min c (interval * 2 ^ m) → next ≡ min c (now + now) → next ≡ min c (interval * 2 ^ n)
doubling_on c interval m n now next n_is p e =
    let power : 2 ^ n ≡ 2 * 2 ^ m = ap (λ k. 2 ^ k) n_is ∙ omega arith in
    let sum : interval * 2 ^ n ≡ interval * 2 ^ m + interval * 2 ^ m = ap (λ k. interval * k) power ∙ twice interval (2 ^ m) in
    capped c (interval * 2 ^ m) (interval * 2 ^ m) now now next p p e ∙ ap (min c) (sym sum)
