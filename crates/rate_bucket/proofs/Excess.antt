use Rattle.std.proofs.Common.{◌≡◌, ℕ, ◌+◌, ◌-◌, ◌*◌, ◌/◌, ◌<◌, ◌≤◌, ◌⊎◌, ◌↔◌, inl, inr, List, [], ◌∷◌, refl, sym, subst, max, ap, ◌∙◌, arith, cond, ◌&&◌, mul-add, zero, suc}
use Rattle.std.proofs.lemmas.Bool.{cases_lt}
use Rattle.std.proofs.lemmas.Bool.Decides.{nat_tests}
use Rattle.std.proofs.lemmas.Nat.{le-div, div_below}
use Rattle.std.proofs.Math.Nat.{mul-div-le, div-mul-le_self, mul-le-mul_left, lt-div-mul-add}
use Rattle.std.specs.List.{AllByRecursion}
use Rattle.std.specs.Prelude.{nat_le}
use Rattle.rate_bucket.specs.Windows.{Meter, count_in, count_from, KeepsAt, KeepsWindows, IsHistory, IsFirstFrom, MayGrant, HasToken}

pub one_same : (s t g : ℕ) → g ≤ t → ◌≡◌ {A = ℕ} (cond (nat_le s g && nat_le g t) 1 0) (cond (nat_le s g) 1 0)
one_same s t g h = grind (arith, nat_tests)

pub one_from : (s g : ℕ) → s ≤ g → ◌≡◌ {A = ℕ} (cond (nat_le s g) 1 0) 1
one_from s g h = grind (arith, nat_tests)

pub one_after : (s t g : ℕ) → t < g → ◌≡◌ {A = ℕ} (cond (nat_le s g && nat_le g t) 1 0) 0
one_after s t g h = grind (arith, nat_tests)

pub one_before : (s g : ℕ) → g < s → ◌≡◌ {A = ℕ} (cond (nat_le s g) 1 0) 0
one_before s g h = grind (arith, nat_tests)

-- ticks up to t: those from s to t are those from s on
pub counts_same : (s t : ℕ) (gs : List ℕ) → AllByRecursion (λ g. g ≤ t) gs → count_in s t gs ≡ count_from s gs
counts_same s t [] h = refl
counts_same s t (g ∷ gs) h = omega (arith, one_same s t g h.0, counts_same s t gs h.1)

-- ticks up to l, none of which lies from s on
pub counts_none : (s l : ℕ) (gs : List ℕ) → l < s → AllByRecursion (λ g. g ≤ l) gs → count_from s gs ≡ 0
counts_none s l [] lt h = refl
counts_none s l (g ∷ gs) lt h = let here = h.0 in omega (arith, one_before s g (omega arith), counts_none s l gs lt h.1)

pub all_up : (l t : ℕ) (gs : List ℕ) → l ≤ t → AllByRecursion (λ g. g ≤ l) gs → AllByRecursion (λ g. g ≤ t) gs
all_up l t [] le h = tt
all_up l t (g ∷ gs) le h = let here = h.0 in (omega arith, all_up l t gs le h.1)

-- what flows in from s to t flows in from s to l and from l to t
pub span : (f s l t : ℕ) → s ≤ l → l ≤ t → f * (t - s) ≡ f * (t - l) + f * (l - s)
span f s l t p q = let e : t - s ≡ (t - l) + (l - s) = omega arith in ap (λ x. f * x) e ∙ mul-add f (t - l) (l - s)

-- a bucket's debt at a later tick
abbrev pub waited : Meter → ℕ → Meter
waited b t = record { rate = b.rate; debt = b.debt - b.rate.fill * (t - b.last); last = t }

-- and after one grant
abbrev pub taken : Meter → Meter
taken b = record { rate = b.rate; debt = b.debt + b.rate.per; last = b.last }

later_bound : (f p d c s l t : ℕ) → s ≤ l → l ≤ t → p * c ≤ d + f * (l - s) → p * c ≤ (d - f * (t - l)) + f * (t - s)
later_bound f p d c s l t sl lt h = rw (span f s l t sl lt) (omega arith)

none_bound : (p c x : ℕ) → c ≡ 0 → p * c ≤ x
none_bound p c x e = rw e (omega arith)

waited_bound : (b : Meter) (gs : List ℕ) (t : ℕ) → IsHistory b gs → b.last ≤ t → (s : ℕ) → s ≤ t → (s < b.last + 1) ⊎ (b.last + 1 ≤ s)
    → b.rate.per * count_from s gs ≤ (b.debt - b.rate.fill * (t - b.last)) + b.rate.fill * (t - s)
waited_bound b gs t h le s st (inl sl) = let sl' : s ≤ b.last = omega arith in later_bound b.rate.fill b.rate.per b.debt (count_from s gs) s b.last t sl' le (h.bound s sl')
waited_bound b gs t h le s st (inr ls) = none_bound b.rate.per (count_from s gs) _ (counts_none s b.last gs (omega arith) h.before)

waited_reached : (b : Meter) (gs : List ℕ) (t : ℕ) → b.last ≤ t
    → (b.debt ≡ 0) ⊎ ((s : ℕ) × (s ≤ b.last) × (b.rate.per * count_from s gs ≡ b.debt + b.rate.fill * (b.last - s)))
    → (b.debt < b.rate.fill * (t - b.last)) ⊎ (b.rate.fill * (t - b.last) ≤ b.debt)
    → (b.debt - b.rate.fill * (t - b.last) ≡ 0) ⊎ ((s : ℕ) × (s ≤ t) × (b.rate.per * count_from s gs ≡ (b.debt - b.rate.fill * (t - b.last)) + b.rate.fill * (t - s)))
waited_reached b gs t le (inl e) o = inl (omega arith)
waited_reached b gs t le (inr w) (inl lt) = inl (omega arith)
waited_reached b gs t le (inr w) (inr ge) =
    let sl = w.1 in
    let at = w.2 in
    inr (w.0, omega arith, rw (span b.rate.fill w.0 b.last t sl le) (omega arith))

pub wait_keeps : (b : Meter) (gs : List ℕ) (t : ℕ) → IsHistory b gs → b.last ≤ t → IsHistory (waited b t) gs
wait_keeps b gs t h le =
    record {
      law = h.law;
      before = all_up b.last t gs le h.before;
      bound = λ s st. waited_bound b gs t h le s st (cases_lt s (b.last + 1));
      reached = waited_reached b gs t le h.reached (cases_lt b.debt (b.rate.fill * (t - b.last)));
    }

-- one more in a window
more : (p c d x : ℕ) → p * c ≤ d + x → p * (1 + c) ≤ (d + p) + x
more p c d x h = omega arith

count_more : (s t : ℕ) (gs : List ℕ) → s ≤ t → count_from s (t ∷ gs) ≡ 1 + count_from s gs
count_more s t gs h = omega (arith, one_from s t h)

zero_count : (p c : ℕ) → 0 < p → p * c ≤ 0 → c ≡ 0
zero_count p zero pos h = refl
zero_count p (suc c) pos h = absurd (omega arith)

take_reached : (b : Meter) (gs : List ℕ) → 0 < b.rate.per
    → ((s : ℕ) → s ≤ b.last → b.rate.per * count_from s gs ≤ b.debt + b.rate.fill * (b.last - s))
    → (b.debt ≡ 0) ⊎ ((s : ℕ) × (s ≤ b.last) × (b.rate.per * count_from s gs ≡ b.debt + b.rate.fill * (b.last - s)))
    → ((s : ℕ) × (s ≤ b.last) × (b.rate.per * count_from s (b.last ∷ gs) ≡ (b.debt + b.rate.per) + b.rate.fill * (b.last - s)))
take_reached b gs pos bound (inl e) =
    let none : b.rate.fill * (b.last - b.last) ≡ 0 = (let z : b.last - b.last ≡ 0 = omega arith in rw z (omega arith)) in
    let c : count_from b.last gs ≡ 0 = zero_count b.rate.per (count_from b.last gs) pos (omega (arith, bound b.last (omega arith))) in
    (b.last, omega arith, rw (count_more b.last b.last gs (omega arith), c) (omega arith))
take_reached b gs pos bound (inr w) =
    let at = w.2 in
    (w.0, w.1, rw (count_more w.0 b.last gs w.1) (omega arith))

div_mono : (x y p : ℕ) → 0 < p → x ≤ y → x / p ≤ y / p
div_mono x y p pos h = le-div (x / p) y p pos (omega (arith, div-mul-le_self x p))

-- one more tick, which is no earlier, keeps the law of every window where it keeps that of those that end there
windows_more : (b : Meter) (gs : List ℕ) (t : ℕ) → 0 < b.rate.per → KeepsWindows b.rate gs → AllByRecursion (λ g. g ≤ t) gs → KeepsAt b.rate t (t ∷ gs)
    → (s u : ℕ) → s ≤ u → (u < t) ⊎ (t ≤ u) → (t < s) ⊎ (s ≤ t) → count_in s u (t ∷ gs) ≤ b.rate.size + b.rate.fill * (u - s) / b.rate.per
windows_more b gs t pos law before at s u su (inl ut) o = omega (arith, one_after s u t ut, law s u su)
windows_more b gs t pos law before at s u su (inr tu) (inl ts) =
    let none = counts_same s u (t ∷ gs) (tu, all_up t u gs tu before) ∙ counts_none s t (t ∷ gs) ts (omega arith, before) in omega arith
windows_more b gs t pos law before at s u su (inr tu) (inr st) =
    let same = counts_same s u (t ∷ gs) (tu, all_up t u gs tu before) ∙ sym (counts_same s t (t ∷ gs) (omega arith, before)) in
    let flows : b.rate.fill * (t - s) / b.rate.per ≤ b.rate.fill * (u - s) / b.rate.per = div_mono _ _ b.rate.per pos (mul-le-mul_left b.rate.fill (omega arith)) in
    omega (arith, at s st)

pub take_keeps : (b : Meter) (gs : List ℕ) → 0 < b.rate.per → KeepsAt b.rate b.last (b.last ∷ gs) → IsHistory b gs → IsHistory (taken b) (b.last ∷ gs)
take_keeps b gs pos at h =
    record {
      law = λ s u su. windows_more b gs b.last pos h.law h.before at s u su (cases_lt u b.last) (cases_lt b.last s);
      before = (omega arith, h.before);
      bound = λ s st. rw (count_more s b.last gs st) (more b.rate.per (count_from s gs) b.debt (b.rate.fill * (b.last - s)) (h.bound s st));
      reached = inr (take_reached b gs pos h.bound h.reached);
    }

-- a count within the window law, and the same in parts of a token
law_to : (p a size x : ℕ) → a ≤ size + x / p → p * a ≤ size * p + x
law_to p a size x h = omega (arith, mul-div-le x p, mul-le-mul_left p h)

law_rest : (p k size x : ℕ) → 0 < p → p * (size + k) ≤ size * p + x → k ≤ x / p
law_rest p k size x pos h = le-div k x p pos (omega arith)

law_from : (p a size x : ℕ) → 0 < p → p * a ≤ size * p + x → (a < size) ⊎ (size ≤ a) → a ≤ size + x / p
law_from p a size x pos h (inl lt) = omega arith
law_from p a size x pos h (inr ge) =
    let e : a ≡ size + (a - size) = omega arith in
    let k = law_rest p (a - size) size x pos (subst (λ (y : ℕ). p * y ≤ size * p + x) e h) in
    omega arith

pub one_token : (p size : ℕ) → 1 ≤ size → p ≤ size * p
one_token p zero h = absurd (omega arith)
one_token p (suc n) h = omega arith

-- a grant at `last` keeps the law where a token's debt fits
grant_needs : (b : Meter) (gs : List ℕ) → IsHistory b gs → 1 ≤ b.rate.size → KeepsAt b.rate b.last (b.last ∷ gs)
    → (b.debt ≡ 0) ⊎ ((s : ℕ) × (s ≤ b.last) × (b.rate.per * count_from s gs ≡ b.debt + b.rate.fill * (b.last - s)))
    → b.debt + b.rate.per ≤ b.rate.size * b.rate.per
grant_needs b gs h size law (inl e) = omega (arith, one_token b.rate.per b.rate.size size)
grant_needs b gs h size law (inr w) =
    let at = w.2 in
    let same = counts_same w.0 b.last (b.last ∷ gs) (omega arith, h.before) ∙ count_more w.0 b.last gs w.1 in
    let l : 1 + count_from w.0 gs ≤ b.rate.size + b.rate.fill * (b.last - w.0) / b.rate.per = subst (λ (n : ℕ). n ≤ b.rate.size + b.rate.fill * (b.last - w.0) / b.rate.per) same (law w.0 w.1) in
    let k = law_to b.rate.per (1 + count_from w.0 gs) b.rate.size (b.rate.fill * (b.last - w.0)) l in
    omega arith

grant_keeps : (b : Meter) (gs : List ℕ) → IsHistory b gs → 0 < b.rate.per → b.debt + b.rate.per ≤ b.rate.size * b.rate.per → KeepsAt b.rate b.last (b.last ∷ gs)
grant_keeps b gs h pos fits s st =
    let same = counts_same s b.last (b.last ∷ gs) (omega arith, h.before) ∙ count_more s b.last gs st in
    let m = more b.rate.per (count_from s gs) b.debt (b.rate.fill * (b.last - s)) (h.bound s st) in
    let k : 1 + count_from s gs ≤ b.rate.size + b.rate.fill * (b.last - s) / b.rate.per =
    law_from b.rate.per (1 + count_from s gs) b.rate.size (b.rate.fill * (b.last - s)) pos (omega arith) (cases_lt (1 + count_from s gs) b.rate.size) in
    subst (λ (n : ℕ). n ≤ b.rate.size + b.rate.fill * (b.last - s) / b.rate.per) (sym same) k

-- a grant at t keeps the law exactly where a token's debt fits at t
pub law_at : (b : Meter) (gs : List ℕ) (t : ℕ) → IsHistory b gs → b.last ≤ t → 1 ≤ b.rate.size → 0 < b.rate.per
    → KeepsAt b.rate t (t ∷ gs) ↔ ((b.debt - b.rate.fill * (t - b.last)) + b.rate.per ≤ b.rate.size * b.rate.per)
law_at b gs t h le size pos =
    let w = wait_keeps b gs t h le in
    (λ law. grant_needs (waited b t) gs w size law w.reached, λ fits. grant_keeps (waited b t) gs w pos fits)

ceil_up : (n f : ℕ) → 0 < f → n ≤ f * ((n + (f - 1)) / f)
ceil_up n f pos = let h = lt-div-mul-add {a = n + (f - 1)} {b = f} pos in omega arith

ceil_least : (n f k : ℕ) → 0 < f → n ≤ f * k → (n + (f - 1)) / f ≤ k
ceil_least n f k pos h = let d = div_below (n + (f - 1)) f (k + 1) pos (omega arith) in omega arith

fits_from : (d room f x y : ℕ) → d - room ≤ f * x → x ≤ y → d - f * y ≤ room
fits_from d room f x y h le = omega (arith, mul-le-mul_left f le)

-- where a token is there at once, it is there at each later tick
pub token_now : (b : Meter) (t : ℕ) → b.debt + b.rate.per ≤ b.rate.size * b.rate.per → IsFirstFrom t (HasToken b) t
token_now b t fits = record { from = omega arith; exact = λ u tu. (λ _. omega arith, λ _. tu) }

-- from t on, the least tick at which a token is there
pub token_later : (b : Meter) (t : ℕ) → b.last ≤ t → 1 ≤ b.rate.size → 0 < b.rate.fill
    → IsFirstFrom t (HasToken b) (max t (b.last + (b.debt - (b.rate.size * b.rate.per - b.rate.per) + (b.rate.fill - 1)) / b.rate.fill))
token_later b t le size fill =
    let n = b.debt - (b.rate.size * b.rate.per - b.rate.per) in
    let ticks = (n + (b.rate.fill - 1)) / b.rate.fill in
    record {
      from = omega arith;
      exact = λ u tu. (
        λ late.
            (let f = fits_from b.debt (b.rate.size * b.rate.per - b.rate.per) b.rate.fill ticks (u - b.last) (ceil_up n b.rate.fill fill) (omega arith) in
            omega (arith, one_token b.rate.per b.rate.size size)),
        λ fits. (let c = ceil_least n b.rate.fill (u - b.last) fill (omega arith) in omega arith),
      );
    }

-- it is the least tick at which a grant keeps the window law
pub token_is_law : (b : Meter) (gs : List ℕ) (t n : ℕ) → IsHistory b gs → b.last ≤ t → 1 ≤ b.rate.size → 0 < b.rate.per → IsFirstFrom t (HasToken b) n → IsFirstFrom t (MayGrant b.rate gs) n
token_is_law b gs t n h le size pos first =
    record {
      from = first.from;
      exact = λ u tu.
          (let law = law_at b gs u h (omega arith) size pos in
          let token = first.exact u tu in
          (λ late. law.1 (token.0 late), λ may. token.1 (law.0 may)));
    }

-- the code's quotient is that of the meter
pub next_is : (b : Meter) (t n size per per' fill : ℕ) → size ≡ b.rate.size → per ≡ b.rate.per → per' ≡ b.rate.per → fill ≡ b.rate.fill
    → n ≡ max t (b.last + (b.debt - (size * per - per') + (fill - 1)) / fill)
    → n ≡ max t (b.last + (b.debt - (b.rate.size * b.rate.per - b.rate.per) + (b.rate.fill - 1)) / b.rate.fill)
next_is b t n size per per' fill e1 e2 e3 e4 h = rw (e1, e2, e3, e4) at h

pub paid_off : (d f n : ℕ) → 0 < f → d / f < n → d - f * n ≡ 0
paid_off d f n pos h = let q = lt-div-mul-add {a = d} {b = f} pos in omega (arith, mul-le-mul_left f h)

pub pays : (d f n : ℕ) → n ≤ d / f → f * n ≤ d
pays d f n h = omega (arith, mul-div-le d f, mul-le-mul_left f h)

-- a bucket after a grant at t
pub granted : (b : Meter) (gs : List ℕ) (t debt : ℕ) → IsHistory b gs → b.last ≤ t → 0 < b.rate.per → KeepsAt b.rate t (t ∷ gs) → debt ≡ (b.debt - b.rate.fill * (t - b.last)) + b.rate.per
    → IsHistory (record { rate = b.rate; debt = debt; last = t }) (t ∷ gs)
granted b gs t debt h le pos at e =
    subst (λ (d : ℕ). IsHistory (record { rate = b.rate; debt = d; last = t }) (t ∷ gs)) (sym e)
    (take_keeps (waited b t) gs pos at (wait_keeps b gs t h le))
