-- Lists of limiters that change one after another.
use Rattle.std.proofs.Common.{◌≡◌, ℕ, ◌+◌, ◌<◌, zero, suc, List, [], ◌∷◌, length, get_or, set, refl, sym, ap, subst, arith, take, ◌++◌}
use Rattle.std.proofs.lemmas.List.{take_more}
use Rattle.std.specs.List.{AllByRecursion}
use Rattle.rate_gate.specs.declared.limited.Limited.{Limited}
use Rattle.rate_gate.specs.Instances.{First}

pub first_none : (R : Limited → Limited → Type 0) (xs : List Limited) → First R xs xs 0
first_none R [] = tt
first_none R (x ∷ xs) = (refl, first_none R xs)

-- a weaker change
pub first_weaker : (R S : Limited → Limited → Type 0) → ((x y : Limited) → R x y → S x y) → (olds news : List Limited) (n : ℕ) → First R olds news n → First S olds news n
first_weaker R S f [] [] n h = tt
first_weaker R S f (o ∷ os) (x ∷ xs) zero h = (h.0, first_weaker R S f os xs zero h.1)
first_weaker R S f (o ∷ os) (x ∷ xs) (suc n) h = (f o x h.0, first_weaker R S f os xs n h.1)
first_weaker R S f [] (x ∷ xs) n h = absurd h
first_weaker R S f (o ∷ os) [] n h = absurd h

-- those that are as they were count as changed, where each is so by itself
pub first_all : (R : Limited → Limited → Type 0) → ((x : Limited) → R x x) → (olds news : List Limited) (n : ℕ) → First R olds news n → First R olds news (length olds)
first_all R r [] [] n h = tt
first_all R r (o ∷ os) (x ∷ xs) zero h = (subst (λ (y : Limited). R o y) (sym h.0) (r o), first_all R r os xs zero h.1)
first_all R r (o ∷ os) (x ∷ xs) (suc n) h = (h.0, first_all R r os xs n h.1)
first_all R r [] (x ∷ xs) n h = absurd h
first_all R r (o ∷ os) [] n h = absurd h

pub first_length : (R : Limited → Limited → Type 0) (olds news : List Limited) (n : ℕ) → First R olds news n → length news ≡ length olds
first_length R [] [] n h = refl
first_length R (o ∷ os) (x ∷ xs) zero h = ap suc (first_length R os xs zero h.1)
first_length R (o ∷ os) (x ∷ xs) (suc n) h = ap suc (first_length R os xs n h.1)
first_length R [] (x ∷ xs) n h = absurd h
first_length R (o ∷ os) [] n h = absurd h

-- what holds of each old one holds of the next
pub first_next : (R : Limited → Limited → Type 0) (P : Limited → Type 0) (olds news : List Limited) (k : ℕ) (d : Limited) → AllByRecursion P olds → First R olds news k → k < length news → P (get_or news k d)
first_next R P [] [] k d may h lt = absurd (omega arith)
first_next R P (o ∷ os) (x ∷ xs) zero d may h lt = subst P (sym h.0) may.0
first_next R P (o ∷ os) (x ∷ xs) (suc k) d may h lt = first_next R P os xs k d may.1 h.1 (omega arith)
first_next R P [] (x ∷ xs) k d may h lt = absurd h
first_next R P (o ∷ os) [] k d may h lt = absurd h

-- one more has changed
pub first_more : (R : Limited → Limited → Type 0) (olds news : List Limited) (k : ℕ) (d v : Limited) → First R olds news k → k < length news → R (get_or news k d) v → First R olds (set news k v) (suc k)
first_more R [] [] k d v h lt t = absurd (omega arith)
first_more R (o ∷ os) (x ∷ xs) zero d v h lt t = (subst (λ (y : Limited). R y v) h.0 t, h.1)
first_more R (o ∷ os) (x ∷ xs) (suc k) d v h lt t = (h.0, first_more R os xs k d v h.1 (omega arith) t)
first_more R [] (x ∷ xs) k d v h lt t = absurd h
first_more R (o ∷ os) [] k d v h lt t = absurd h

pub all_at : {X : Type 0} (P : X → Type 0) (xs : List X) (k : ℕ) (d : X) → AllByRecursion P xs → k < length xs → P (get_or xs k d)
all_at P [] k d h lt = absurd (omega arith)
all_at P (x ∷ xs) zero d h lt = h.0
all_at P (x ∷ xs) (suc k) d h lt = all_at P xs k d h.1 (omega arith)

pub all_snoc : {X : Type 0} (P : X → Type 0) (xs : List X) (x : X) → AllByRecursion P xs → P x → AllByRecursion P (xs ++ x ∷ [])
all_snoc P [] x h p = (p, tt)
all_snoc P (y ∷ ys) x h p = (h.0, all_snoc P ys x h.1 p)

pub all_more : {X : Type 0} (P : X → Type 0) (xs : List X) (k : ℕ) (d : X) → k < length xs → AllByRecursion P (take k xs) → P (get_or xs k d) → AllByRecursion P (take (k + 1) xs)
all_more P xs k d lt h p = rw (take_more xs k d lt) (all_snoc P (take k xs) (get_or xs k d) h p)

-- what a slice of the whole vector leaves
pub written_back : {X : Type 0} (n : ℕ) (xs ys : List X) → n ≡ length xs → take n (xs ++ ys) ≡ xs
written_back n [] ys e = rw e refl
written_back n (x ∷ xs) ys e = rw e (ap (λ zs. x ∷ zs) (written_back (length xs) xs ys refl))

-- what each change gives of the new one
pub first_new : (R : Limited → Limited → Type 0) (P : Limited → Type 0) → ((x y : Limited) → R x y → P y) → (olds news : List Limited) → First R olds news (length olds) → AllByRecursion P news
first_new R P f [] [] h = tt
first_new R P f (o ∷ os) (x ∷ xs) h = (f o x h.0, first_new R P f os xs h.1)
first_new R P f [] (x ∷ xs) h = absurd h
first_new R P f (o ∷ os) [] h = absurd h
