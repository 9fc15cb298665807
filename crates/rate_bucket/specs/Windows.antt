use Rattle.std.specs.Prelude.{◌≡◌, ℕ, ◌+◌, ◌-◌, ◌*◌, ◌/◌, ◌≤◌, ◌⊎◌, ◌↔◌, ◌&&◌, List, [], ◌∷◌, nat_le, if◌then◌else◌}
use Rattle.std.specs.List.{AllByRecursion}

-- a bucket's settings: at most `size` tokens, of which `fill` come every `per` ticks
pub record Rate : Type 0 where
  pub size : ℕ
  pub fill : ℕ
  pub per : ℕ

-- what contracts see of a bucket: its settings; its debt at the tick `last`, in parts of a token, of which `per` make one
pub record Meter : Type 0 where
  pub rate : Rate
  pub debt : ℕ
  pub last : ℕ

-- how many of the ticks lie from s to t, both included
abbrev pub count_in : ℕ → ℕ → List ℕ → ℕ
count_in s t [] = 0
count_in s t (g ∷ gs) = (if nat_le s g && nat_le g t then 1 else 0) + count_in s t gs

-- how many of the ticks lie from s on
abbrev pub count_from : ℕ → List ℕ → ℕ
count_from s [] = 0
count_from s (g ∷ gs) = (if nat_le s g then 1 else 0) + count_from s gs

-- the window law for each window that ends at t
abbrev pub KeepsAt : Rate → ℕ → List ℕ → Type 0
KeepsAt r t grants = (s : ℕ) → s ≤ t → count_in s t grants ≤ r.size + r.fill * (t - s) / r.per

-- the window law: each window has at most the size and what was filled in it
abbrev pub KeepsWindows : Rate → List ℕ → Type 0
KeepsWindows r grants = (s t : ℕ) → s ≤ t → count_in s t grants ≤ r.size + r.fill * (t - s) / r.per

-- with one grant more, at u, the law is kept in each window that ends at u
abbrev pub MayGrant : Rate → List ℕ → ℕ → Type 0
MayGrant r grants u = KeepsAt r u (u ∷ grants)

-- these are the ticks of the bucket's grants, newest first: its debt is the greatest excess of a window that ends at `last`
pub record IsHistory (b : Meter) (grants : List ℕ) : Type 0 where
  pub law : KeepsWindows b.rate grants
  pub before : AllByRecursion (λ g. g ≤ b.last) grants
  pub bound : (s : ℕ) → s ≤ b.last → b.rate.per * count_from s grants ≤ b.debt + b.rate.fill * (b.last - s)
  pub reached : (b.debt ≡ 0) ⊎ ((s : ℕ) × (s ≤ b.last) × (b.rate.per * count_from s grants ≡ b.debt + b.rate.fill * (b.last - s)))

-- at the tick t one more token's debt fits into the bucket
abbrev pub HasToken : Meter → ℕ → Type 0
HasToken b t = (b.debt - b.rate.fill * (t - b.last)) + b.rate.per ≤ b.rate.size * b.rate.per

-- n is the least tick from t on that has the property; each later one has it, too
pub record IsFirstFrom (t : ℕ) (P : ℕ → Type 0) (n : ℕ) : Type 0 where
  pub from : t ≤ n
  pub exact : (u : ℕ) → t ≤ u → (n ≤ u ↔ P u)
