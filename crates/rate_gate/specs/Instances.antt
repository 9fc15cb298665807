-- How the instances of one limiter stand after a journal.
use Rattle.std.specs.Prelude.{◌≡◌, ℕ, zero, suc, ◌+◌, ◌≤◌, ◌<◌, Bool, true, false, List, [], ◌∷◌, length, map, Option, Some, None, IsSome, IfSome, Result, Ok, Err, nat_le}
use Rattle.std.specs.List.{AllByRecursion, list_any}
use Rattle.std.specs.Vec.{vec_capacity}
use Rattle.rate_bucket.specs.Windows.{Rate, Meter, IsHistory, IsFirstFrom, HasToken as HasBucketToken}
use Rattle.sp_model.specs.declared.settings.Limiter.{Limiter}
use Rattle.rate_gate.specs.declared.tag_list.TagList.{TagList}
use Rattle.rate_gate.specs.declared.entry.Entry.{Entry}
use Rattle.rate_gate.specs.declared.instance.Instance.{Instance}
use Rattle.rate_gate.specs.declared.instance.Places.{Places}
use Rattle.rate_gate.specs.declared.limited.Limited.{Limited}
use Rattle.rate_gate.specs.declared.wait.Wait.{Wait}
use Rattle.rate_gate.specs.declared.wait.Wait.TheVariants.{Places as NoPlaces, Until, Memory}
use Rattle.rate_gate.specs.Journal.{open_grants, open_count, grant_ticks, last_tick}
use Rattle.rate_gate.specs.Held.{held}
use Rattle.rate_gate.specs.Keys.{key_of, by_key}
use Rattle.rate_gate.specs.Limits.{applies, scope_values, rate_of, IsLimiter, KeepsPlaces, GateView}

-- ---- one instance

abbrev pub BucketStands : Option Rate → Option Meter → List ℕ → ℕ → Type 0
BucketStands None None ticks last = Unit {0}
BucketStands (Some r) (Some b) ticks last = (b.rate ≡ r) × IsHistory b ticks × (b.last ≤ last)
BucketStands None (Some b) ticks last = ⊥
BucketStands (Some r) None ticks last = ⊥

abbrev pub PlacesStand : Option ℕ → Option Places → ℕ → Type 0
PlacesStand None None count = Unit {0}
PlacesStand (Some most) (Some p) count = (p.most ≡ most) × (p.opened ≡ count) × (count ≤ most)
PlacesStand None (Some p) count = ⊥
PlacesStand (Some most) None count = ⊥

-- an instance that isn't there has no grant yet
abbrev pub Stands : Limiter → List ℕ → ℕ → ℕ → Option Instance → Type 0
Stands l ticks count last None = (ticks ≡ []) × (count ≡ 0)
Stands l ticks count last (Some i) = BucketStands (rate_of l) i.bucket ticks last × PlacesStand l.max_concurrency i.places count

-- ---- the instances of one limiter

-- there is room for the key of each open grant that the limiter applies to
abbrev pub HasRoom : Limiter → ℕ → ℕ × TagList → Type 0
HasRoom l room g = applies l g.1 ≡ true → length (key_of (scope_values l g.1)) ≤ room

pub record Fits (journal : List Entry) (s : Limited) : Type 0 where
  pub limiter : IsLimiter s.limiter
  pub places : (key : List ℕ) → IfSome s.limiter.max_concurrency (λ most. KeepsPlaces (by_key s.limiter key) most journal)
  pub stands : (key : List ℕ) → Stands s.limiter (grant_ticks (by_key s.limiter key) journal) (open_count (by_key s.limiter key) journal) (last_tick journal) (held s.instances key)
  pub room : AllByRecursion (HasRoom s.limiter (vec_capacity s.key)) (open_grants journal)

-- ---- the instance of the call that is asked about

abbrev pub if_applies : {X : Type 0} → Bool → Option X → Option X
if_applies true o = o
if_applies false o = None

abbrev pub current : Limited → Option Instance
current s = if_applies s.applies (held s.instances s.key.items)

-- the limiter's instance for these tags is looked at
pub record Turned (tags : TagList) (s : Limited) : Type 0 where
  pub applies : s.applies ≡ applies s.limiter tags
  pub key : s.applies ≡ true → s.key.items ≡ key_of (scope_values s.limiter tags)

-- and it is there, with room for its return
pub record Ready (tags : TagList) (s : Limited) : Type 0 where
  pub turned : Turned tags s
  pub made : s.applies ≡ true → IsSome (held s.instances s.key.items)
  pub room : s.applies ≡ true → length (key_of (scope_values s.limiter tags)) ≤ vec_capacity s.key

abbrev pub no_place : Option Places → Bool
no_place None = false
no_place (Some p) = nat_le p.most p.opened

abbrev pub instance_full : Option Instance → Bool
instance_full None = false
instance_full (Some i) = no_place i.places

abbrev pub full_now : Limited → Bool
full_now s = instance_full (current s)

abbrev pub BucketBefore : ℕ → Instance → Type 0
BucketBefore tick i = IfSome i.bucket (λ b. b.last ≤ tick)

abbrev pub Before : ℕ → Limited → Type 0
Before tick s = IfSome (current s) (BucketBefore tick)

abbrev pub BucketToken : ℕ → Instance → Type 0
BucketToken u i = IfSome i.bucket (λ b. HasBucketToken b u)

-- a grant may be taken
pub record MayTake (tick : ℕ) (i : Instance) : Type 0 where
  pub since : BucketBefore tick i
  pub token : BucketToken tick i
  pub place : no_place i.places ≡ false

-- and given back
abbrev pub MayGive : Instance → Type 0
MayGive i = IfSome i.places (λ p. 0 < p.opened)

abbrev pub TokenNow : ℕ → Limited → Type 0
TokenNow u s = IfSome (current s) (BucketToken u)

-- ---- changes

abbrev pub BucketTaken : ℕ → Option Meter → Option Meter → Type 0
BucketTaken tick None None = Unit {0}
BucketTaken tick (Some b) (Some c) = (c.rate ≡ b.rate) × ((ticks : List ℕ) → IsHistory b ticks → IsHistory c (tick ∷ ticks)) × (c.last ≡ tick)
BucketTaken tick None (Some c) = ⊥
BucketTaken tick (Some b) None = ⊥

abbrev pub PlaceTaken : Option Places → Option Places → Type 0
PlaceTaken None None = Unit {0}
PlaceTaken (Some p) (Some q) = (q.most ≡ p.most) × (q.opened ≡ p.opened + 1)
PlaceTaken None (Some q) = ⊥
PlaceTaken (Some p) None = ⊥

abbrev pub Took : ℕ → Option Instance → Option Instance → Type 0
Took tick None None = Unit {0}
Took tick (Some i) (Some k) = BucketTaken tick i.bucket k.bucket × PlaceTaken i.places k.places
Took tick None (Some k) = ⊥
Took tick (Some i) None = ⊥

abbrev pub Gave : Option Instance → Option Instance → Type 0
Gave None None = Unit {0}
Gave (Some i) (Some k) = (k.bucket ≡ i.bucket) × PlaceTaken k.places i.places
Gave None (Some k) = ⊥
Gave (Some i) None = ⊥

-- the instance of the call has changed so, and no other
pub record Changed (R : Option Instance → Option Instance → Type 0) (old new : Limited) : Type 0 where
  pub limiter : new.limiter ≡ old.limiter
  pub room : vec_capacity new.key ≡ vec_capacity old.key
  pub applies : new.applies ≡ old.applies
  pub key : new.key.items ≡ old.key.items
  pub here : old.applies ≡ true → R (held old.instances old.key.items) (held new.instances old.key.items)
  pub others : (key : List ℕ) → (old.applies ≡ true → key ≡ old.key.items → ⊥) → held new.instances key ≡ held old.instances key

-- after the return of a grant with these tags: the instance is looked at, and then given back to
abbrev pub Returned : TagList → Limited → Limited → Type 0
Returned tags old new =
    (mid : Limited) × Turned tags mid × (mid.limiter ≡ old.limiter) × (mid.instances ≡ old.instances) × (vec_capacity mid.key ≡ vec_capacity old.key) × Changed Gave mid new

-- an instance that nothing was taken from may have been made
pub record Kept (old new : Limited) : Type 0 where
  pub limiter : new.limiter ≡ old.limiter
  pub room : vec_capacity old.key ≤ vec_capacity new.key
  pub instances : (key : List ℕ) (last : ℕ) → (ticks : List ℕ) (count : ℕ) → IsLimiter old.limiter → Stands old.limiter ticks count last (held old.instances key) → Stands old.limiter ticks count last (held new.instances key)

-- what a limiter has where a grant with these tags is open
pub record MayReturn (tags : TagList) (s : Limited) : Type 0 where
  pub room : applies s.limiter tags ≡ true → length (key_of (scope_values s.limiter tags)) ≤ vec_capacity s.key
  pub given : applies s.limiter tags ≡ true → IfSome (held s.instances (key_of (scope_values s.limiter tags))) MayGive

-- ---- all limiters of a gate

abbrev pub limiters_of : List Limited → List Limiter
limiters_of limits = map (λ s. s.limiter) limits

abbrev pub view_of : List Limited → List Entry → GateView
view_of limits journal = record { limiters = limiters_of limits; journal = journal }

-- what a look at the instances of a call says
abbrev pub Looked : List Limited → ℕ → Result (Unit {0}) Wait → Type 0
Looked limits tick (Ok done) = (list_any full_now limits ≡ false) × AllByRecursion (TokenNow tick) limits
Looked limits tick (Err NoPlaces) = list_any full_now limits ≡ true
Looked limits tick (Err (Until u)) = (list_any full_now limits ≡ false) × (tick < u) × IsFirstFrom tick (λ n. AllByRecursion (TokenNow n) limits) u
Looked limits tick (Err Memory) = ⊥

-- the first n changed by R, and the others are as they were
abbrev pub First : (Limited → Limited → Type 0) → List Limited → List Limited → ℕ → Type 0
First R [] [] n = Unit {0}
First R (old ∷ olds) (new ∷ news) zero = (new ≡ old) × First R olds news zero
First R (old ∷ olds) (new ∷ news) (suc n) = R old new × First R olds news n
First R [] (new ∷ news) n = ⊥
First R (old ∷ olds) [] n = ⊥
