-- How one instance stands after a journal, and what it says of the next call.
use Rattle.std.specs.Prelude.{nat_le, Option, Some, None, is_some, unwrap_or, IsSome, IfSome}
use Rattle.std.proofs.Common.{◌≡◌, ℕ, ◌+◌, ◌<◌, ◌≤◌, ◌↔◌, Bool, true, false, true≢false, ◌&&◌, ◌||◌, List, [], ◌∷◌, ◌++◌, take, refl, sym, ap, subst, ◌∙◌, arith}
use Rattle.std.proofs.lemmas.Bool.Decides.{nat_tests}
use Rattle.std.proofs.lemmas.List.{take_all}
use Rattle.std.proofs.lemmas.Slice.Eq.{bytes_eq-Decides}
use Rattle.std.specs.Bool.{Decides}
use Rattle.std.specs.Str.{bytes_eq}
use Rattle.rate_bucket.specs.Windows.{Rate, Meter, KeepsWindows, MayGrant, HasToken as HasBucketToken}
use Rattle.rate_bucket.proofs.Excess.{law_at}
use Rattle.sp_model.specs.declared.settings.Limiter.{Limiter}
use Rattle.rate_gate.specs.declared.tag_list.TagList.{TagList}
use Rattle.rate_gate.specs.declared.entry.Entry.{Entry}
use Rattle.rate_gate.specs.declared.instance.Instance.{Instance}
use Rattle.rate_gate.specs.declared.instance.Places.{Places}
use Rattle.rate_gate.specs.declared.instances.Instances.{Instances}
use Rattle.rate_gate.specs.Held.{held}
use Rattle.rate_gate.specs.Journal.{open_count}
use Rattle.rate_gate.specs.Keys.{key_of, by_key}
use Rattle.rate_gate.specs.Limits.{applies, scope_values, rate_of, KeepsPlaces, reaches}
use Rattle.rate_gate.specs.Instances.{BucketStands, PlacesStand, Stands, BucketTaken, PlaceTaken, Took, Gave, MayGive, no_place, instance_full, BucketBefore, BucketToken}
use Rattle.rate_gate.proofs.Journals.{places_more}

pub and_true : (a b : Bool) → (a && b) ≡ true → (a ≡ true) × (b ≡ true)
and_true true true h = (refl, refl)
and_true true false h = absurd (true≢false (sym h))
and_true false b h = absurd (true≢false (sym h))

pub or_false : (a b : Bool) → (a || b) ≡ false → (a ≡ false) × (b ≡ false)
or_false false false h = (refl, refl)
or_false false true h = absurd (true≢false h)
or_false true b h = absurd (true≢false h)

not_le : (a b : ℕ) → nat_le a b ≡ false → b < a
not_le a b h = grind (arith, nat_tests)

some_number : (a b : ℕ) → Some a ≡ Some b → a ≡ b
some_number a b e = ap (λ (o : Option ℕ). unwrap_or o a) e

-- ---- which call a key is of

pub key_true : (l : Limiter) (key : List ℕ) (tags : TagList) → by_key l key tags ≡ true → (applies l tags ≡ true) × (key_of (scope_values l tags) ≡ key)
key_true l key tags h =
    let p = and_true (applies l tags) _ h in
    (p.0, (bytes_eq-Decides (key_of (scope_values l tags)) key).0 p.1)

pub key_is : (l : Limiter) (key : List ℕ) (tags : TagList) → applies l tags ≡ true → key ≡ key_of (scope_values l tags) → by_key l key tags ≡ true
key_is l key tags a e = rw a ((bytes_eq-Decides (key_of (scope_values l tags)) key).1 (sym e))

-- ---- later

bucket_later : (r : Option Rate) (b : Option Meter) (ticks : List ℕ) (last later : ℕ) → last ≤ later → BucketStands r b ticks last → BucketStands r b ticks later
bucket_later None None ticks last later le h = tt
bucket_later (Some r) (Some b) ticks last later le h = (h.0, h.1, omega (arith, h.2))
bucket_later None (Some b) ticks last later le h = absurd h
bucket_later (Some r) None ticks last later le h = absurd h

pub stands_later : (l : Limiter) (ticks : List ℕ) (count last later : ℕ) (o : Option Instance) → last ≤ later → Stands l ticks count last o → Stands l ticks count later o
stands_later l ticks count last later None le h = h
stands_later l ticks count last later (Some i) le h = (bucket_later (rate_of l) i.bucket ticks last later le h.0, h.1)

-- ---- a grant

bucket_taken : (r : Option Rate) (b c : Option Meter) (ticks : List ℕ) (last tick : ℕ) → BucketStands r b ticks last → BucketTaken tick b c → BucketStands r c (tick ∷ ticks) tick
bucket_taken None None None ticks last tick h t = tt
bucket_taken (Some r) (Some b) (Some c) ticks last tick h t = (t.0 ∙ h.0, t.1 ticks h.1, omega (arith, t.2))
bucket_taken None None (Some c) ticks last tick h t = absurd t
bucket_taken None (Some b) c ticks last tick h t = absurd h
bucket_taken (Some r) None c ticks last tick h t = absurd h
bucket_taken (Some r) (Some b) None ticks last tick h t = absurd t

place_taken : (m : Option ℕ) (p q : Option Places) (count : ℕ) → PlacesStand m p count → PlaceTaken p q → no_place p ≡ false → PlacesStand m q (1 + count)
place_taken None None None count h t free = tt
place_taken (Some most) (Some p) (Some q) count h t free = (t.0 ∙ h.0, omega (arith, t.1, h.1), omega (arith, not_le p.most p.opened free, h.0, h.1))
place_taken None None (Some q) count h t free = absurd t
place_taken None (Some p) q count h t free = absurd h
place_taken (Some most) None q count h t free = absurd h
place_taken (Some most) (Some p) None count h t free = absurd t

pub stands_taken : (l : Limiter) (ticks : List ℕ) (count last tick : ℕ) (o u : Option Instance) → IsSome o → instance_full o ≡ false → Stands l ticks count last o → Took tick o u → Stands l (tick ∷ ticks) (1 + count) tick u
stands_taken l ticks count last tick (Some i) (Some k) some free h t =
    (bucket_taken (rate_of l) i.bucket k.bucket ticks last tick h.0 t.0, place_taken l.max_concurrency i.places k.places count h.1 t.1 free)
stands_taken l ticks count last tick (Some i) None some free h t = absurd t
stands_taken l ticks count last tick None u some free h t = absurd (true≢false (sym some))

-- ---- a return

place_given : (m : Option ℕ) (p q : Option Places) (count left : ℕ) → PlacesStand m p count → PlaceTaken q p → left + 1 ≡ count → PlacesStand m q left
place_given None None None count left h t e = tt
place_given (Some most) (Some p) (Some q) count left h t e = (sym t.0 ∙ h.0, omega (arith, t.1, h.1, e), omega (arith, h.2, e))
place_given None None (Some q) count left h t e = absurd t
place_given None (Some p) q count left h t e = absurd h
place_given (Some most) None q count left h t e = absurd h
place_given (Some most) (Some p) None count left h t e = absurd t

pub stands_given : (l : Limiter) (ticks : List ℕ) (count left last tick : ℕ) (o u : Option Instance) → last ≤ tick → left + 1 ≡ count → Stands l ticks count last o → Gave o u → Stands l ticks left tick u
stands_given l ticks count left last tick (Some i) (Some k) le e h g =
    (subst (λ (b : Option Meter). BucketStands (rate_of l) b ticks tick) (sym g.0) (bucket_later (rate_of l) i.bucket ticks last tick le h.0), place_given l.max_concurrency i.places k.places count left h.1 g.1 e)
stands_given l ticks count left last tick None None le e h g = absurd (omega (arith, h.1, e))
stands_given l ticks count left last tick (Some i) None le e h g = absurd g
stands_given l ticks count left last tick None (Some k) le e h g = absurd g

may_give_places : (m : Option ℕ) (p : Option Places) (count : ℕ) → PlacesStand m p count → 0 < count → IfSome p (λ x. 0 < x.opened)
may_give_places None None count h pos = tt
may_give_places (Some most) (Some p) count h pos = omega (arith, h.1)
may_give_places None (Some p) count h pos = absurd h
may_give_places (Some most) None count h pos = absurd h

pub may_give : (l : Limiter) (ticks : List ℕ) (count last : ℕ) (o : Option Instance) → Stands l ticks count last o → 0 < count → IfSome o MayGive
may_give l ticks count last None h pos = tt
may_give l ticks count last (Some i) h pos = may_give_places l.max_concurrency i.places count h.1 pos

-- ---- the laws

most_of : (m : Option ℕ) (p : Option Places) (count most : ℕ) → m ≡ Some most → PlacesStand m p count → count ≤ most
most_of None p count most e h = absurd (true≢false (sym (ap is_some e)))
most_of (Some x) (Some p) count most e h = omega (arith, some_number x most e, h.2)
most_of (Some x) None count most e h = absurd h

stands_most : (l : Limiter) (ticks : List ℕ) (count last most : ℕ) (o : Option Instance) → l.max_concurrency ≡ Some most → Stands l ticks count last o → count ≤ most
stands_most l ticks count last most None e h = omega (arith, h.1)
stands_most l ticks count last most (Some i) e h = most_of l.max_concurrency i.places count most e h.1

-- each prefix keeps the places after one more entry, where the instance stands so
pub keeps_more : (l : Limiter) (passes : TagList → Bool) (j : List Entry) (e : Entry) (ticks : List ℕ) (last : ℕ) (o : Option Instance) (m : Option ℕ) → l.max_concurrency ≡ m
    → IfSome m (λ most. KeepsPlaces passes most j) → Stands l ticks (open_count passes (j ++ e ∷ [])) last o → IfSome m (λ most. KeepsPlaces passes most (j ++ e ∷ []))
keeps_more l passes j e ticks last o None is h st = tt
keeps_more l passes j e ticks last o (Some most) is h st = places_more passes most j e h (stands_most l ticks (open_count passes (j ++ e ∷ [])) last most o is st)

windows_of : (r : Option Rate) (b : Option Meter) (ticks : List ℕ) (last : ℕ) → BucketStands r b ticks last → IfSome r (λ x. KeepsWindows x ticks)
windows_of None None ticks last h = tt
windows_of (Some r) (Some b) ticks last h = subst (λ (x : Rate). KeepsWindows x ticks) h.0 h.1.law
windows_of None (Some b) ticks last h = absurd h
windows_of (Some r) None ticks last h = absurd h

no_windows : (r : Option Rate) → IfSome r (λ x. KeepsWindows x [])
no_windows None = tt
no_windows (Some r) = λ s t st. omega arith

pub stands_windows : (l : Limiter) (ticks : List ℕ) (count last : ℕ) (o : Option Instance) → Stands l ticks count last o → IfSome (rate_of l) (λ r. KeepsWindows r ticks)
stands_windows l ticks count last None h = subst (λ (ts : List ℕ). IfSome (rate_of l) (λ r. KeepsWindows r ts)) (sym h.0) (no_windows (rate_of l))
stands_windows l ticks count last (Some i) h = windows_of (rate_of l) i.bucket ticks last h.0

-- ---- the next call

places_full : (m : Option ℕ) (p : Option Places) (count : ℕ) → PlacesStand m p count → no_place p ≡ reaches m count
places_full None None count h = refl
places_full (Some most) (Some p) count h = rw (h.0, h.1) refl
places_full None (Some p) count h = absurd h
places_full (Some most) None count h = absurd h

pub stands_full : (l : Limiter) (ticks : List ℕ) (count last : ℕ) (o : Option Instance) → IsSome o → Stands l ticks count last o → instance_full o ≡ reaches l.max_concurrency count
stands_full l ticks count last None some h = absurd (true≢false (sym some))
stands_full l ticks count last (Some i) some h = places_full l.max_concurrency i.places count h.1

token_of : (r : Option Rate) (b : Option Meter) (ticks : List ℕ) (last u : ℕ) → last ≤ u → IfSome r (λ x. (1 ≤ x.size) × (1 ≤ x.fill) × (1 ≤ x.per)) → BucketStands r b ticks last
    → IfSome b (λ x. HasBucketToken x u) ↔ IfSome r (λ x. MayGrant x ticks u)
token_of None None ticks last u le ok h = (λ _. tt, λ _. tt)
token_of (Some r) (Some b) ticks last u le ok h =
    let size : 1 ≤ b.rate.size = subst (λ (x : Rate). 1 ≤ x.size) (sym h.0) ok.0 in
    let per : 0 < b.rate.per = subst (λ (x : Rate). 0 < x.per) (sym h.0) ok.2 in
    let law = law_at b ticks u h.1 (omega (arith, h.2)) size per in
    (λ t. subst (λ (x : Rate). MayGrant x ticks u) h.0 (law.1 t), λ g. law.0 (subst (λ (x : Rate). MayGrant x ticks u) (sym h.0) g))
token_of None (Some b) ticks last u le ok h = absurd h
token_of (Some r) None ticks last u le ok h = absurd h

pub stands_token : (l : Limiter) (ticks : List ℕ) (count last u : ℕ) (o : Option Instance) → last ≤ u → IfSome (rate_of l) (λ x. (1 ≤ x.size) × (1 ≤ x.fill) × (1 ≤ x.per)) → IsSome o
    → Stands l ticks count last o → IfSome o (BucketToken u) ↔ IfSome (rate_of l) (λ r. MayGrant r ticks u)
stands_token l ticks count last u None le ok some h = absurd (true≢false (sym some))
stands_token l ticks count last u (Some i) le ok some h = token_of (rate_of l) i.bucket ticks last u le ok h.0

before_of : (r : Option Rate) (b : Option Meter) (ticks : List ℕ) (last tick : ℕ) → last ≤ tick → BucketStands r b ticks last → IfSome b (λ x. x.last ≤ tick)
before_of None None ticks last tick le h = tt
before_of (Some r) (Some b) ticks last tick le h = omega (arith, h.2)
before_of None (Some b) ticks last tick le h = absurd h
before_of (Some r) None ticks last tick le h = absurd h

pub stands_before : (l : Limiter) (ticks : List ℕ) (count last tick : ℕ) (o : Option Instance) → last ≤ tick → Stands l ticks count last o → IfSome o (BucketBefore tick)
stands_before l ticks count last tick None le h = tt
stands_before l ticks count last tick (Some i) le h = before_of (rate_of l) i.bucket ticks last tick le h.0

-- ---- an instance that is made

no_grants : (l : Limiter) (ticks : List ℕ) (count last : ℕ) (i : Instance) → Stands l [] 0 last (Some i) → Stands l ticks count last None → Stands l ticks count last (Some i)
no_grants l ticks count last i fresh h =
    subst (λ (ts : List ℕ). Stands l ts count last (Some i)) (sym h.0) (subst (λ (n : ℕ). Stands l [] n last (Some i)) (sym h.1) fresh)

-- the instance under one key was made, and the others are as they were
pub stands_made : (l : Limiter) (old new : Instances) (at : List ℕ) (i : Instance) → held old at ≡ None → held new at ≡ Some i → ((other : List ℕ) → (other ≡ at → ⊥) → held new other ≡ held old other)
    → ((last : ℕ) → Stands l [] 0 last (Some i)) → (key : List ℕ) (last : ℕ) (ticks : List ℕ) (count : ℕ) → Stands l ticks count last (held old key) → Stands l ticks count last (held new key)
stands_made l old new at i none some others fresh key last ticks count st = made_case l old new at i none some others fresh key last ticks count st (bytes_eq key at) (bytes_eq-Decides key at)
  where
    made_case : (l : Limiter) (old new : Instances) (at : List ℕ) (i : Instance) → held old at ≡ None → held new at ≡ Some i → ((other : List ℕ) → (other ≡ at → ⊥) → held new other ≡ held old other)
        → ((last : ℕ) → Stands l [] 0 last (Some i)) → (key : List ℕ) (last : ℕ) (ticks : List ℕ) (count : ℕ) → Stands l ticks count last (held old key) → (b : Bool) → Decides b (key ≡ at)
        → Stands l ticks count last (held new key)
    made_case l old new at i none some others fresh key last ticks count st true d =
        let same = d.0 refl in
        let here : Stands l ticks count last None = subst (λ (o : Option Instance). Stands l ticks count last o) none (subst (λ (k : List ℕ). Stands l ticks count last (held old k)) same st) in
        subst (λ (k : List ℕ). Stands l ticks count last (held new k)) (sym same)
        (subst (λ (o : Option Instance). Stands l ticks count last o) (sym some) (no_grants l ticks count last i (fresh last) here))
    made_case l old new at i none some others fresh key last ticks count st false d =
        subst (λ (o : Option Instance). Stands l ticks count last o) (sym (others key (λ e. true≢false (sym (d.1 e))))) st

-- an empty journal keeps all places
pub no_entries : (m : Option ℕ) (passes : TagList → Bool) → IfSome m (λ most. KeepsPlaces passes most [])
no_entries None passes = tt
no_entries (Some most) passes = λ n. none_open passes most n
  where
    none_open : (passes : TagList → Bool) (most n : ℕ) → open_count passes (take n []) ≤ most
    none_open passes most n = subst (λ (xs : List Entry). open_count passes xs ≤ most) (sym (take_all n [] (omega arith))) (omega arith)
