-- Limiters after a grant, and what they say of a call that asks.
use Rattle.std.specs.Prelude.{Option, IsSome, IfSome}
use Rattle.std.proofs.Common.{◌≡◌, ℕ, ◌+◌, ◌≤◌, ◌↔◌, Bool, true, false, true≢false, ◌&&◌, List, [], ◌∷◌, ◌++◌, length, refl, sym, ap, subst, ◌∙◌, arith, cond}
use Rattle.std.specs.List.{AllByRecursion, list_any}
use Rattle.std.specs.Vec.{vec_capacity}
use Rattle.rate_bucket.specs.Windows.{MayGrant}
use Rattle.sp_model.specs.declared.settings.Limiter.{Limiter}
use Rattle.rate_gate.specs.declared.tag_list.TagList.{TagList}
use Rattle.rate_gate.specs.declared.entry.Entry.{Entry}
use Rattle.rate_gate.specs.declared.entry.Entry.TheVariants.{Grant}
use Rattle.rate_gate.specs.declared.instance.Instance.{Instance}
use Rattle.rate_gate.specs.declared.instances.Instances.{Instances}
use Rattle.rate_gate.specs.declared.limited.Limited.{Limited}
use Rattle.rate_gate.specs.Journal.{next_open, next_ticks, tick_of, count_passing, open_grants, open_count, grant_ticks, last_tick}
use Rattle.rate_gate.specs.Held.{held}
use Rattle.rate_gate.specs.Keys.{key_of, by_key}
use Rattle.rate_gate.specs.Limits.{applies, scope_values, rate_of, IsLimiter, KeepsPlaces, KeepsLimit, in_instance, reaches, is_full, HasToken}
use Rattle.rate_gate.specs.Instances.{Stands, HasRoom, Fits, Turned, Ready, if_applies, instance_full, full_now, BucketToken, BucketBefore, Before, TokenNow, Took, Changed, Kept, First, limiters_of}
use Rattle.rate_gate.proofs.Journals.{replay_more}
use Rattle.rate_gate.proofs.KeyLemmas.{by_values}
use Rattle.rate_gate.proofs.Standing.{or_false, key_true, key_is, stands_later, stands_taken, keeps_more, stands_windows, stands_full, stands_token, stands_before}

ticks_granted : (passes : TagList → Bool) (j : List Entry) (number tick : ℕ) (tags : TagList)
    → grant_ticks passes (j ++ Grant number tags tick ∷ []) ≡ cond (passes tags) (tick ∷ grant_ticks passes j) (grant_ticks passes j)
ticks_granted passes j number tick tags = replay_more (next_ticks passes) [] j (Grant number tags tick)

count_granted : (passes : TagList → Bool) (j : List Entry) (number tick : ℕ) (tags : TagList)
    → open_count passes (j ++ Grant number tags tick ∷ []) ≡ cond (passes tags) 1 0 + open_count passes j
count_granted passes j number tick tags = ap (count_passing passes) (replay_more next_open [] j (Grant number tags tick))

last_granted : (j : List Entry) (number tick : ℕ) (tags : TagList) → last_tick (j ++ Grant number tags tick ∷ []) ≡ tick
last_granted j number tick tags = replay_more tick_of 0 j (Grant number tags tick)

-- ---- one limiter after a grant

-- the instance of the call was taken from
taken_here : (s t : Limited) (tags : TagList) (tick last count : ℕ) (ticks key : List ℕ) → Ready tags s → full_now s ≡ false → Changed (Took tick) s t → by_key s.limiter key tags ≡ true
    → Stands s.limiter ticks count last (held s.instances key) → Stands s.limiter (tick ∷ ticks) (1 + count) tick (held t.instances key)
taken_here s t tags tick last count ticks key ready free ch b st =
    let k = key_true s.limiter key tags b in
    let on : s.applies ≡ true = ready.turned.applies ∙ k.0 in
    let at : s.key.items ≡ key = ready.turned.key on ∙ k.1 in
    let some : IsSome (held s.instances key) = subst (λ (x : List ℕ). IsSome (held s.instances x)) at (ready.made on) in
    let took : Took tick (held s.instances key) (held t.instances key) = subst (λ (x : List ℕ). Took tick (held s.instances x) (held t.instances x)) at (ch.here on) in
    let open_ : instance_full (held s.instances key) ≡ false =
    subst (λ (x : List ℕ). instance_full (held s.instances x) ≡ false) at (subst (λ (a : Bool). instance_full (if_applies a (held s.instances s.key.items)) ≡ false) on free) in
    stands_taken s.limiter ticks count last tick (held s.instances key) (held t.instances key) some open_ st took

-- another instance is as it was
pub kept_apart : (R : Option Instance → Option Instance → Type 0) (s t m : Limited) (tags : TagList) (key : List ℕ) → m.limiter ≡ s.limiter → Turned tags m → Changed R m t → by_key s.limiter key tags ≡ false
    → held t.instances key ≡ held m.instances key
kept_apart R s t m tags key same turned ch b =
    ch.others key
    (λ on at.
    (let a : applies s.limiter tags ≡ true = subst (λ (l : Limiter). applies l tags ≡ true) same (sym turned.applies ∙ on) in
    let k : key ≡ key_of (scope_values s.limiter tags) = subst (λ (l : Limiter). key ≡ key_of (scope_values l tags)) same (at ∙ turned.key on) in
    true≢false (sym (key_is s.limiter key tags a k) ∙ b)))

stands_granted : (s t : Limited) (tags : TagList) (tick last count : ℕ) (ticks key : List ℕ) → Ready tags s → full_now s ≡ false → last ≤ tick → Changed (Took tick) s t
    → Stands s.limiter ticks count last (held s.instances key) → (b : Bool) → by_key s.limiter key tags ≡ b
    → Stands s.limiter (cond b (tick ∷ ticks) ticks) (cond b 1 0 + count) tick (held t.instances key)
stands_granted s t tags tick last count ticks key ready free le ch st true b = taken_here s t tags tick last count ticks key ready free ch b st
stands_granted s t tags tick last count ticks key ready free le ch st false b =
    let zero_more : count ≡ 0 + count = omega arith in
    subst (λ (n : ℕ). Stands s.limiter ticks n tick (held t.instances key)) zero_more
    (subst (λ (o : Option Instance). Stands s.limiter ticks count tick o) (sym (kept_apart (Took tick) s t s tags key refl ready.turned ch b))
    (stands_later s.limiter ticks count last tick (held s.instances key) le st))

-- the same, over the journal with the grant
granted_at : (j : List Entry) (number tick : ℕ) (tags : TagList) (s t : Limited) (key : List ℕ) → Fits j s → Ready tags s → full_now s ≡ false → last_tick j ≤ tick → Changed (Took tick) s t
    → Stands s.limiter (grant_ticks (by_key s.limiter key) (j ++ Grant number tags tick ∷ [])) (open_count (by_key s.limiter key) (j ++ Grant number tags tick ∷ []))
    (last_tick (j ++ Grant number tags tick ∷ [])) (held t.instances key)
granted_at j number tick tags s t key h ready free le ch =
    rw (ticks_granted (by_key s.limiter key) j number tick tags, count_granted (by_key s.limiter key) j number tick tags, last_granted j number tick tags)
    (stands_granted s t tags tick (last_tick j) (open_count (by_key s.limiter key) j) (grant_ticks (by_key s.limiter key) j) key ready free le ch (h.stands key) (by_key s.limiter key tags) refl)

pub all_room : (l : Limiter) (room : ℕ) (gs : List (ℕ × TagList)) (more : ℕ) → room ≤ more → AllByRecursion (HasRoom l room) gs → AllByRecursion (HasRoom l more) gs
all_room l room [] more le h = tt
all_room l room (g ∷ gs) more le h = (λ a. (let here = h.0 a in omega arith), all_room l room gs more le h.1)

-- a fact on a limiter, read of one that has the same settings
pub read_of : (P : Limiter → Type 0) (s t : Limited) → t.limiter ≡ s.limiter → P s.limiter → P t.limiter
read_of P s t same p = subst P (sym same) p

pub fits_granted : (j : List Entry) (number tick : ℕ) (tags : TagList) (s t : Limited) → Fits j s → Ready tags s → full_now s ≡ false → last_tick j ≤ tick → Changed (Took tick) s t
    → Fits (j ++ Grant number tags tick ∷ []) t
fits_granted j number tick tags s t h ready free le ch =
    let after = j ++ Grant number tags tick ∷ [] in
    record {
      limiter = read_of IsLimiter s t ch.limiter h.limiter;
      places = λ key. read_of (λ l. IfSome l.max_concurrency (λ most. KeepsPlaces (by_key l key) most after)) s t ch.limiter
          (keeps_more s.limiter (by_key s.limiter key) j (Grant number tags tick) _ _ (held t.instances key) s.limiter.max_concurrency refl (h.places key)
          (granted_at j number tick tags s t key h ready free le ch));
      stands = λ key. read_of (λ l. Stands l (grant_ticks (by_key l key) after) (open_count (by_key l key) after) (last_tick after) (held t.instances key)) s t ch.limiter
          (granted_at j number tick tags s t key h ready free le ch);
      room = read_of (λ l. AllByRecursion (HasRoom l (vec_capacity t.key)) (open_grants after)) s t ch.limiter
          (subst (λ (gs : List (ℕ × TagList)). AllByRecursion (HasRoom s.limiter (vec_capacity t.key)) gs) (sym (replay_more next_open [] j (Grant number tags tick))) (
            λ a. (let r = ready.room (ready.turned.applies ∙ a) in let c = ch.room in omega arith),
            all_room s.limiter (vec_capacity s.key) (open_grants j) (vec_capacity t.key) (let c = ch.room in omega arith) h.room,
          ));
    }

pub all_granted : (j : List Entry) (number tick : ℕ) (tags : TagList) (ss ts : List Limited) → AllByRecursion (Fits j) ss → AllByRecursion (Ready tags) ss → list_any full_now ss ≡ false
    → last_tick j ≤ tick → First (Changed (Took tick)) ss ts (length ss) → AllByRecursion (Fits (j ++ Grant number tags tick ∷ [])) ts
all_granted j number tick tags [] [] h ready free le ch = tt
all_granted j number tick tags (s ∷ ss) (t ∷ ts) h ready free le ch =
    let f = or_false (full_now s) (list_any full_now ss) free in
    (fits_granted j number tick tags s t h.0 ready.0 f.0 le ch.0, all_granted j number tick tags ss ts h.1 ready.1 f.1 le ch.1)
all_granted j number tick tags [] (t ∷ ts) h ready free le ch = absurd ch
all_granted j number tick tags (s ∷ ss) [] h ready free le ch = absurd ch

pub limiters_changed : (R : Option Instance → Option Instance → Type 0) (ss ts : List Limited) → First (Changed R) ss ts (length ss) → limiters_of ts ≡ limiters_of ss
limiters_changed R [] [] ch = refl
limiters_changed R (s ∷ ss) (t ∷ ts) ch = rw (ch.0.limiter, limiters_changed R ss ts ch.1) refl
limiters_changed R [] (t ∷ ts) ch = absurd ch
limiters_changed R (s ∷ ss) [] ch = absurd ch

-- ---- what may have been made

fits_kept : (j : List Entry) (s t : Limited) → Fits j s → Kept s t → Fits j t
fits_kept j s t h k =
    record {
      limiter = read_of IsLimiter s t k.limiter h.limiter;
      places = λ key. read_of (λ l. IfSome l.max_concurrency (λ most. KeepsPlaces (by_key l key) most j)) s t k.limiter (h.places key);
      stands = λ key. read_of (λ l. Stands l (grant_ticks (by_key l key) j) (open_count (by_key l key) j) (last_tick j) (held t.instances key)) s t k.limiter
          (k.instances key (last_tick j) (grant_ticks (by_key s.limiter key) j) (open_count (by_key s.limiter key) j) h.limiter (h.stands key));
      room = read_of (λ l. AllByRecursion (HasRoom l (vec_capacity t.key)) (open_grants j)) s t k.limiter (all_room s.limiter (vec_capacity s.key) (open_grants j) (vec_capacity t.key) k.room h.room);
    }

pub all_kept : (j : List Entry) (ss ts : List Limited) → AllByRecursion (Fits j) ss → First Kept ss ts (length ss) → AllByRecursion (Fits j) ts
all_kept j [] [] h k = tt
all_kept j (s ∷ ss) (t ∷ ts) h k = (fits_kept j s t h.0 k.0, all_kept j ss ts h.1 k.1)
all_kept j [] (t ∷ ts) h k = absurd k
all_kept j (s ∷ ss) [] h k = absurd k

pub limiters_kept : (ss ts : List Limited) → First Kept ss ts (length ss) → limiters_of ts ≡ limiters_of ss
limiters_kept [] [] k = refl
limiters_kept (s ∷ ss) (t ∷ ts) k = rw (k.0.limiter, limiters_kept ss ts k.1) refl
limiters_kept [] (t ∷ ts) k = absurd k
limiters_kept (s ∷ ss) [] k = absurd k

-- ---- what a call is told

-- the words on the call's instance, by its key
is_full_at : (tags : TagList) (j : List Entry) (l : Limiter) → is_full tags j l ≡ (applies l tags && reaches l.max_concurrency (open_count (by_key l (key_of (scope_values l tags))) j))
is_full_at tags j l = ap (λ (p : TagList → Bool). applies l tags && reaches l.max_concurrency (open_count p j)) (by_values l (scope_values l tags))

full_is : (j : List Entry) (tags : TagList) (s : Limited) → Fits j s → Ready tags s → (b : Bool) → applies s.limiter tags ≡ b → full_now s ≡ is_full tags j s.limiter
full_is j tags s h ready true a =
    let on : s.applies ≡ true = ready.turned.applies ∙ a in
    let at = ready.turned.key on in
    let some = ready.made on in
    let st = stands_full s.limiter _ _ _ (held s.instances s.key.items) some (h.stands s.key.items) in
    rw (is_full_at tags j s.limiter, a, on, ← at) st
full_is j tags s h ready false a =
    let off : s.applies ≡ false = ready.turned.applies ∙ a in
    rw (is_full_at tags j s.limiter, a, off) refl

pub any_full_is : (j : List Entry) (tags : TagList) (ss : List Limited) → AllByRecursion (Fits j) ss → AllByRecursion (Ready tags) ss → list_any full_now ss ≡ list_any (is_full tags j) (limiters_of ss)
any_full_is j tags [] h ready = refl
any_full_is j tags (s ∷ ss) h ready = rw (full_is j tags s h.0 ready.0 (applies s.limiter tags) refl, any_full_is j tags ss h.1 ready.1) refl

token_is : (j : List Entry) (tags : TagList) (u : ℕ) (s : Limited) → last_tick j ≤ u → Fits j s → Ready tags s → (b : Bool) → applies s.limiter tags ≡ b → TokenNow u s ↔ HasToken tags j u s.limiter
token_is j tags u s le h ready true a =
    let on : s.applies ≡ true = ready.turned.applies ∙ a in
    let at = ready.turned.key on in
    let st = stands_token s.limiter _ _ _ u (held s.instances s.key.items) le h.limiter (ready.made on) (h.stands s.key.items) in
    let same : by_key s.limiter s.key.items ≡ in_instance s.limiter (scope_values s.limiter tags) =
    ap (λ (k : List ℕ). by_key s.limiter k) at ∙ sym (by_values s.limiter (scope_values s.limiter tags)) in
    let here : IfSome (held s.instances s.key.items) (BucketToken u) ↔ IfSome (rate_of s.limiter) (λ r. MayGrant r (grant_ticks (in_instance s.limiter (scope_values s.limiter tags)) j) u) =
    subst (λ (p : TagList → Bool). IfSome (held s.instances s.key.items) (BucketToken u) ↔ IfSome (rate_of s.limiter) (λ r. MayGrant r (grant_ticks p j) u)) same st in (
      λ t _. here.0 (subst (λ (x : Bool). IfSome (if_applies x (held s.instances s.key.items)) (BucketToken u)) on t),
      λ g. subst (λ (x : Bool). IfSome (if_applies x (held s.instances s.key.items)) (BucketToken u)) (sym on) (here.1 (g a)),
    )
token_is j tags u s le h ready false a =
    let off : s.applies ≡ false = ready.turned.applies ∙ a in
    (λ t on. absurd (true≢false (sym on ∙ a)), λ g. subst (λ (x : Bool). IfSome (if_applies x (held s.instances s.key.items)) (BucketToken u)) (sym off) tt)

pub tokens_are : (j : List Entry) (tags : TagList) (u : ℕ) (ss : List Limited) → last_tick j ≤ u → AllByRecursion (Fits j) ss → AllByRecursion (Ready tags) ss
    → AllByRecursion (TokenNow u) ss ↔ AllByRecursion (HasToken tags j u) (limiters_of ss)
tokens_are j tags u [] le h ready = (λ _. tt, λ _. tt)
tokens_are j tags u (s ∷ ss) le h ready =
    let here = token_is j tags u s le h.0 ready.0 (applies s.limiter tags) refl in
    let rest = tokens_are j tags u ss le h.1 ready.1 in
    (λ t. (here.0 t.0, rest.0 t.1), λ g. (here.1 g.0, rest.1 g.1))

before_is : (j : List Entry) (tick : ℕ) (s : Limited) → last_tick j ≤ tick → Fits j s → (b : Bool) → s.applies ≡ b → Before tick s
before_is j tick s le h true on =
    subst (λ (x : Bool). IfSome (if_applies x (held s.instances s.key.items)) (BucketBefore tick)) (sym on) (stands_before s.limiter _ _ _ tick (held s.instances s.key.items) le (h.stands s.key.items))
before_is j tick s le h false off = subst (λ (x : Bool). IfSome (if_applies x (held s.instances s.key.items)) (BucketBefore tick)) (sym off) tt

pub all_before : (j : List Entry) (tick : ℕ) (ss : List Limited) → last_tick j ≤ tick → AllByRecursion (Fits j) ss → AllByRecursion (Before tick) ss
all_before j tick [] le h = tt
all_before j tick (s ∷ ss) le h = (before_is j tick s le h.0 s.applies refl, all_before j tick ss le h.1)

pub all_limiters : (j : List Entry) (ss : List Limited) → AllByRecursion (Fits j) ss → AllByRecursion (λ s. IsLimiter s.limiter) ss
all_limiters j [] h = tt
all_limiters j (s ∷ ss) h = (h.0.limiter, all_limiters j ss h.1)

-- ---- the laws of each instance

fits_keeps : (j : List Entry) (s : Limited) (values : List (List ℕ)) → Fits j s → KeepsLimit s.limiter (in_instance s.limiter values) j
fits_keeps j s values h =
    subst (λ (p : TagList → Bool). KeepsLimit s.limiter p j) (sym (by_values s.limiter values))
    (record { windows = stands_windows s.limiter _ _ _ (held s.instances (key_of values)) (h.stands (key_of values)); places = h.places (key_of values) })

pub all_keep : (j : List Entry) (ss : List Limited) → AllByRecursion (Fits j) ss → AllByRecursion (λ l. (values : List (List ℕ)) → KeepsLimit l (in_instance l values) j) (limiters_of ss)
all_keep j [] h = tt
all_keep j (s ∷ ss) h = (λ values. fits_keeps j s values h.0, all_keep j ss h.1)

pub kept_self : (s : Limited) → Kept s s
kept_self s = record { limiter = refl; room = omega arith; instances = λ key last ticks count ok st. st }

pub all_free : (ss : List Limited) → list_any full_now ss ≡ false → AllByRecursion (λ s. full_now s ≡ false) ss
all_free [] h = tt
all_free (s ∷ ss) h = let f = or_false (full_now s) (list_any full_now ss) h in (f.0, all_free ss f.1)

-- instances were made after the instance of a call was looked at
pub kept_after : (s m t : Limited) → m.limiter ≡ s.limiter → m.instances ≡ s.instances → vec_capacity s.key ≤ vec_capacity m.key → Kept m t → Kept s t
kept_after s m t limiter instances room k =
    record {
      limiter = k.limiter ∙ limiter;
      room = (let a = k.room in omega arith);
      instances = λ key last ticks count ok st.
          (let here : Stands m.limiter ticks count last (held m.instances key) =
          subst (λ (l : Limiter). Stands l ticks count last (held m.instances key)) (sym limiter)
          (subst (λ (i : Instances). Stands s.limiter ticks count last (held i key)) (sym instances) st) in
          subst (λ (l : Limiter). Stands l ticks count last (held t.instances key)) limiter (k.instances key last ticks count (subst IsLimiter (sym limiter) ok) here));
    }
