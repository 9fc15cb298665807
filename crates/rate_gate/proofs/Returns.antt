-- Limiters after a return.
use Rattle.std.specs.Prelude.{Option, IfSome}
use Rattle.std.proofs.Common.{◌≡◌, ℕ, ◌+◌, ◌≤◌, Bool, true, false, List, [], ◌∷◌, ◌++◌, length, refl, sym, ap, subst, ◌∙◌, arith, cond}
use Rattle.std.specs.List.{AllByRecursion}
use Rattle.std.specs.Vec.{vec_capacity}
use Rattle.sp_model.specs.declared.settings.Limiter.{Limiter}
use Rattle.rate_gate.specs.declared.tag_list.TagList.{TagList}
use Rattle.rate_gate.specs.declared.entry.Entry.{Entry}
use Rattle.rate_gate.specs.declared.entry.Entry.TheVariants.{Return}
use Rattle.rate_gate.specs.declared.instance.Instance.{Instance}
use Rattle.rate_gate.specs.declared.instances.Instances.{Instances}
use Rattle.rate_gate.specs.declared.limited.Limited.{Limited}
use Rattle.rate_gate.specs.Journal.{next_open, next_ticks, tick_of, without, count_passing, open_grants, open_count, grant_ticks, last_tick, IsOpen}
use Rattle.rate_gate.specs.Held.{held}
use Rattle.rate_gate.specs.Keys.{key_of, by_key}
use Rattle.rate_gate.specs.Limits.{applies, scope_values, IsLimiter, KeepsPlaces}
use Rattle.rate_gate.specs.Instances.{Stands, HasRoom, Fits, Turned, Gave, Changed, Returned, MayReturn, First, limiters_of}
use Rattle.rate_gate.proofs.Journals.{replay_more, count_without, all_without, all_under}
use Rattle.rate_gate.proofs.Standing.{key_true, key_is, stands_later, stands_given, keeps_more, may_give}
use Rattle.rate_gate.proofs.Grants.{kept_apart, read_of, all_room}

ticks_returned : (passes : TagList → Bool) (j : List Entry) (number tick : ℕ) (sent : Bool) → grant_ticks passes (j ++ Return number tick sent ∷ []) ≡ grant_ticks passes j
ticks_returned passes j number tick sent = replay_more (next_ticks passes) [] j (Return number tick sent)

last_returned : (j : List Entry) (number tick : ℕ) (sent : Bool) → last_tick (j ++ Return number tick sent ∷ []) ≡ tick
last_returned j number tick sent = replay_more tick_of 0 j (Return number tick sent)

open_returned : (j : List Entry) (number tick : ℕ) (sent : Bool) → open_grants (j ++ Return number tick sent ∷ []) ≡ without number (open_grants j)
open_returned j number tick sent = replay_more next_open [] j (Return number tick sent)

count_returned : (passes : TagList → Bool) (j : List Entry) (number tick : ℕ) (sent : Bool) (tags : TagList) → IsOpen j number tags
    → open_count passes j ≡ open_count passes (j ++ Return number tick sent ∷ []) + cond (passes tags) 1 0
count_returned passes j number tick sent tags o = rw (open_returned j number tick sent) (count_without passes number tags (open_grants j) o)

stands_returned : (s m t : Limited) (tags : TagList) (tick last count left : ℕ) (ticks key : List ℕ) → last ≤ tick → Turned tags m → m.limiter ≡ s.limiter → m.instances ≡ s.instances → Changed Gave m t
    → Stands s.limiter ticks count last (held s.instances key) → (b : Bool) → by_key s.limiter key tags ≡ b → count ≡ left + cond b 1 0
    → Stands s.limiter ticks left tick (held t.instances key)
stands_returned s m t tags tick last count left ticks key le turned same inst ch st true b e =
    let k = key_true s.limiter key tags b in
    let on : m.applies ≡ true = turned.applies ∙ subst (λ (l : Limiter). applies l tags ≡ true) (sym same) k.0 in
    let at : m.key.items ≡ key = turned.key on ∙ subst (λ (l : Limiter). key_of (scope_values l tags) ≡ key) (sym same) k.1 in
    let gave : Gave (held m.instances key) (held t.instances key) = subst (λ (x : List ℕ). Gave (held m.instances x) (held t.instances x)) at (ch.here on) in
    let gave_here : Gave (held s.instances key) (held t.instances key) = subst (λ (f : Instances). Gave (held f key) (held t.instances key)) inst gave in
    stands_given s.limiter ticks count left last tick (held s.instances key) (held t.instances key) le (sym e) st gave_here
stands_returned s m t tags tick last count left ticks key le turned same inst ch st false b e =
    let apart : held t.instances key ≡ held s.instances key = kept_apart Gave s t m tags key same turned ch b ∙ ap (λ (f : Instances). held f key) inst in
    let left_is : left ≡ count = omega (arith, e) in
    subst (λ (o : Option Instance). Stands s.limiter ticks left tick o) (sym apart)
    (subst (λ (n : ℕ). Stands s.limiter ticks n tick (held s.instances key)) (sym left_is) (stands_later s.limiter ticks count last tick (held s.instances key) le st))

returned_at : (j : List Entry) (number tick : ℕ) (sent : Bool) (tags : TagList) (s t : Limited) (key : List ℕ) → Fits j s → IsOpen j number tags → last_tick j ≤ tick → Returned tags s t
    → Stands s.limiter (grant_ticks (by_key s.limiter key) (j ++ Return number tick sent ∷ [])) (open_count (by_key s.limiter key) (j ++ Return number tick sent ∷ []))
    (last_tick (j ++ Return number tick sent ∷ [])) (held t.instances key)
returned_at j number tick sent tags s t key h o le r =
    rw (ticks_returned (by_key s.limiter key) j number tick sent, last_returned j number tick sent)
    (stands_returned s r.0 t tags tick (last_tick j) (open_count (by_key s.limiter key) j) (open_count (by_key s.limiter key) (j ++ Return number tick sent ∷ [])) (grant_ticks (by_key s.limiter key) j) key le
    r.1 r.2 r.3 r.5 (h.stands key) (by_key s.limiter key tags) refl (count_returned (by_key s.limiter key) j number tick sent tags o))

pub fits_returned : (j : List Entry) (number tick : ℕ) (sent : Bool) (tags : TagList) (s t : Limited) → Fits j s → IsOpen j number tags → last_tick j ≤ tick → Returned tags s t
    → Fits (j ++ Return number tick sent ∷ []) t
fits_returned j number tick sent tags s t h o le r =
    let after = j ++ Return number tick sent ∷ [] in
    let same : t.limiter ≡ s.limiter = r.5.limiter ∙ r.2 in
    let room : vec_capacity t.key ≡ vec_capacity s.key = r.5.room ∙ r.4 in
    record {
      limiter = read_of IsLimiter s t same h.limiter;
      places = λ key. read_of (λ l. IfSome l.max_concurrency (λ most. KeepsPlaces (by_key l key) most after)) s t same
          (keeps_more s.limiter (by_key s.limiter key) j (Return number tick sent) _ _ (held t.instances key) s.limiter.max_concurrency refl (h.places key)
          (returned_at j number tick sent tags s t key h o le r));
      stands = λ key. read_of (λ l. Stands l (grant_ticks (by_key l key) after) (open_count (by_key l key) after) (last_tick after) (held t.instances key)) s t same
          (returned_at j number tick sent tags s t key h o le r);
      room = read_of (λ l. AllByRecursion (HasRoom l (vec_capacity t.key)) (open_grants after)) s t same
          (subst (λ (gs : List (ℕ × TagList)). AllByRecursion (HasRoom s.limiter (vec_capacity t.key)) gs) (sym (open_returned j number tick sent))
          (all_without (HasRoom s.limiter (vec_capacity t.key)) number (open_grants j) (all_room s.limiter (vec_capacity s.key) (open_grants j) (vec_capacity t.key) (omega (arith, room)) h.room)));
    }

pub all_returned : (j : List Entry) (number tick : ℕ) (sent : Bool) (tags : TagList) (ss ts : List Limited) → AllByRecursion (Fits j) ss → IsOpen j number tags → last_tick j ≤ tick
    → First (Returned tags) ss ts (length ss) → AllByRecursion (Fits (j ++ Return number tick sent ∷ [])) ts
all_returned j number tick sent tags [] [] h o le r = tt
all_returned j number tick sent tags (s ∷ ss) (t ∷ ts) h o le r = (fits_returned j number tick sent tags s t h.0 o le r.0, all_returned j number tick sent tags ss ts h.1 o le r.1)
all_returned j number tick sent tags [] (t ∷ ts) h o le r = absurd r
all_returned j number tick sent tags (s ∷ ss) [] h o le r = absurd r

pub limiters_returned : (tags : TagList) (ss ts : List Limited) → First (Returned tags) ss ts (length ss) → limiters_of ts ≡ limiters_of ss
limiters_returned tags [] [] r = refl
limiters_returned tags (s ∷ ss) (t ∷ ts) r = rw (r.0.5.limiter ∙ r.0.2, limiters_returned tags ss ts r.1) refl
limiters_returned tags [] (t ∷ ts) r = absurd r
limiters_returned tags (s ∷ ss) [] r = absurd r

may_return : (j : List Entry) (number : ℕ) (tags : TagList) (s : Limited) → Fits j s → IsOpen j number tags → MayReturn tags s
may_return j number tags s h o =
    record {
      room = all_under (λ t. applies s.limiter t ≡ true → length (key_of (scope_values s.limiter t)) ≤ vec_capacity s.key) number tags (open_grants j) h.room o;
      given = λ a.
          (let key = key_of (scope_values s.limiter tags) in
          let b = key_is s.limiter key tags a refl in
          let one : count_passing (by_key s.limiter key) (open_grants j) ≡ count_passing (by_key s.limiter key) (without number (open_grants j)) + 1 =
          subst (λ (x : Bool). count_passing (by_key s.limiter key) (open_grants j) ≡ count_passing (by_key s.limiter key) (without number (open_grants j)) + cond x 1 0) b
          (count_without (by_key s.limiter key) number tags (open_grants j) o) in
          may_give s.limiter _ _ _ (held s.instances key) (h.stands key) (omega (arith, one)));
    }

pub all_may_return : (j : List Entry) (number : ℕ) (tags : TagList) (ss : List Limited) → AllByRecursion (Fits j) ss → IsOpen j number tags → AllByRecursion (MayReturn tags) ss
all_may_return j number tags [] h o = tt
all_may_return j number tags (s ∷ ss) h o = (may_return j number tags s h.0 o, all_may_return j number tags ss h.1 o)
