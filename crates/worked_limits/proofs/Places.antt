-- Grants that are held, when one comes or goes.
use Rattle.std.proofs.Common.{◌≡◌, ℕ, zero, suc, ◌+◌, ◌<◌, ◌≤◌, ◌^◌, ◌⊎◌, inl, inr, Bool, true, false, cond, nat_eq, length, List, [], ◌∷◌, ◌++◌, Option, Some, None, refl, sym, ap, ◌∙◌, subst, arith, eq-eqb}
use Rattle.std.specs.Prelude.{slice_get, slice_set}
use Rattle.std.specs.List.{AllByRecursion}
use Rattle.std.proofs.lemmas.Bool.{eqb-true}
use Rattle.std.proofs.lemmas.List.{length-append}
use Rattle.rate_gate.specs.Journal.{replay, Grants, next_open, next_number, tick_of, without, tags_under, open_grants, count_grants, last_tick, IsOpen, OrderedFrom, IsOrdered}
use Rattle.rate_gate.proofs.Journals.{replay_more, all_without}
use Rattle.rate_gate.specs.declared.entry.Entry.{Entry}
use Rattle.rate_gate.specs.declared.entry.Entry.TheVariants.{Grant, Return}
use Rattle.rate_gate.specs.declared.permit.Used.{Used}
use Rattle.rate_gate.specs.declared.tag_list.TagList.{TagList}
use Rattle.worked_limits.specs.Held.{AreOpen, AreHeld}

-- ---- the numbers of open grants are those of earlier grants

abbrev AreBelow : ℕ → Grants → Type 0
AreBelow n gs = AllByRecursion (λ g. g.0 < n) gs

below_more : (n : ℕ) (gs : Grants) → AreBelow n gs → AreBelow (n + 1) gs
below_more n [] h = tt
below_more n (g ∷ gs) h = (omega (arith, h.0), below_more n gs h.1)

fresh_from : (before es : List Entry) (gs : Grants) (n : ℕ) → n ≡ count_grants before → OrderedFrom before es → AreBelow n gs → AreBelow (replay next_number n es) (replay next_open gs es)
fresh_from before [] gs n count ordered h = h
fresh_from before (Grant number tags tick ∷ es) gs n count ordered h =
    let here : number ≡ n = ordered.0.1 ∙ sym count in
    let now : n + 1 ≡ count_grants (before ++ Grant number tags tick ∷ []) = ap (λ m. m + 1) count ∙ sym (replay_more next_number 0 before (Grant number tags tick)) in
    fresh_from (before ++ Grant number tags tick ∷ []) es ((number, tags) ∷ gs) (n + 1) now ordered.1 (omega (arith, here), below_more n gs h)
fresh_from before (Return number tick sent ∷ es) gs n count ordered h =
    let now : n ≡ count_grants (before ++ Return number tick sent ∷ []) = count ∙ sym (replay_more next_number 0 before (Return number tick sent)) in
    fresh_from (before ++ Return number tick sent ∷ []) es (without number gs) n now ordered.1 (all_without (λ g. g.0 < n) number gs h)

all_below : (journal : List Entry) → IsOrdered journal → AreBelow (count_grants journal) (open_grants journal)
all_below journal ordered = fresh_from [] journal [] 0 refl ordered tt

under_by : (n number : ℕ) (tags : TagList) (g : ℕ × TagList) (gs : Grants) (b : Bool) → g.0 < n → (tags_under number gs ≡ Some tags → number < n) → nat_eq g.0 number ≡ b
    → cond b (Some g.1) (tags_under number gs) ≡ Some tags → number < n
under_by n number tags g gs true here rest e is = let same = eqb-true g.0 number e in omega (arith, same, here)
under_by n number tags g gs false here rest e is = rest is

under_below : (n number : ℕ) (tags : TagList) (gs : Grants) → AreBelow n gs → tags_under number gs ≡ Some tags → number < n
under_below n number tags [] h is = absurd (cc)
under_below n number tags (g ∷ gs) h is = under_by n number tags g gs (nat_eq g.0 number) h.0 (under_below n number tags gs h.1) refl is

open_below : (journal : List Entry) (number : ℕ) (tags : TagList) → IsOrdered journal → IsOpen journal number tags → number < count_grants journal
open_below journal number tags ordered is = under_below (count_grants journal) number tags (open_grants journal) (all_below journal ordered) is

-- ---- what stays open

not_same : (a b : ℕ) → (a ≡ b → ⊥) → nat_eq a b ≡ false
not_same a b h = by_case (nat_eq a b) refl
  where
    by_case : (c : Bool) → nat_eq a b ≡ c → c ≡ false
    by_case true e = absurd (h (eqb-true a b e))
    by_case false e = refl

grant_keeps : (journal : List Entry) (number tick : ℕ) (tags : TagList) (n : ℕ) (t : TagList) → (number ≡ n → ⊥) → IsOpen journal n t → IsOpen (journal ++ Grant number tags tick ∷ []) n t
grant_keeps journal number tick tags n t other is =
    ap (tags_under n) (replay_more next_open [] journal (Grant number tags tick))
    ∙ ap (λ b. cond b (Some tags) (tags_under n (open_grants journal))) (not_same number n other) ∙ is

grant_opens : (journal : List Entry) (number tick : ℕ) (tags : TagList) → IsOpen (journal ++ Grant number tags tick ∷ []) number tags
grant_opens journal number tick tags =
    ap (tags_under number) (replay_more next_open [] journal (Grant number tags tick))
    ∙ ap (λ b. cond b (Some tags) (tags_under number (open_grants journal))) (eq-eqb number number refl)

without_by : (n m : ℕ) (g : ℕ × TagList) (gs : Grants) (b : Bool) → (m ≡ n → ⊥) → tags_under m (without n gs) ≡ tags_under m gs → nat_eq g.0 n ≡ b
    → tags_under m (cond b gs (g ∷ without n gs)) ≡ tags_under m (g ∷ gs)
without_by n m g gs true other rest e = let same = eqb-true g.0 n e in sym (ap (λ b. cond b (Some g.1) (tags_under m gs)) (not_same g.0 m (λ q. other (sym q ∙ same))))
without_by n m g gs false other rest e = ap (λ o. cond (nat_eq g.0 m) (Some g.1) o) rest

under_without : (n m : ℕ) (gs : Grants) → (m ≡ n → ⊥) → tags_under m (without n gs) ≡ tags_under m gs
under_without n m [] other = refl
under_without n m (g ∷ gs) other = without_by n m g gs (nat_eq g.0 n) other (under_without n m gs other) refl

return_keeps : (journal : List Entry) (n tick m : ℕ) (sent : Bool) (t : TagList) → (m ≡ n → ⊥) → IsOpen journal m t → IsOpen (journal ++ Return n tick sent ∷ []) m t
return_keeps journal n tick m sent t other is = ap (tags_under m) (replay_more next_open [] journal (Return n tick sent)) ∙ under_without n m (open_grants journal) other ∙ is

-- ---- places

-- what stands at a place of a list with one item more
get_more : {A : Type 0} (xs : List A) (y v : A) (place : ℕ) → slice_get (xs ++ y ∷ []) place ≡ Some v → (slice_get xs place ≡ Some v) ⊎ ((place ≡ length xs) × (y ≡ v))
get_more [] y v zero is = let same : y ≡ v = cc in inr (refl, same)
get_more [] y v (suc place) is = absurd (cc)
get_more (x ∷ xs) y v zero is = inl is
get_more (x ∷ xs) y v (suc place) is =
    elim (get_more xs y v place is) [ inl a ↦ inl a | inr b ↦ inr (ap suc b.0, b.1) ]

get_before : {A : Type 0} (xs : List A) (y v : A) (place : ℕ) → slice_get xs place ≡ Some v → (slice_get (xs ++ y ∷ []) place ≡ Some v) × (place < length xs)
get_before [] y v place is = absurd (cc)
get_before (x ∷ xs) y v zero is = (is, omega arith)
get_before (x ∷ xs) y v (suc place) is = let rest = get_before xs y v place is in (rest.0, omega (arith, rest.1))

get_last : {A : Type 0} (xs : List A) (y : A) → slice_get (xs ++ y ∷ []) (length xs) ≡ Some y
get_last [] y = refl
get_last (x ∷ xs) y = get_last xs y

get_set : {A : Type 0} (xs : List (Option A)) (at : ℕ) (v : A) (place : ℕ) → slice_get (slice_set xs at None) place ≡ Some (Some v) → (slice_get xs place ≡ Some (Some v)) × (place ≡ at → ⊥)
get_set [] at v place is = absurd (cc)
get_set (x ∷ xs) zero v zero is = absurd (cc)
get_set (x ∷ xs) zero v (suc place) is = (is, λ e. absurd (omega (arith, e)))
get_set (x ∷ xs) (suc at) v zero is = (is, λ e. absurd (omega (arith, e)))
get_set (x ∷ xs) (suc at) v (suc place) is = let rest = get_set xs at v place is in (rest.0, λ e. rest.1 (omega (arith, e)))

length_set : {A : Type 0} (xs : List A) (at : ℕ) (y : A) → length (slice_set xs at y) ≡ length xs
length_set [] at y = refl
length_set (x ∷ xs) zero y = refl
length_set (x ∷ xs) (suc at) y = ap suc (length_set xs at y)

-- ---- one more

open_more : (journal : List Entry) (held : List (Option Used)) (u : Used) (tick : ℕ) → IsOrdered journal → AreHeld journal held → u.number ≡ count_grants journal
    → AreOpen (journal ++ Grant u.number u.tags tick ∷ []) (held ++ Some u ∷ [])
open_more journal held u tick ordered h number place v at =
    elim (get_more held (Some u) (Some v) place at) [
      | inl a ↦ (let was = h.open_ place v a in
          let below = open_below journal v.number v.tags ordered was.1 in
          (was.0, grant_keeps journal u.number tick u.tags v.number v.tags (λ e. absurd (omega (arith, e, number, below))) was.1))
      | inr b ↦ (let same : u ≡ v = cc in
          let here : u.number ≡ place = number ∙ sym h.count ∙ sym b.0 in
          subst (λ (w : Used). (w.number ≡ place) × IsOpen (journal ++ Grant u.number u.tags tick ∷ []) w.number w.tags) same
          (here, grant_opens journal u.number tick u.tags))
    ]

pub granted : (journal after : List Entry) (held : List (Option Used)) (u : Used) (tick : ℕ) → IsOrdered journal → AreHeld journal held → tick ≤ 2 ^ 62 → u.number ≡ count_grants journal
    → after ≡ journal ++ Grant u.number u.tags tick ∷ [] → AreHeld after (held ++ Some u ∷ [])
granted journal after held u tick ordered h range number is =
    subst (λ (j : List Entry). AreHeld j (held ++ Some u ∷ [])) (sym is) (record { count = counted; open_ = open_more journal held u tick ordered h number; range = ranged })
  where
    counted : length (held ++ Some u ∷ []) ≡ count_grants (journal ++ Grant u.number u.tags tick ∷ [])
    counted = length-append held (Some u ∷ []) ∙ ap (λ n. n + 1) h.count ∙ sym (replay_more next_number 0 journal (Grant u.number u.tags tick))

    ranged : last_tick (journal ++ Grant u.number u.tags tick ∷ []) ≤ 2 ^ 62
    ranged = rw (replay_more tick_of 0 journal (Grant u.number u.tags tick)) range

-- ---- one that is given back

pub is_open_at : (journal : List Entry) (held : List (Option Used)) (place : ℕ) (u : Used) → AreOpen journal held → slice_get held place ≡ Some (Some u) → IsOpen journal u.number u.tags
is_open_at journal held place u h at = (h place u at).1

open_given : (journal : List Entry) (held : List (Option Used)) (place tick : ℕ) (sent : Bool) (u : Used) → AreOpen journal held → slice_get held place ≡ Some (Some u)
    → AreOpen (journal ++ Return u.number tick sent ∷ []) (slice_set held place None)
open_given journal held place tick sent u h at other v is =
    let apart = get_set held place v other is in
    let mine = h place u at in
    let its = h other v apart.0 in
    (its.0, return_keeps journal u.number tick v.number sent v.tags (λ e. apart.1 (sym its.0 ∙ e ∙ mine.0)) its.1)

pub given_back : (journal after : List Entry) (held : List (Option Used)) (place tick : ℕ) (u : Used) → AreHeld journal held → slice_get held place ≡ Some (Some u) → tick ≤ 2 ^ 62
    → after ≡ journal ++ Return u.number tick true ∷ [] → AreHeld after (slice_set held place None)
given_back journal after held place tick u h at range is =
    subst (λ (j : List Entry). AreHeld j (slice_set held place None)) (sym is) (record { count = counted; open_ = open_given journal held place tick true u h.open_ at; range = ranged })
  where
    counted : length (slice_set held place None) ≡ count_grants (journal ++ Return u.number tick true ∷ [])
    counted = length_set held place None ∙ h.count ∙ sym (replay_more next_number 0 journal (Return u.number tick true))

    ranged : last_tick (journal ++ Return u.number tick true ∷ []) ≤ 2 ^ 62
    ranged = rw (replay_more tick_of 0 journal (Return u.number tick true)) range

pub none_there : (journal : List Entry) (held : List (Option Used)) (place : ℕ) → AreHeld journal held → AreHeld journal (slice_set held place None)
none_there journal held place h = record {
  count = length_set held place None ∙ h.count;
  open_ = λ other v is. h.open_ other v (get_set held place v other is).0;
  range = h.range;
}

-- ---- the last one

pub last_open : (journal : List Entry) (held : List (Option Used)) (u : Used) → AreOpen journal (held ++ Some u ∷ []) → IsOpen journal u.number u.tags
last_open journal held u h = (h (length held) u (get_last held (Some u))).1

pub last_given : (journal : List Entry) (held : List (Option Used)) (tick : ℕ) (u : Used) → AreOpen journal (held ++ Some u ∷ []) → AreOpen (journal ++ Return u.number tick true ∷ []) held
last_given journal held tick u h place v at =
    let before = get_before held (Some u) (Some v) place at in
    let its = h place v before.0 in
    let mine = h (length held) u (get_last held (Some u)) in
    (its.0, return_keeps journal u.number tick v.number true v.tags (λ e. absurd (omega (arith, e, its.0, mine.0, before.1))) its.1)

pub last_gone : (journal : List Entry) (held : List (Option Used)) → AreOpen journal (held ++ None ∷ []) → AreOpen journal held
last_gone journal held h place v at = h place v (get_before held None (Some v) place at).0
