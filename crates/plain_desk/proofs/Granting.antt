-- Grants that stay open.
use Rattle.std.proofs.Common.{◌≡◌, ℕ, zero, suc, ◌+◌, ◌<◌, Bool, true, false, cond, nat_eq, length, List, [], ◌∷◌, ◌++◌, map, Some, refl, sym, ap, ◌∙◌, subst, arith, eq-eqb}
use Rattle.std.specs.Prelude.{slice_get, slice_set}
use Rattle.std.specs.List.{AllByRecursion, remove}
use Rattle.std.proofs.lemmas.Bool.{eqb-true}
use Rattle.std.proofs.lemmas.List.{map-append}
use Rattle.rate_gate.specs.Journal.{replay, Grants, next_open, next_number, tick_of, without, tags_under, open_grants, count_grants, last_tick, IsOpen, OrderedFrom, IsOrdered}
use Rattle.rate_gate.proofs.Journals.{replay_more, all_without}
use Rattle.rate_gate.specs.declared.entry.Entry.{Entry}
use Rattle.rate_gate.specs.declared.entry.Entry.TheVariants.{Grant, Return}
use Rattle.rate_gate.specs.declared.tag_list.TagList.{TagList}
use Rattle.child_link.specs.Arrived.{counted}
use Rattle.child_link.specs.declared.flight.Flight.{Flight}
use Rattle.plain_desk.specs.Grants.{grant_of, AreOpen, AreHeld}

-- ---- the numbers of open grants are those of earlier grants

abbrev AreBelow : ℕ → Grants → Type 0
AreBelow n gs = AllByRecursion (λ g. g.0 < n) gs

below_more : (n : ℕ) (gs : Grants) → AreBelow n gs → AreBelow (n + 1) gs
below_more n [] h = tt
below_more n (g ∷ gs) h = (omega (arith, h.0), below_more n gs h.1)

fresh_from : (before es : List Entry) (gs : Grants) (n : ℕ) → n ≡ count_grants before → OrderedFrom before es → AreBelow n gs → AreBelow (replay next_number n es) (replay next_open gs es)
fresh_from before [] gs n count ordered h = h
fresh_from before (Grant number tags tick ∷ es) gs n count ordered h =
    let here : number ≡ n = ordered.0.1 ∙ sym count in
    let now : n + 1 ≡ count_grants (before ++ Grant number tags tick ∷ []) = ap (λ m. m + 1) count ∙ sym (replay_more next_number 0 before (Grant number tags tick)) in
    fresh_from (before ++ Grant number tags tick ∷ []) es ((number, tags) ∷ gs) (n + 1) now ordered.1 (omega (arith, here), below_more n gs h)
fresh_from before (Return number tick sent ∷ es) gs n count ordered h =
    let now : n ≡ count_grants (before ++ Return number tick sent ∷ []) = count ∙ sym (replay_more next_number 0 before (Return number tick sent)) in
    fresh_from (before ++ Return number tick sent ∷ []) es (without number gs) n now ordered.1 (all_without (λ g. g.0 < n) number gs h)

all_below : (journal : List Entry) → IsOrdered journal → AreBelow (count_grants journal) (open_grants journal)
all_below journal ordered = fresh_from [] journal [] 0 refl ordered tt

under_by : (n number : ℕ) (tags : TagList) (g : ℕ × TagList) (gs : Grants) (b : Bool) → g.0 < n → (tags_under number gs ≡ Some tags → number < n) → nat_eq g.0 number ≡ b
    → cond b (Some g.1) (tags_under number gs) ≡ Some tags → number < n
under_by n number tags g gs true here rest e is = let same = eqb-true g.0 number e in omega (arith, same, here)
under_by n number tags g gs false here rest e is = rest is

under_below : (n number : ℕ) (tags : TagList) (gs : Grants) → AreBelow n gs → tags_under number gs ≡ Some tags → number < n
under_below n number tags [] h is = absurd (cc)
under_below n number tags (g ∷ gs) h is = under_by n number tags g gs (nat_eq g.0 number) h.0 (under_below n number tags gs h.1) refl is

-- an open grant is an earlier one
pub open_below : (journal : List Entry) (number : ℕ) (tags : TagList) → IsOrdered journal → IsOpen journal number tags → number < count_grants journal
open_below journal number tags ordered is = under_below (count_grants journal) number tags (open_grants journal) (all_below journal ordered) is

-- ---- one more grant

not_same : (a b : ℕ) → (a ≡ b → ⊥) → nat_eq a b ≡ false
not_same a b h = by_case (nat_eq a b) refl
  where
    by_case : (c : Bool) → nat_eq a b ≡ c → c ≡ false
    by_case true e = absurd (h (eqb-true a b e))
    by_case false e = refl

grant_keeps : (journal : List Entry) (number tick : ℕ) (tags : TagList) (n : ℕ) (t : TagList) → (number ≡ n → ⊥) → IsOpen journal n t → IsOpen (journal ++ Grant number tags tick ∷ []) n t
grant_keeps journal number tick tags n t other is =
    ap (tags_under n) (replay_more next_open [] journal (Grant number tags tick))
    ∙ ap (λ b. cond b (Some tags) (tags_under n (open_grants journal))) (not_same number n other) ∙ is

grant_opens : (journal : List Entry) (number tick : ℕ) (tags : TagList) → IsOpen (journal ++ Grant number tags tick ∷ []) number tags
grant_opens journal number tick tags =
    ap (tags_under number) (replay_more next_open [] journal (Grant number tags tick))
    ∙ ap (λ b. cond b (Some tags) (tags_under number (open_grants journal))) (eq-eqb number number refl)

apart_more : (m : ℕ) (gs : Grants) (g : ℕ × TagList) → AllByRecursion (λ other. other.0 ≡ m → ⊥) gs → (g.0 ≡ m → ⊥) → AllByRecursion (λ other. other.0 ≡ m → ⊥) (gs ++ g ∷ [])
apart_more m [] g h d = (d, tt)
apart_more m (x ∷ gs) g h d = (h.0, apart_more m gs g h.1 d)

open_more : (journal : List Entry) (tick : ℕ) (tags : TagList) (gs : Grants) → IsOrdered journal → AreOpen journal gs → AreOpen (journal ++ Grant (count_grants journal) tags tick ∷ []) (gs ++ (count_grants journal, tags) ∷ [])
open_more journal tick tags [] ordered h = (grant_opens journal (count_grants journal) tick tags, tt, tt)
open_more journal tick tags (g ∷ gs) ordered h =
    let below = open_below journal g.0 g.1 ordered h.0 in
    let other : count_grants journal ≡ g.0 → ⊥ = λ e. absurd (omega (arith, e, below)) in
    (grant_keeps journal (count_grants journal) tick tags g.0 g.1 other h.0, apart_more g.0 gs (count_grants journal, tags) h.1 other, open_more journal tick tags gs ordered h.2)

-- a call is sent with the next grant
pub held_more : (journal after : List Entry) (tick : ℕ) (fs gs : List Flight) (f : Flight) → IsOrdered journal → AreHeld journal fs → f.used.number ≡ count_grants journal
    → after ≡ journal ++ Grant f.used.number f.used.tags tick ∷ [] → gs ≡ fs ++ f ∷ [] → AreHeld after gs
held_more journal after tick fs gs f ordered held number is more =
    let e = open_more journal tick f.used.tags (map grant_of fs) ordered held in
    let j : after ≡ journal ++ Grant (count_grants journal) f.used.tags tick ∷ [] = is ∙ ap (λ n. journal ++ Grant n f.used.tags tick ∷ []) number in
    let l : map grant_of gs ≡ map grant_of fs ++ (count_grants journal, f.used.tags) ∷ [] =
    ap (map grant_of) more ∙ map-append grant_of fs (f ∷ []) ∙ ap (λ n. map grant_of fs ++ (n, f.used.tags) ∷ []) number in
    subst (λ xs. AreOpen after xs) (sym l) (subst (λ x. AreOpen x (map grant_of fs ++ (count_grants journal, f.used.tags) ∷ [])) (sym j) e)

-- ---- a return

without_by : (n m : ℕ) (g : ℕ × TagList) (gs : Grants) (b : Bool) → (m ≡ n → ⊥) → tags_under m (without n gs) ≡ tags_under m gs → nat_eq g.0 n ≡ b
    → tags_under m (cond b gs (g ∷ without n gs)) ≡ tags_under m (g ∷ gs)
without_by n m g gs true other rest e = let same = eqb-true g.0 n e in sym (ap (λ b. cond b (Some g.1) (tags_under m gs)) (not_same g.0 m (λ q. other (sym q ∙ same))))
without_by n m g gs false other rest e = ap (λ o. cond (nat_eq g.0 m) (Some g.1) o) rest

under_without : (n m : ℕ) (gs : Grants) → (m ≡ n → ⊥) → tags_under m (without n gs) ≡ tags_under m gs
under_without n m [] other = refl
under_without n m (g ∷ gs) other = without_by n m g gs (nat_eq g.0 n) other (under_without n m gs other) refl

return_keeps : (journal : List Entry) (n tick m : ℕ) (sent : Bool) (t : TagList) → (m ≡ n → ⊥) → IsOpen journal m t → IsOpen (journal ++ Return n tick sent ∷ []) m t
return_keeps journal n tick m sent t other is = ap (tags_under m) (replay_more next_open [] journal (Return n tick sent)) ∙ under_without n m (open_grants journal) other ∙ is

-- all are open after the return of another
others_open : (journal : List Entry) (n tick : ℕ) (sent : Bool) (gs : Grants) → AllByRecursion (λ g. g.0 ≡ n → ⊥) gs → AreOpen journal gs → AreOpen (journal ++ Return n tick sent ∷ []) gs
others_open journal n tick sent [] apart h = tt
others_open journal n tick sent (g ∷ gs) apart h = (return_keeps journal n tick g.0 sent g.1 apart.0 h.0, h.1, others_open journal n tick sent gs apart.1 h.2)

same_some : {A : Type 0} (x a : A) → Some x ≡ Some a → x ≡ a
same_some x a e = cc

pub all_removed : {A : Type 0} (P : A → Type 0) (xs : List A) (at : ℕ) → AllByRecursion P xs → AllByRecursion P (remove xs at)
all_removed P [] zero h = tt
all_removed P [] (suc at) h = tt
all_removed P (x ∷ xs) zero h = h.1
all_removed P (x ∷ xs) (suc at) h = (h.0, all_removed P xs at h.1)

pub all_at : {A : Type 0} (P : A → Type 0) (xs : List A) (at : ℕ) (x : A) → AllByRecursion P xs → slice_get xs at ≡ Some x → P x
all_at P [] at x h is = absurd (cc)
all_at P (y ∷ xs) zero x h is = subst P (same_some y x is) h.0
all_at P (y ∷ xs) (suc at) x h is = all_at P xs at x h.1 is

open_removed : (journal : List Entry) (tick : ℕ) (sent : Bool) (gs : Grants) (at : ℕ) (g : ℕ × TagList) → AreOpen journal gs → slice_get gs at ≡ Some g
    → IsOpen journal g.0 g.1 × AreOpen (journal ++ Return g.0 tick sent ∷ []) (remove gs at)
open_removed journal tick sent [] at g h is = absurd (cc)
open_removed journal tick sent (x ∷ gs) zero g h is =
    let same = same_some x g is in
    (subst (λ y. IsOpen journal y.0 y.1) same h.0, subst (λ y. AreOpen (journal ++ Return y.0 tick sent ∷ []) gs) same (others_open journal x.0 tick sent gs h.1 h.2))
open_removed journal tick sent (x ∷ gs) (suc at) g h is =
    let rec = open_removed journal tick sent gs at g h.2 is in
    let other = all_at (λ y. y.0 ≡ x.0 → ⊥) gs at g h.1 is in
    (rec.0, (return_keeps journal g.0 tick x.0 sent x.1 (λ e. other (sym e)) h.0, all_removed (λ y. y.0 ≡ x.0 → ⊥) gs at h.1, rec.1))

map_at : (fs : List Flight) (at : ℕ) (f : Flight) → slice_get fs at ≡ Some f → slice_get (map grant_of fs) at ≡ Some (grant_of f)
map_at [] at f is = absurd (cc)
map_at (x ∷ fs) zero f is = ap (λ y. Some (grant_of y)) (same_some x f is)
map_at (x ∷ fs) (suc at) f is = map_at fs at f is

map_removed : (fs : List Flight) (at : ℕ) → map grant_of (remove fs at) ≡ remove (map grant_of fs) at
map_removed [] zero = refl
map_removed [] (suc at) = refl
map_removed (x ∷ fs) zero = refl
map_removed (x ∷ fs) (suc at) = ap (λ l. grant_of x ∷ l) (map_removed fs at)

map_set : (fs : List Flight) (at : ℕ) (f : Flight) → slice_get fs at ≡ Some f → map grant_of (slice_set fs at (counted f)) ≡ map grant_of fs
map_set [] at f is = refl
map_set (x ∷ fs) zero f is = ap (λ y. grant_of y ∷ map grant_of fs) (sym (same_some x f is))
map_set (x ∷ fs) (suc at) f is = ap (λ l. grant_of x ∷ l) (map_set fs at f is)

-- the call at a place ends
pub held_removed : (journal : List Entry) (tick : ℕ) (sent : Bool) (fs : List Flight) (at : ℕ) (f : Flight) → AreHeld journal fs → slice_get fs at ≡ Some f
    → IsOpen journal f.used.number f.used.tags × AreHeld (journal ++ Return f.used.number tick sent ∷ []) (remove fs at)
held_removed journal tick sent fs at f held is =
    let e = open_removed journal tick sent (map grant_of fs) at (grant_of f) held (map_at fs at f is) in
    (e.0, subst (λ xs. AreOpen (journal ++ Return f.used.number tick sent ∷ []) xs) (sym (map_removed fs at)) e.1)

pub held_set : (journal : List Entry) (fs : List Flight) (at : ℕ) (f : Flight) → AreHeld journal fs → slice_get fs at ≡ Some f → AreHeld journal (slice_set fs at (counted f))
held_set journal fs at f held is = subst (λ xs. AreOpen journal xs) (sym (map_set fs at f is)) held

-- ---- the last one

last_at : (fs : List Flight) (f : Flight) → slice_get (fs ++ f ∷ []) (length fs) ≡ Some f
last_at [] f = refl
last_at (x ∷ fs) f = last_at fs f

last_removed : (fs : List Flight) (f : Flight) → remove (fs ++ f ∷ []) (length fs) ≡ fs
last_removed [] f = refl
last_removed (x ∷ fs) f = ap (λ l. x ∷ l) (last_removed fs f)

pub held_last : (journal : List Entry) (tick : ℕ) (sent : Bool) (all fs : List Flight) (f : Flight) → all ≡ fs ++ f ∷ [] → AreHeld journal all
    → IsOpen journal f.used.number f.used.tags × AreHeld (journal ++ Return f.used.number tick sent ∷ []) fs
held_last journal tick sent all fs f is held =
    let e = held_removed journal tick sent (fs ++ f ∷ []) (length fs) f (subst (λ xs. AreHeld journal xs) is held) (last_at fs f) in
    (e.0, subst (λ xs. AreHeld (journal ++ Return f.used.number tick sent ∷ []) xs) (last_removed fs f) e.1)

-- the tick of a journal with one entry more
pub last_of_return : (journal : List Entry) (n tick : ℕ) (sent : Bool) → last_tick (journal ++ Return n tick sent ∷ []) ≡ tick
last_of_return journal n tick sent = replay_more tick_of 0 journal (Return n tick sent)

pub last_of_grant : (journal : List Entry) (n tick : ℕ) (tags : TagList) → last_tick (journal ++ Grant n tags tick ∷ []) ≡ tick
last_of_grant journal n tick tags = replay_more tick_of 0 journal (Grant n tags tick)
