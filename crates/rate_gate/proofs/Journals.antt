-- What one more entry does to the words on a journal.
use Rattle.std.specs.Prelude.{Option, Some, is_some, unwrap_or, IsSome}
use Rattle.std.proofs.Common.{◌≡◌, ℕ, ◌+◌, ◌-◌, ◌<◌, ◌≤◌, ◌⊎◌, inl, inr, Bool, true, false, true≢false, nat_eq, List, [], ◌∷◌, ◌++◌, length, take, refl, sym, ap, subst, ◌∙◌, arith, append_assoc, append-nil, length-append, cond}
use Rattle.std.proofs.lemmas.Bool.{cases_lt}
use Rattle.std.proofs.lemmas.List.{take_all, take-append-le}
use Rattle.std.specs.List.{AllByRecursion}
use Rattle.rate_gate.specs.declared.tag_list.TagList.{TagList}
use Rattle.rate_gate.specs.declared.entry.Entry.{Entry}
use Rattle.rate_gate.specs.declared.entry.Entry.TheVariants.{Grant, Return}
use Rattle.rate_gate.specs.Journal.{replay, Grants, without, next_open, tick_of, next_number, IsNoted, open_grants, tags_under, count_passing, open_count, last_tick, Follows, OrderedFrom}
use Rattle.rate_gate.specs.Limits.{KeepsPlaces}

pub replay_more : {S : Type 0} (step : S → Entry → S) (s : S) (j : List Entry) (e : Entry) → replay step s (j ++ e ∷ []) ≡ step (replay step s j) e
replay_more step s [] e = refl
replay_more step s (x ∷ xs) e = replay_more step (step s x) xs e

pub ordered_more : (before j : List Entry) (e : Entry) → OrderedFrom before j → Follows (before ++ j) e → OrderedFrom before (j ++ e ∷ [])
ordered_more before [] e h f = (subst (λ (xs : List Entry). Follows xs e) (append-nil before) f, tt)
ordered_more before (x ∷ xs) e h f = (h.0, ordered_more (before ++ x ∷ []) xs e h.1 (subst (λ (ys : List Entry). Follows ys e) (sym (append_assoc before (x ∷ []) xs)) f))

-- one more entry keeps the places of each prefix where it keeps those of the whole
pub places_more : (passes : TagList → Bool) (most : ℕ) (j : List Entry) (e : Entry) → KeepsPlaces passes most j → open_count passes (j ++ e ∷ []) ≤ most → KeepsPlaces passes most (j ++ e ∷ [])
places_more passes most j e h whole n = places_case passes most j e h whole n (cases_lt (length j) n)
  where
    places_case : (passes : TagList → Bool) (most : ℕ) (j : List Entry) (e : Entry) → KeepsPlaces passes most j → open_count passes (j ++ e ∷ []) ≤ most → (n : ℕ) → (length j < n) ⊎ (n ≤ length j)
        → open_count passes (take n (j ++ e ∷ [])) ≤ most
    places_case passes most j e h whole n (inl more) =
        let all : take n (j ++ e ∷ []) ≡ j ++ e ∷ [] = take_all n (j ++ e ∷ []) (omega (arith, length-append j (e ∷ []))) in
        subst (λ (xs : List Entry). open_count passes xs ≤ most) (sym all) whole
    places_case passes most j e h whole n (inr within) =
        let same : take n (j ++ e ∷ []) ≡ take n j = take-append-le n j (e ∷ []) within in
        subst (λ (xs : List Entry). open_count passes xs ≤ most) (sym same) (h n)

-- the whole journal is its longest prefix
pub places_whole : (passes : TagList → Bool) (most : ℕ) (j : List Entry) → KeepsPlaces passes most j → open_count passes j ≤ most
places_whole passes most j h = subst (λ (xs : List Entry). open_count passes xs ≤ most) (take_all (length j) j (omega arith)) (h (length j))

-- ---- open grants

some_same : (a b : TagList) → Some a ≡ Some b → a ≡ b
some_same a b e = ap (λ (o : Option TagList). unwrap_or o a) e

-- taking an open grant out leaves the others
pub count_without : (passes : TagList → Bool) (number : ℕ) (tags : TagList) (gs : Grants) → tags_under number gs ≡ Some tags
    → count_passing passes gs ≡ count_passing passes (without number gs) + (cond (passes tags) 1 0)
count_without passes number tags [] h = absurd (true≢false (sym (ap is_some h)))
count_without passes number tags (g ∷ gs) h = without_case passes number tags g gs (count_without passes number tags gs) (nat_eq g.0 number) h
  where
    without_case : (passes : TagList → Bool) (number : ℕ) (tags : TagList) (g : ℕ × TagList) (gs : Grants)
        (rest : tags_under number gs ≡ Some tags → count_passing passes gs ≡ count_passing passes (without number gs) + (cond (passes tags) 1 0)) (b : Bool)
        → cond b (Some g.1) (tags_under number gs) ≡ Some tags
        → cond (passes g.1) 1 0 + count_passing passes gs ≡ count_passing passes (cond b gs (g ∷ without number gs)) + (cond (passes tags) 1 0)
    without_case passes number tags g gs rest true h = let t = ap (λ (x : TagList). ◌+◌ (cond (passes x) 1 0) 0) (some_same g.1 tags h) in omega arith
    without_case passes number tags g gs rest false h = omega (arith, rest h)

pub length_without : (number : ℕ) (gs : Grants) → IsSome (tags_under number gs) → length (without number gs) + 1 ≡ length gs
length_without number [] h = absurd (true≢false (sym h))
length_without number (g ∷ gs) h = length_case number g gs (length_without number gs) (nat_eq g.0 number) h
  where
    length_case : (number : ℕ) (g : ℕ × TagList) (gs : Grants) (rest : IsSome (tags_under number gs) → length (without number gs) + 1 ≡ length gs) (b : Bool)
        → IsSome (cond b (Some g.1) (tags_under number gs)) → length (cond b gs (g ∷ without number gs)) + 1 ≡ length (g ∷ gs)
    length_case number g gs rest true h = omega arith
    length_case number g gs rest false h = omega (arith, rest h)

-- what holds of each open grant holds of the others once one is out
pub all_without : (P : ℕ × TagList → Type 0) (number : ℕ) (gs : Grants) → AllByRecursion P gs → AllByRecursion P (without number gs)
all_without P number [] h = tt
all_without P number (g ∷ gs) h = all_case P number g gs h (all_without P number gs h.1) (nat_eq g.0 number)
  where
    all_case : (P : ℕ × TagList → Type 0) (number : ℕ) (g : ℕ × TagList) (gs : Grants) → AllByRecursion P (g ∷ gs) → AllByRecursion P (without number gs) → (b : Bool)
        → AllByRecursion P (cond b gs (g ∷ without number gs))
    all_case P number g gs h rest true = h.1
    all_case P number g gs h rest false = (h.0, rest)

-- what holds of the tags of each open grant holds of those of one of them
pub all_under : (P : TagList → Type 0) (number : ℕ) (tags : TagList) (gs : Grants) → AllByRecursion (λ g. P g.1) gs → tags_under number gs ≡ Some tags → P tags
all_under P number tags [] h e = absurd (true≢false (sym (ap is_some e)))
all_under P number tags (g ∷ gs) h e = under_case P number tags g gs h (all_under P number tags gs h.1) (nat_eq g.0 number) e
  where
    under_case : (P : TagList → Type 0) (number : ℕ) (tags : TagList) (g : ℕ × TagList) (gs : Grants) → AllByRecursion (λ (x : ℕ × TagList). P x.1) (g ∷ gs)
        → (tags_under number gs ≡ Some tags → P tags) → (b : Bool) → cond b (Some g.1) (tags_under number gs) ≡ Some tags → P tags
    under_case P number tags g gs h rest true e = subst P (some_same g.1 tags e) h.0
    under_case P number tags g gs h rest false e = rest e

-- ---- what a journal keeps beside its entries

pub noted_grant : (j : List Entry) (g o t tick : ℕ) (tags : TagList) → IsNoted j g o t → last_tick j ≤ tick → IsNoted (j ++ Grant g tags tick ∷ []) (g + 1) (o + 1) tick
noted_grant j g o t tick tags h le =
    let e : Entry = Grant g tags tick in
    record {
      ordered = ordered_more [] j e h.ordered (le, h.granted);
      granted = (let was = h.granted in let now = replay_more next_number 0 j e in omega arith);
      opened = (let was = h.opened in let now = ap length (replay_more next_open [] j e) in omega arith);
      last = sym (replay_more tick_of 0 j e);
    }

pub noted_return : (j : List Entry) (g o t number tick : ℕ) (sent : Bool) → IsNoted j g o t → last_tick j ≤ tick → IsSome (tags_under number (open_grants j))
    → IsNoted (j ++ Return number tick sent ∷ []) g (o - 1) tick
noted_return j g o t number tick sent h le some =
    let e : Entry = Return number tick sent in
    record {
      ordered = ordered_more [] j e h.ordered (le, some);
      granted = h.granted ∙ sym (replay_more next_number 0 j e);
      opened = (let was = h.opened in let one = length_without number (open_grants j) some in let now = ap length (replay_more next_open [] j e) in omega arith);
      last = sym (replay_more tick_of 0 j e);
    }

pub opened_some : (j : List Entry) (g o t number : ℕ) → IsNoted j g o t → IsSome (tags_under number (open_grants j)) → 0 < o
opened_some j g o t number h some = let was = h.opened in let one = length_without number (open_grants j) some in omega arith
