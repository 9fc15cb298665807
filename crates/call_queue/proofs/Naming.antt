-- Lines under their names.
use Rattle.std.proofs.Common.{◌≡◌, ℕ, zero, suc, ◌+◌, ◌<◌, ◌≤◌, Bool, true, false, not, cond, if◌then◌else◌, List, [], ◌∷◌, ◌++◌, length, map, take, drop, None, bytes_eq, slice_index_or, slice_set, refl, sym, ap, subst, ◌∙◌, arith}
use Rattle.std.proofs.lemmas.Bool.{false_from_ne_true}
use Rattle.std.proofs.lemmas.Slice.Eq.{bytes_eq-Decides}
use Rattle.std.proofs.Math.Seq.{take-append_seam}
use Rattle.std.specs.List.{position_or_len}
use Rattle.rate_gate.specs.Limits.{GateView}
use Rattle.call_queue.specs.Lines.{LineView, no_jobs, emptied}
use Rattle.call_queue.specs.Picking.{NoneIsReady}
use Rattle.call_queue.specs.Queues.{line_of, KeepsOthers, KeepsAll, IsPlaceOf}
use Rattle.call_queue.specs.declared.lines.NamedLine.{NamedLine}

abbrev named : List ℕ → NamedLine → Bool
named name n = bytes_eq n.name name

other_named : (a name other : List ℕ) → bytes_eq a name ≡ true → (other ≡ name → ⊥) → bytes_eq a other ≡ false
other_named a name other h ne = false_from_ne_true (bytes_eq a other) (λ e. ne (sym ((bytes_eq-Decides a other).0 e) ∙ (bytes_eq-Decides a name).0 h))

-- ---- the place of a name

abbrev IsAt : List NamedLine → List ℕ → ℕ → Type 0
IsAt [] name place = ⊥
IsAt (n ∷ ns) name zero = named name n ≡ true
IsAt (n ∷ ns) name (suc place) = (named name n ≡ false) × IsAt ns name place

at_by : (n : NamedLine) (ns : List NamedLine) (name : List ℕ) (place : ℕ) → place < suc (length ns) → (b : Bool) → named name n ≡ b
    → place ≡ cond (not b) (1 + position_or_len (named name) ns) 0 → ((p : ℕ) → p < length ns → p ≡ position_or_len (named name) ns → IsAt ns name p) → IsAt (n ∷ ns) name place
at_by n ns name zero lt true e first later = e
at_by n ns name (suc place) lt true e first later = absurd (omega arith)
at_by n ns name zero lt false e first later = absurd (omega arith)
at_by n ns name (suc place) lt false e first later = (e, later place (omega arith) (omega arith))

is_at : (lines : List NamedLine) (name : List ℕ) (place : ℕ) → place < length lines → place ≡ position_or_len (named name) lines → IsAt lines name place
is_at [] name place lt first = absurd (omega arith)
is_at (n ∷ ns) name place lt first = at_by n ns name place lt (named name n) refl first (is_at ns name)

line_at : (lines : List NamedLine) (name : List ℕ) (place : ℕ) (d : NamedLine) → IsAt lines name place
    → (line_of lines name ≡ (slice_index_or lines place d).line) × (named name (slice_index_or lines place d) ≡ true)
line_at [] name place d h = absurd h
line_at (n ∷ ns) name zero d h = (ap (λ b. if b then n.line else line_of ns name) h, h)
line_at (n ∷ ns) name (suc place) d h = let later = line_at ns name place d h.1 in (ap (λ b. if b then n.line else line_of ns name) h.0 ∙ later.0, later.1)

set_here : (lines : List NamedLine) (name : List ℕ) (place : ℕ) (new : NamedLine) → IsAt lines name place → named name new ≡ true → line_of (slice_set lines place new) name ≡ new.line
set_here [] name place new h e = absurd h
set_here (n ∷ ns) name zero new h e = ap (λ b. if b then new.line else line_of ns name) e
set_here (n ∷ ns) name (suc place) new h e = ap (λ b. if b then n.line else line_of (slice_set ns place new) name) h.0 ∙ set_here ns name place new h.1 e

set_other : (lines : List NamedLine) (name other : List ℕ) (place : ℕ) (new : NamedLine) → IsAt lines name place → named name new ≡ true → (other ≡ name → ⊥)
    → line_of (slice_set lines place new) other ≡ line_of lines other
set_other [] name other place new h e ne = absurd h
set_other (n ∷ ns) name other zero new h e ne =
    ap (λ b. if b then new.line else line_of ns other) (other_named new.name name other e ne) ∙ ap (λ b. if b then n.line else line_of ns other) (sym (other_named n.name name other h ne))
set_other (n ∷ ns) name other (suc place) new h e ne =
    ap (λ (l : LineView). if bytes_eq n.name other then n.line else l) (set_other ns name other place new h.1 e ne)

-- the line at a place, before and after another is put there
module _ (lines : List NamedLine) (name : List ℕ) (place : ℕ) (old : NamedLine) (line : LineView) (at : IsPlaceOf lines name place) where
  there : IsAt lines name place
  there = is_at lines name place at.within at.first

  abbrev put : NamedLine
  put = record { name = (slice_index_or lines place old).name; line = line }

  pub old_line : line_of lines name ≡ (slice_index_or lines place old).line
  old_line = (line_at lines name place old there).0

  pub new_line : line_of (slice_set lines place put) name ≡ line
  new_line = set_here lines name place put there (line_at lines name place old there).1

  pub other_lines : KeepsOthers name lines (slice_set lines place put)
  other_lines other ne = set_other lines name other place put there (line_at lines name place old there).1 ne

-- ---- a name without a line

abbrev NoneAt : List NamedLine → List ℕ → Type 0
NoneAt [] name = Unit {0}
NoneAt (n ∷ ns) name = (named name n ≡ false) × NoneAt ns name

none_by : (n : NamedLine) (ns : List NamedLine) (name : List ℕ) (b : Bool) → named name n ≡ b → suc (length ns) ≡ cond (not b) (1 + position_or_len (named name) ns) 0
    → (length ns ≡ position_or_len (named name) ns → NoneAt ns name) → NoneAt (n ∷ ns) name
none_by n ns name true e past later = absurd (omega arith)
none_by n ns name false e past later = (e, later (omega arith))

none_at : (lines : List NamedLine) (name : List ℕ) → length lines ≡ position_or_len (named name) lines → NoneAt lines name
none_at [] name past = tt
none_at (n ∷ ns) name past = none_by n ns name (named name n) refl past (none_at ns name)

no_line_at : (lines : List NamedLine) (name : List ℕ) → NoneAt lines name → line_of lines name ≡ no_jobs
no_line_at [] name h = refl
no_line_at (n ∷ ns) name h = ap (λ b. if b then n.line else line_of ns name) h.0 ∙ no_line_at ns name h.1

pub no_line : (lines : List NamedLine) (name : List ℕ) → length lines ≡ position_or_len (named name) lines → line_of lines name ≡ no_jobs
no_line lines name past = no_line_at lines name (none_at lines name past)

added_by : (b : Bool) (new : NamedLine) (c : List ℕ) → new.line ≡ no_jobs → (if b then new.line else no_jobs) ≡ no_jobs
added_by true new c h = h
added_by false new c h = refl

-- an empty line at the end changes nothing
pub added_keeps : (lines : List NamedLine) (new : NamedLine) → new.line ≡ no_jobs → KeepsAll lines (lines ++ new ∷ [])
added_keeps [] new h c = added_by (bytes_eq new.name c) new c h
added_keeps (n ∷ ns) new h c = ap (λ (l : LineView). if bytes_eq n.name c then n.line else l) (added_keeps ns new h c)

added_first : (lines : List NamedLine) (name : List ℕ) (new : NamedLine) → NoneAt lines name → named name new ≡ true → length lines ≡ position_or_len (named name) (lines ++ new ∷ [])
added_first [] name new h e = sym (ap (λ b. cond (not b) (1 + 0) 0) e)
added_first (n ∷ ns) name new h e =
    let later = added_first ns name new h.1 e in
    let one : suc (length ns) ≡ 1 + position_or_len (named name) (ns ++ new ∷ []) = omega arith in
    one ∙ sym (ap (λ b. cond (not b) (1 + position_or_len (named name) (ns ++ new ∷ [])) 0) h.0)

added_within : (lines : List NamedLine) (new : NamedLine) → length lines < length (lines ++ new ∷ [])
added_within [] new = omega arith
added_within (n ∷ ns) new = let later = added_within ns new in omega arith

pub added_place : (lines : List NamedLine) (name : List ℕ) (new : NamedLine) (place : ℕ) → place ≡ length lines → place ≡ position_or_len (named name) lines → new.name ≡ name
    → IsPlaceOf (lines ++ new ∷ []) name place
added_place lines name new place past first e = record {
  within = (let lt = added_within lines new in omega arith);
  first = past ∙ added_first lines name new (none_at lines name (sym past ∙ first)) ((bytes_eq-Decides new.name name).1 e);
}

-- a fact on two lines, from that on lines that equal them
pub over : (P : LineView → LineView → Type 0) (a b x y : LineView) → a ≡ x → b ≡ y → P x y → P a b
over P a b x y e f h = subst (λ (l : LineView). P l b) (sym e) (subst (λ (l : LineView). P x l) (sym f) h)

-- ---- all lines

-- what a slice that was lent comes back as
pub written_back : {X : Type 0} (n : ℕ) (xs ys : List X) → n ≡ length xs → take n (xs ++ ys) ≡ xs
written_back n xs ys e = ap (λ k. take k (xs ++ ys)) e ∙ take-append_seam xs ys

-- the same change of each line
pub each_line : (f : LineView → LineView) → f no_jobs ≡ no_jobs → (lines : List NamedLine) (c : List ℕ)
    → line_of (map (λ (n : NamedLine). record { name = n.name; line = f n.line }) lines) c ≡ f (line_of lines c)
each_line f h [] c = sym h
each_line f h (n ∷ ns) c =
    ap (λ (l : LineView). if bytes_eq n.name c then f n.line else l) (each_line f h ns c)
    ∙ elim (bytes_eq n.name c) as (λ b. (if b then f n.line else f (line_of ns c)) ≡ f (if b then n.line else line_of ns c)) [ true ↦ refl | false ↦ refl ]

-- the first k are changed
module _ (f : NamedLine → NamedLine) where
  abbrev pub changed : List NamedLine → ℕ → List NamedLine
  changed xs k = map f (take k xs) ++ drop k xs

  pub one_more : (xs : List NamedLine) (k : ℕ) (d : NamedLine) → k < length xs → slice_set (changed xs k) k (f (slice_index_or (changed xs k) k d)) ≡ changed xs (suc k)
  one_more [] k d lt = absurd (omega arith)
  one_more (x ∷ xs) zero d lt = refl
  one_more (x ∷ xs) (suc k) d lt = ap (λ ys. f x ∷ ys) (one_more xs k d (omega arith))

  pub all_changed : (xs : List NamedLine) (k : ℕ) → length xs ≤ k → changed xs k ≡ map f xs
  all_changed [] zero le = refl
  all_changed [] (suc k) le = refl
  all_changed (x ∷ xs) zero le = absurd (omega arith)
  all_changed (x ∷ xs) (suc k) le = ap (λ ys. f x ∷ ys) (all_changed xs k (omega arith))

abbrev pub no_line_named : NamedLine
no_line_named = record { name = []; line = no_jobs }

-- nothing is picked of an empty line
none_of_none : (g : GateView) (tick : ℕ) → NoneIsReady g tick no_jobs None no_jobs g
none_of_none g tick = record { until = []; held = tt; soonest = refl; left = refl; gate = refl }

pub none_of_absent : (g : GateView) (tick : ℕ) (lines : List NamedLine) (name : List ℕ) → length lines ≡ position_or_len (named name) lines
    → NoneIsReady g tick (line_of lines name) None (line_of lines name) g
none_of_absent g tick lines name past =
    over (λ (old new : LineView). NoneIsReady g tick old None new g) (line_of lines name) (line_of lines name) no_jobs no_jobs (no_line lines name past) (no_line lines name past) (none_of_none g tick)

pub emptied_absent : (lines : List NamedLine) (name : List ℕ) → length lines ≡ position_or_len (named name) lines → line_of lines name ≡ emptied (line_of lines name)
emptied_absent lines name past = no_line lines name past ∙ ap emptied (sym (no_line lines name past))
