-- The first open call of a number.
use Rattle.std.proofs.Common.{◌≡◌, ℕ, zero, suc, ◌+◌, ◌<◌, ◌≤◌, Bool, true, false, cond, not, List, [], ◌∷◌, length, Option, Some, None, Result, Ok, Err, refl, sym, ap, ◌∙◌, arith, nat_eq, nat_lt, subst}
use Rattle.std.specs.Prelude.{slice_get, slice_set, IfOk, IsSome, is_some, get_or}
use Rattle.std.specs.List.{remove, position, position_or_len}
use Rattle.std.proofs.lemmas.Bool.{ltb-true, ltb-false}
use Rattle.std.proofs.lemmas.Option.{slice_get-get_or}
use Rattle.call_jobs.specs.Jobs.{asked_by}
use Rattle.sp_model.specs.declared.call.Asked.{Asked}
use Rattle.sp_world.specs.Fits.{told_by}
use Rattle.sp_world.specs.ReplyLines.{ReplyLine, line_of, IsLineForm, seen}
use Rattle.sp_world.specs.declared.line.Line.{Line}
use Rattle.sp_outside.specs.Log.{find_open, item_taken, closed, one_more}
use Rattle.sp_outside.specs.declared.log.OpenCall.{OpenCall}
use Rattle.child_link.specs.Arrivals.{number_of}
use Rattle.child_link.specs.Arrived.{counted}
use Rattle.child_link.specs.Open.{open_of, calls_of, answer_in, told_to}
use Rattle.child_link.specs.Looked.{IsFirst, IsFit, IsLooked}
use Rattle.child_link.specs.declared.flight.Flight.{Flight}
use Rattle.child_link.specs.declared.looked.Looked.{Looked}
use Rattle.child_link.specs.declared.looked.Looked.TheVariants as looked

-- ---- by position

abbrev at_first : ℕ → List Flight → ℕ
at_first id fs = position_or_len (λ f. nat_eq f.id id) fs

first_with : (b : Bool) (id : ℕ) (f : Flight) (fs : List Flight) (n : ℕ) → nat_eq f.id id ≡ b → n ≡ cond (not b) (1 + at_first id fs) 0 → n < suc (length fs)
    → ((m : ℕ) → m ≡ at_first id fs → m < length fs → IsFirst id (calls_of fs) m) → IsFirst id (calls_of (f ∷ fs)) n
first_with true id f fs zero is e h rec = is
first_with true id f fs (suc m) is e h rec = absurd (omega (arith, e))
first_with false id f fs zero is e h rec = absurd (omega (arith, e))
first_with false id f fs (suc m) is e h rec = (is, rec m (omega (arith, e)) (omega (arith, h)))

first_at : (id : ℕ) (fs : List Flight) (n : ℕ) → n ≡ at_first id fs → n < length fs → IsFirst id (calls_of fs) n
first_at id [] n e h = absurd (omega (arith, h))
first_at id (f ∷ fs) n e h = first_with (nat_eq f.id id) id f fs n refl e h (first_at id fs)

none_with : (b : Bool) (id : ℕ) (f : Flight) (fs : List Flight) → suc (length fs) ≤ cond (not b) (1 + at_first id fs) 0 → (length fs ≤ at_first id fs → find_open id (calls_of fs) ≡ None)
    → cond b (Some (open_of f)) (find_open id (calls_of fs)) ≡ None
none_with true id f fs h rec = absurd (omega (arith, h))
none_with false id f fs h rec = rec (omega (arith, h))

none_at : (id : ℕ) (fs : List Flight) → length fs ≤ at_first id fs → find_open id (calls_of fs) ≡ None
none_at id [] h = refl
none_at id (f ∷ fs) h = none_with (nat_eq f.id id) id f fs h (none_at id fs)

some_at : (b : Bool) (n at : ℕ) → cond b (Some n) None ≡ Some at → (b ≡ true) × (at ≡ n)
some_at true n at h = (refl, cc)
some_at false n at h = absurd (cc)

not_at : (b : Bool) (n : ℕ) → ◌≡◌ {A = Option ℕ} (cond b (Some n) None) None → b ≡ false
not_at true n h = absurd (cc)
not_at false n h = refl

pub place_found : (id : ℕ) (fs : List Flight) (at : ℕ) → position (λ f. nat_eq f.id id) fs ≡ Some at → (at < length fs) × IsFirst id (calls_of fs) at
place_found id fs at h =
    let s = some_at (nat_lt (at_first id fs) (length fs)) (at_first id fs) at h in
    let below : at_first id fs < length fs = ltb-true _ _ s.0 in
    let here : at < length fs = omega (arith, below, s.1) in
    (here, first_at id fs at s.1 here)

pub place_missing : (id : ℕ) (fs : List Flight) → position (λ f. nat_eq f.id id) fs ≡ None → find_open id (calls_of fs) ≡ None
place_missing id fs h = none_at id fs (ltb-false _ _ (not_at (nat_lt (at_first id fs) (length fs)) (at_first id fs) h))

-- ---- by place

same : (x a : Flight) → Some x ≡ Some a → x ≡ a
same x a e = cc

pub found : (id : ℕ) (fs : List Flight) (at : ℕ) (f : Flight) → IsFirst id (calls_of fs) at → slice_get fs at ≡ Some f → find_open id (calls_of fs) ≡ Some (open_of f)
found id [] at f first is = absurd first
found id (x ∷ xs) zero f first is = ap (λ b. cond b (Some (open_of x)) (find_open id (calls_of xs))) first ∙ ap (λ y. Some (open_of y)) (same x f is)
found id (x ∷ xs) (suc at) f first is = ap (λ b. cond b (Some (open_of x)) (find_open id (calls_of xs))) first.0 ∙ found id xs at f first.1 is

pub call_at : (fs : List Flight) (at : ℕ) (f : Flight) → slice_get fs at ≡ Some f → slice_get (calls_of fs) at ≡ Some (open_of f)
call_at [] at f is = absurd (cc)
call_at (x ∷ xs) zero f is = ap (λ y. Some (open_of y)) (same x f is)
call_at (x ∷ xs) (suc at) f is = call_at xs at f is

pub closed_at : (id : ℕ) (fs : List Flight) (at : ℕ) → IsFirst id (calls_of fs) at → calls_of (remove fs at) ≡ closed id (calls_of fs)
closed_at id [] at first = absurd first
closed_at id (x ∷ xs) zero first = sym (ap (λ b. cond b (calls_of xs) (open_of x ∷ closed id (calls_of xs))) first)
closed_at id (x ∷ xs) (suc at) first = ap (λ l. open_of x ∷ l) (closed_at id xs at first.1) ∙ sym (ap (λ b. cond b (calls_of xs) (open_of x ∷ closed id (calls_of xs))) first.0)

pub more_at : (id : ℕ) (fs : List Flight) (at : ℕ) (f : Flight) → IsFirst id (calls_of fs) at → slice_get fs at ≡ Some f → calls_of (slice_set fs at (counted f)) ≡ item_taken id (calls_of fs)
more_at id [] at f first is = absurd first
more_at id (x ∷ xs) zero f first is =
    ap (λ y. one_more (open_of y) ∷ calls_of xs) (sym (same x f is)) ∙ sym (ap (λ b. cond b (one_more (open_of x) ∷ calls_of xs) (open_of x ∷ item_taken id (calls_of xs))) first)
more_at id (x ∷ xs) (suc at) f first is =
    ap (λ l. open_of x ∷ l) (more_at id xs at f first.1 is) ∙ sym (ap (λ b. cond b (one_more (open_of x) ∷ calls_of xs) (open_of x ∷ item_taken id (calls_of xs))) first.0)

-- ---- what a line is to the calls

pub misfit : {E : Type 0} (r : Result Looked E) (fs : List Flight) (bytes : List ℕ) → IfOk r (λ l. l ≡ looked.Bad (calls_of fs)) → answer_in (calls_of fs) (line_of bytes) ≡ None → IfOk r (IsLooked (calls_of fs) bytes)
misfit (Ok (looked.Bad pending)) fs bytes is none = (cc, none)
misfit (Ok (looked.Fit at what line)) fs bytes is none = absurd (cc)
misfit (Err e) fs bytes is none = tt

pub unknown : (fs : List Flight) (bytes : List ℕ) (l : ReplyLine) (id : ℕ) → id ≡ number_of l → line_of bytes ≡ Ok l → position (λ f. nat_eq f.id id) fs ≡ None → answer_in (calls_of fs) (line_of bytes) ≡ None
unknown fs bytes l id same reads missing = ap (answer_in (calls_of fs)) reads ∙ ap (λ o. told_to o l) (place_missing (number_of l) fs (subst (λ k. position (λ f. nat_eq f.id k) fs ≡ None) same missing))

none_told : {A : Type 0} (o : Option A) → is_some o ≡ false → o ≡ None
none_told (Some a) h = absurd (cc)
none_told None h = refl

pub unfit : (fs : List Flight) (bytes : List ℕ) (l : ReplyLine) (at : ℕ) (f : Flight) (id : ℕ) → id ≡ number_of l → line_of bytes ≡ Ok l → position (λ f. nat_eq f.id id) fs ≡ Some at
    → f ≡ get_or fs at f → is_some (told_by (asked_by f.job) f.taken l) ≡ false → answer_in (calls_of fs) (line_of bytes) ≡ None
unfit fs bytes l at f id same reads place is not_told =
    let p = place_found (number_of l) fs at (subst (λ k. position (λ f. nat_eq f.id k) fs ≡ Some at) same place) in
    let there : slice_get fs at ≡ Some f = slice_get-get_or fs at f p.0 ∙ ap Some (sym is) in
    ap (answer_in (calls_of fs)) reads ∙ ap (λ o. told_to o l) (found (number_of l) fs at f p.1 there) ∙ none_told _ not_told

some_told : {A : Type 0} (o : Option A) → is_some o ≡ true → IsSome o
some_told (Some a) h = search
some_told None h = absurd (cc)

pub fit : (fs : List Flight) (bytes : List ℕ) (l : ReplyLine) (at : ℕ) (f : Flight) (what : Asked) (id : ℕ) → id ≡ number_of l → line_of bytes ≡ Ok l → IsLineForm l → position (λ f. nat_eq f.id id) fs ≡ Some at
    → f ≡ get_or fs at f → is_some (told_by (asked_by f.job) f.taken l) ≡ true → what ≡ (asked_by f.job) → IsFit (calls_of fs) bytes at what l
fit fs bytes l at f what id named_is reads form place is told same =
    let p = place_found (number_of l) fs at (subst (λ k. position (λ f. nat_eq f.id k) fs ≡ Some at) named_is place) in
    let there : slice_get fs at ≡ Some f = slice_get-get_or fs at f p.0 ∙ ap Some (sym is) in
    record { call = open_of f; there = call_at fs at f there; first = p.1; same = same; fits = some_told _ told; reads = reads; form = form }

pub fit_reads : {E : Type 0} (r : Result Looked E) (calls : List OpenCall) (bytes slice : List ℕ) (at : ℕ) (what : _) (line : Line) → slice ≡ bytes → IfOk r (IsLooked calls slice) → r ≡ Ok (looked.Fit at what line) → line_of bytes ≡ Ok (seen line)
fit_reads r calls bytes slice at what line same h is = let fit = subst (λ q. IfOk q (IsLooked calls slice)) is h in sym (ap line_of same) ∙ fit.reads
