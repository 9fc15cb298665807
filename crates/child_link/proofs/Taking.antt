-- What a line that fits does to the open calls.
use Rattle.std.proofs.Common.{◌≡◌, ℕ, zero, suc, ◌<◌, ◌≤◌, Bool, true, false, ◌&&◌, cond, List, [], ◌∷◌, length, Option, Some, None, Result, Ok, refl, sym, ap, ◌∙◌, nat_lt, nat_le, subst}
use Rattle.std.specs.Prelude.{slice_get, slice_set, IsSome, option_map}
use Rattle.std.specs.List.{remove}
use Rattle.std.proofs.lemmas.Bool.{ltb-true, leb-true}
use Rattle.std.proofs.lemmas.Option.{slice_get_within}
use Rattle.std.proofs.lemmas.List.{length-map}
use Rattle.sp_value.specs.declared.cell.Cell.{Cell}
use Rattle.sp_model.specs.Book.{Book}
use Rattle.call_jobs.specs.Jobs.{asked_by}
use Rattle.sp_model.specs.declared.call.Asked.{Asked}
use Rattle.sp_model.specs.declared.call.Asked.TheVariants as asked
use Rattle.sp_model.specs.declared.call.CallKey.{CallKey}
use Rattle.sp_model.specs.declared.call.Ending.{Ending}
use Rattle.sp_model.specs.declared.call.Ending.TheVariants as ending
use Rattle.sp_model.specs.declared.call.Reply.{Reply}
use Rattle.sp_model.specs.declared.call.Piece.TheVariants as piece
use Rattle.sp_model.specs.declared.call.Version as v
use Rattle.sp_model.specs.declared.call.Version.TheVariants.{Is, Bad}
use Rattle.sp_world.specs.Fits.{told_by, book_answer, book_line, line_for, piece_or, is_last}
use Rattle.sp_world.specs.Told.{Answer}
use Rattle.sp_world.specs.Told as told
use Rattle.sp_world.specs.ReplyLines.{ReplyLine, line_of}
use Rattle.sp_world.specs.ReplyLines as line
use Rattle.sp_world.specs.declared.line.LineFault.{LineFault}
use Rattle.sp_outside.specs.Log.{item_taken, closed, line_taken, next_line}
use Rattle.sp_outside.specs.declared.log.OpenCall.{OpenCall}
use Rattle.child_link.specs.Arrivals.{number_of, shown, replied}
use Rattle.child_link.specs.Arrived.{is_item, counted, IsArrival}
use Rattle.child_link.specs.declared.arrival.Arrived.{Arrived}
use Rattle.child_link.specs.Open.{open_of, calls_of, next_in, book_next}
use Rattle.child_link.specs.Holds.{all_within}
use Rattle.child_link.specs.Looked.{IsFirst, IsFit}
use Rattle.child_link.proofs.Finding.{found, call_at, closed_at, more_at}
use Rattle.child_link.specs.declared.flight.Flight.{Flight}

same_some : {A : Type 0} (x a : A) → Some x ≡ Some a → x ≡ a
same_some x a e = cc

same_answer : (x a : Answer) → ◌≡◌ {A = Option Answer} (Some x) (Some a) → x ≡ a
same_answer x a e = cc

same_ok : (x a : ReplyLine) → ◌≡◌ {A = Result ReplyLine LineFault} (Ok x) (Ok a) → x ≡ a
same_ok x a e = cc

pub call_is : (fs : List Flight) (bytes : List ℕ) (at : ℕ) (what : Asked) (l : ReplyLine) (f : Flight) → (fit : IsFit (calls_of fs) bytes at what l) → slice_get fs at ≡ Some f → fit.call ≡ open_of f
call_is fs bytes at what l f fit there = same_some fit.call (open_of f) (sym fit.there ∙ call_at fs at f there)

pub fit_within : (fs : List Flight) (bytes : List ℕ) (at : ℕ) (what : Asked) (l : ReplyLine) → IsFit (calls_of fs) bytes at what l → at < length fs
fit_within fs bytes at what l fit =
    let h = slice_get_within (calls_of fs) at fit.call fit.there in
    subst (λ n. at < n) (length-map fs open_of) h

pub asked_is : (fs : List Flight) (bytes : List ℕ) (at : ℕ) (what : Asked) (l : ReplyLine) (f : Flight) → IsFit (calls_of fs) bytes at what l → slice_get fs at ≡ Some f → what ≡ (asked_by f.job)
asked_is fs bytes at what l f fit there = fit.same ∙ ap (λ c. c.asked) (call_is fs bytes at what l f fit there)

pub fits_here : (fs : List Flight) (bytes : List ℕ) (at : ℕ) (what : Asked) (l : ReplyLine) (f : Flight) → IsFit (calls_of fs) bytes at what l → slice_get fs at ≡ Some f → IsSome (told_by what f.taken l)
fits_here fs bytes at what l f fit there =
    let c = call_is fs bytes at what l f fit there in
    subst (λ w. IsSome (told_by w f.taken l)) (sym (asked_is fs bytes at what l f fit there)) (subst (λ k. IsSome (told_by k.asked k.taken l)) c fit.fits)

-- ---- the book's line

some_cond : (b : Bool) (a : Answer) → IsSome (cond b (Some a) None) → cond b (Some a) None ≡ Some a
some_cond true a h = refl
some_cond false a h = absurd (cc)

pub ending_told : (key : CallKey) (id place : ℕ) (e : Ending) → told_by (asked.Call key) place (line_for id (told.Piece (piece.Ending place e))) ≡ Some (told.Piece (piece.Ending place e))
ending_told key id place ending.End = refl
ending_told key id place (ending.Error text) = refl

piece_told : (key : CallKey) (id place : ℕ) (r : Reply) (o : Option Cell) → IsSome (told_by (asked.Call key) place (line_for id (piece_or place r o))) → told_by (asked.Call key) place (line_for id (piece_or place r o)) ≡ Some (piece_or place r o)
piece_told key id place r (Some x) h = some_cond (nat_lt place 999999) (told.Piece (piece.Item place x)) h
piece_told key id place r None h = ending_told key id place r.ending

pub version_told : (connection : List ℕ) (tick id place : ℕ) (n : v.Version) → told_by (asked.Version connection tick) place (line_for id (told.Version n)) ≡ Some (told.Version n)
version_told connection tick id place (Is n) = refl
version_told connection tick id place (Bad text) = refl

told_next : (book : Book) (id : ℕ) (what : Asked) (place : ℕ) → IsSome (told_by what place (book_line book id what place)) → told_by what place (book_line book id what place) ≡ Some (book_answer book what place)
told_next book id (asked.Call key) place h = piece_told key id place (book.reply key) (slice_get (book.reply key).items place) h
told_next book id (asked.Version connection tick) place h = version_told connection tick id place (book.version connection tick)
told_next book id (asked.Declare connection) place h = refl

pub line_is : (book : Book) (fs : List Flight) (at : ℕ) (l : ReplyLine) (f : Flight) → IsFirst (number_of l) (calls_of fs) at → slice_get fs at ≡ Some f → next_in book (calls_of fs) (Ok l) ≡ Some (Ok l) → l ≡ next_line book (open_of f)
line_is book fs at l f first there next =
    sym (same_ok (next_line book (open_of f)) l (same_some _ _ (sym (ap (option_map (book_next book)) (found (number_of l) fs at f first there)) ∙ next)))

pub told_here : (book : Book) (fs : List Flight) (bytes : List ℕ) (at : ℕ) (what : Asked) (l : ReplyLine) (f : Flight) → IsFit (calls_of fs) bytes at what l → slice_get fs at ≡ Some f
    → next_in book (calls_of fs) (Ok l) ≡ Some (Ok l) → told_by what f.taken l ≡ Some (book_answer book what f.taken)
told_here book fs bytes at what l f fit there next =
    let is : l ≡ book_line book f.id what f.taken = line_is book fs at l f fit.first there next ∙ ap (λ w. book_line book f.id w f.taken) (sym (asked_is fs bytes at what l f fit there)) in
    ap (told_by what f.taken) is ∙ told_next book f.id what f.taken (subst (λ k. IsSome (told_by what f.taken k)) is (fits_here fs bytes at what l f fit there))

both : (a b : Bool) → (a && b) ≡ true → (a ≡ true) × (b ≡ true)
both true b h = (refl, h)
both false b h = absurd (cc)

within_at : (book : Book) (fs : List Flight) (at : ℕ) (f : Flight) → all_within book (calls_of fs) ≡ true → slice_get fs at ≡ Some f → nat_le f.taken (length (replied book (asked_by f.job))) ≡ true
within_at book [] at f all there = absurd (cc)
within_at book (x ∷ xs) zero f all there = ap (λ y. nat_le y.taken (length (replied book (asked_by y.job)))) (sym (same_some x f there)) ∙ (both _ _ all).0
within_at book (x ∷ xs) (suc at) f all there = within_at book xs at f (both _ _ all).1 there

pub within_here : (book : Book) (fs : List Flight) (bytes : List ℕ) (at : ℕ) (what : Asked) (l : ReplyLine) (f : Flight) → IsFit (calls_of fs) bytes at what l → slice_get fs at ≡ Some f
    → all_within book (calls_of fs) ≡ true → f.taken ≤ length (replied book what)
within_here book fs bytes at what l f fit there all =
    subst (λ w. f.taken ≤ length (replied book w)) (sym (asked_is fs bytes at what l f fit there)) (leb-true _ _ (within_at book fs at f all there))

-- ---- an item, or an end

small_by : (b : Bool) (a : Answer) → IsSome (cond b (Some a) None) → b ≡ true
small_by true a h = refl
small_by false a h = absurd (cc)

small_item : (what : Asked) (place : ℕ) (l : ReplyLine) → is_item l ≡ true → IsSome (told_by what place l) → place < 999999
small_item (asked.Call key) place (line.Item id item) is h = ltb-true _ _ (small_by (nat_lt place 999999) _ h)
small_item (asked.Version connection tick) place (line.Item id item) is h = absurd (cc)
small_item (asked.Declare connection) place (line.Item id item) is h = absurd (cc)
small_item what place (line.End id) is h = absurd (cc)
small_item what place (line.Error id text) is h = absurd (cc)
small_item what place (line.Version id n) is h = absurd (cc)
small_item what place (line.Declaration id d) is h = absurd (cc)

pub small_here : (fs : List Flight) (bytes : List ℕ) (at : ℕ) (what : Asked) (l : ReplyLine) → IsFit (calls_of fs) bytes at what l → is_item l ≡ true → (f : Flight) → slice_get fs at ≡ Some f → f.taken < 999999
small_here fs bytes at what l fit item f there = small_item what f.taken l item (fits_here fs bytes at what l f fit there)

pub item_line : (l : ReplyLine) (calls : List OpenCall) → is_item l ≡ true → line_taken (Ok l) calls ≡ item_taken (number_of l) calls
item_line (line.Item id item) calls is = refl
item_line (line.End id) calls is = absurd (cc)
item_line (line.Error id text) calls is = absurd (cc)
item_line (line.Version id n) calls is = absurd (cc)
item_line (line.Declaration id d) calls is = absurd (cc)

end_line : (l : ReplyLine) (calls : List OpenCall) → is_item l ≡ false → line_taken (Ok l) calls ≡ closed (number_of l) calls
end_line (line.Item id item) calls is = absurd (cc)
end_line (line.End id) calls is = refl
end_line (line.Error id text) calls is = refl
end_line (line.Version id n) calls is = refl
end_line (line.Declaration id d) calls is = refl

pub item_calls : (fs : List Flight) (bytes : List ℕ) (at : ℕ) (what : Asked) (l : ReplyLine) (f : Flight) → IsFit (calls_of fs) bytes at what l → slice_get fs at ≡ Some f → is_item l ≡ true
    → calls_of (slice_set fs at (counted f)) ≡ line_taken (Ok l) (calls_of fs)
item_calls fs bytes at what l f fit there is = more_at (number_of l) fs at f fit.first there ∙ sym (item_line l (calls_of fs) is)

pub end_calls : (fs : List Flight) (bytes : List ℕ) (at : ℕ) (what : Asked) (l : ReplyLine) → IsFit (calls_of fs) bytes at what l → is_item l ≡ false → calls_of (remove fs at) ≡ line_taken (Ok l) (calls_of fs)
end_calls fs bytes at what l fit is = closed_at (number_of l) fs at fit.first ∙ sym (end_line l (calls_of fs) is)

-- ---- the line that ends a call

last_by : (b : Bool) (item answer : Answer) → is_last item ≡ false → cond b (Some item) None ≡ Some answer → is_last answer ≡ false
last_by true item answer is h = ap is_last (sym (same_answer item answer h)) ∙ is
last_by false item answer is h = absurd (cc)

-- what an item tells doesn't end its call
pub item_goes_on : (what : Asked) (place : ℕ) (l : ReplyLine) (answer : Answer) → is_item l ≡ true → told_by what place l ≡ Some answer → is_last answer ≡ false
item_goes_on (asked.Call key) place (line.Item id item) answer is h = last_by (nat_lt place 999999) (told.Piece (piece.Item place item)) answer refl h
item_goes_on (asked.Version connection tick) place (line.Item id item) answer is h = absurd (cc)
item_goes_on (asked.Declare connection) place (line.Item id item) answer is h = absurd (cc)
item_goes_on what place (line.End id) answer is h = absurd (cc)
item_goes_on what place (line.Error id text) answer is h = absurd (cc)
item_goes_on what place (line.Version id n) answer is h = absurd (cc)
item_goes_on what place (line.Declaration id d) answer is h = absurd (cc)

-- every other line does
pub else_ends : (what : Asked) (place : ℕ) (l : ReplyLine) (answer : Answer) → is_item l ≡ false → told_by what place l ≡ Some answer → is_last answer ≡ true
else_ends what place (line.Item id item) answer is h = absurd (cc)
else_ends (asked.Call key) place (line.End id) answer is h = ap is_last (sym (same_answer _ answer h))
else_ends (asked.Version connection tick) place (line.End id) answer is h = absurd (cc)
else_ends (asked.Declare connection) place (line.End id) answer is h = absurd (cc)
else_ends (asked.Call key) place (line.Error id text) answer is h = ap is_last (sym (same_answer _ answer h))
else_ends (asked.Version connection tick) place (line.Error id text) answer is h = ap is_last (sym (same_answer _ answer h))
else_ends (asked.Declare connection) place (line.Error id text) answer is h = absurd (cc)
else_ends (asked.Call key) place (line.Version id n) answer is h = absurd (cc)
else_ends (asked.Version connection tick) place (line.Version id n) answer is h = ap is_last (sym (same_answer _ answer h))
else_ends (asked.Declare connection) place (line.Version id n) answer is h = absurd (cc)
else_ends (asked.Call key) place (line.Declaration id d) answer is h = absurd (cc)
else_ends (asked.Version connection tick) place (line.Declaration id d) answer is h = absurd (cc)
else_ends (asked.Declare connection) place (line.Declaration id d) answer is h = ap is_last (sym (same_answer _ answer h))

-- ---- what came in

-- the answer that is told is that of the call at the place
pub tells_here : (fs : List Flight) (bytes : List ℕ) (at : ℕ) (what : Asked) (l : ReplyLine) (f : Flight) (answer : Answer) → IsFit (calls_of fs) bytes at what l → slice_get fs at ≡ Some f
    → told_by what f.taken l ≡ Some answer → told_by (asked_by f.job) f.taken l ≡ Some answer
tells_here fs bytes at what l f answer fit there h = subst (λ w. told_by w f.taken l ≡ Some answer) (asked_is fs bytes at what l f fit there) h

pub arrived_item : {X : Type 0} (fs gs : List Flight) (bytes : List ℕ) (at : ℕ) (what : Asked) (l : ReplyLine) (f : Flight) (a : Arrived X) → IsFit (calls_of fs) bytes at what l → slice_get fs at ≡ Some f
    → is_item l ≡ true → (shown a.told).0 ≡ what → told_by what f.taken l ≡ Some (shown a.told).1 → a.seat ≡ f.job.seat → a.session ≡ f.job.session → a.used ≡ None
    → gs ≡ slice_set fs at (counted f) → IsArrival bytes fs gs a
arrived_item fs gs bytes at what l f a fit there is asks tells seat session used left =
    let here = tells_here fs bytes at what l f (shown a.told).1 fit there tells in
    let on = item_goes_on (asked_by f.job) f.taken l (shown a.told).1 is here in
    record {
      flight = f;
      at = at;
      line = l;
      there = there;
      reads = fit.reads;
      first = found (number_of l) fs at f fit.first there;
      tells = here;
      asked = asks ∙ asked_is fs bytes at what l f fit there;
      seat = seat;
      session = session;
      used = used ∙ sym (ap (λ b. cond b (Some f.used) None) on);
      left = left ∙ sym (ap (λ b. cond b (remove fs at) (slice_set fs at (counted f))) on);
    }

pub arrived_end : {X : Type 0} (fs gs : List Flight) (bytes : List ℕ) (at : ℕ) (what : Asked) (l : ReplyLine) (f : Flight) (a : Arrived X) → IsFit (calls_of fs) bytes at what l → slice_get fs at ≡ Some f
    → is_item l ≡ false → (shown a.told).0 ≡ what → told_by what f.taken l ≡ Some (shown a.told).1 → a.seat ≡ f.job.seat → a.session ≡ f.job.session → a.used ≡ Some f.used
    → gs ≡ remove fs at → IsArrival bytes fs gs a
arrived_end fs gs bytes at what l f a fit there is asks tells seat session used left =
    let here = tells_here fs bytes at what l f (shown a.told).1 fit there tells in
    let on = else_ends (asked_by f.job) f.taken l (shown a.told).1 is here in
    record {
      flight = f;
      at = at;
      line = l;
      there = there;
      reads = fit.reads;
      first = found (number_of l) fs at f fit.first there;
      tells = here;
      asked = asks ∙ asked_is fs bytes at what l f fit there;
      seat = seat;
      session = session;
      used = used ∙ sym (ap (λ b. cond b (Some f.used) None) on);
      left = left ∙ sym (ap (λ b. cond b (remove fs at) (slice_set fs at (counted f))) on);
    }
