-- What a send does to the open calls.
use Rattle.std.proofs.Common.{◌≡◌, ℕ, ◌≤◌, ◌++◌, Bool, true, false, ◌&&◌, cond, List, [], ◌∷◌, length, Option, Some, None, Result, Ok, Err, refl, sym, ap, ◌∙◌, arith, nat_eq, subst}
use Rattle.std.specs.Prelude.{option_map, IsTrue}
use Rattle.std.proofs.lemmas.Bool.{le-leb}
use Rattle.std.proofs.lemmas.List.{map-append}
use Rattle.std.proofs.lemmas.List.Sums.{fold-append}
use Rattle.sp_model.specs.Book.{Book}
use Rattle.call_jobs.specs.Jobs.{asked_by}
use Rattle.sp_model.specs.declared.call.Asked.{Asked}
use Rattle.sp_world.specs.ReplyLines.{ReplyLine, line_of}
use Rattle.sp_world.specs.ReplyLines as line
use Rattle.sp_world.specs.RequestLines.{request_of}
use Rattle.sp_world.specs.declared.line.LineFault.{LineFault}
use Rattle.sp_world.specs.declared.line.Request.TheVariants.{Ask}
use Rattle.sp_outside.specs.Log.{pending, after, opened, find_open, item_taken, closed, one_more, line_taken}
use Rattle.sp_outside.specs.declared.log.Event.{Event}
use Rattle.sp_outside.specs.declared.log.Event.TheVariants.{Heard, Started}
use Rattle.sp_outside.specs.declared.log.OpenCall.{OpenCall}
use Rattle.child_link.specs.Arrivals.{number_of, replied}
use Rattle.child_link.specs.Open.{open_of, calls_of, next_in, book_next, ahead, IsNext}
use Rattle.child_link.specs.Holds.{Holds, all_within}
use Rattle.sp_world.specs.LineParts.{AreParts, IsReadBack}
use Rattle.child_link.specs.Reads.{Reads}
use Rattle.child_link.specs.declared.flight.Flight.{Flight}

pub reads_parts : (what : Asked) (function : Option (List ℕ)) (head tail : List ℕ) → IsReadBack what function → AreParts what function head tail → Reads what function head tail
reads_parts what function head tail back parts = λ id small. sym (ap request_of (parts id)) ∙ back id small

-- ---- a call that is found stays the one that a line is for

found_more : (b : Bool) (c k : OpenCall) (calls more : List OpenCall) (id : ℕ) → cond b (Some c) (find_open id calls) ≡ Some k → (find_open id calls ≡ Some k → find_open id (calls ++ more) ≡ Some k) → cond b (Some c) (find_open id (calls ++ more)) ≡ Some k
found_more true c k calls more id h rec = h
found_more false c k calls more id h rec = rec h

pub find_more : (id : ℕ) (calls more : List OpenCall) (k : OpenCall) → find_open id calls ≡ Some k → find_open id (calls ++ more) ≡ Some k
find_more id [] more k h = absurd (cc)
find_more id (c ∷ calls) more k h = found_more (nat_eq c.id id) c k calls more id h (find_more id calls more k)

close_with : (b : Bool) (c k : OpenCall) (calls more : List OpenCall) (id : ℕ) → cond b (Some c) (find_open id calls) ≡ Some k → (find_open id calls ≡ Some k → closed id (calls ++ more) ≡ closed id calls ++ more)
    → cond b (calls ++ more) (c ∷ closed id (calls ++ more)) ≡ cond b calls (c ∷ closed id calls) ++ more
close_with true c k calls more id h rec = refl
close_with false c k calls more id h rec = ap (λ l. c ∷ l) (rec h)

close_more : (id : ℕ) (calls more : List OpenCall) (k : OpenCall) → find_open id calls ≡ Some k → closed id (calls ++ more) ≡ closed id calls ++ more
close_more id [] more k h = absurd (cc)
close_more id (c ∷ calls) more k h = close_with (nat_eq c.id id) c k calls more id h (close_more id calls more k)

take_with : (b : Bool) (c k : OpenCall) (calls more : List OpenCall) (id : ℕ) → cond b (Some c) (find_open id calls) ≡ Some k → (find_open id calls ≡ Some k → item_taken id (calls ++ more) ≡ item_taken id calls ++ more)
    → cond b (one_more c ∷ (calls ++ more)) (c ∷ item_taken id (calls ++ more)) ≡ cond b (one_more c ∷ calls) (c ∷ item_taken id calls) ++ more
take_with true c k calls more id h rec = refl
take_with false c k calls more id h rec = ap (λ l. c ∷ l) (rec h)

take_more : (id : ℕ) (calls more : List OpenCall) (k : OpenCall) → find_open id calls ≡ Some k → item_taken id (calls ++ more) ≡ item_taken id calls ++ more
take_more id [] more k h = absurd (cc)
take_more id (c ∷ calls) more k h = take_with (nat_eq c.id id) c k calls more id h (take_more id calls more k)

line_more : (l : ReplyLine) (calls more : List OpenCall) (k : OpenCall) → find_open (number_of l) calls ≡ Some k → line_taken (Ok l) (calls ++ more) ≡ line_taken (Ok l) calls ++ more
line_more (line.Item id item) calls more k h = take_more id calls more k h
line_more (line.End id) calls more k h = close_more id calls more k h
line_more (line.Error id text) calls more k h = close_more id calls more k h
line_more (line.Version id n) calls more k h = close_more id calls more k h
line_more (line.Declaration id d) calls more k h = close_more id calls more k h

-- the line is for some call
pub has_call : (book : Book) (l : ReplyLine) (r : Result ReplyLine LineFault) (o : Option OpenCall) → option_map (book_next book) o ≡ Some r → (k : OpenCall) × (o ≡ Some k)
has_call book l r None h = absurd (cc)
has_call book l r (Some k) h = (k, refl)

next_more : (book : Book) (calls more : List OpenCall) (r : Result ReplyLine LineFault) → next_in book calls r ≡ Some r → (line_taken r (calls ++ more) ≡ line_taken r calls ++ more) × (next_in book (calls ++ more) r ≡ Some r)
next_more book calls more (Ok l) h =
    let k = has_call book l (Ok l) (find_open (number_of l) calls) h in
    (line_more l calls more k.0 k.1, ap (option_map (book_next book)) (find_more (number_of l) calls more k.0 k.1 ∙ sym k.1) ∙ h)
next_more book calls more (Err fault) h = absurd (cc)

ahead_more : (book : Book) (kept : Option (List ℕ)) (calls more : List OpenCall) → ((line : List ℕ) → kept ≡ Some line → IsNext book calls line) → ahead kept (calls ++ more) ≡ ahead kept calls ++ more
ahead_more book None calls more h = refl
ahead_more book (Some bytes) calls more h = (next_more book calls more (line_of bytes) (h bytes refl)).0

both : (a b : Bool) → (a && b) ≡ true → (a ≡ true) × (b ≡ true)
both true b h = (refl, h)
both false b h = absurd (cc)

within_more : (book : Book) (calls : List OpenCall) (id : ℕ) (what : Asked) → all_within book calls ≡ true → all_within book (calls ++ record { id = id; asked = what; taken = 0 } ∷ []) ≡ true
within_more book [] id what all = ap (λ b. b && true) (le-leb 0 (length (replied book what)) (omega arith))
within_more book (c ∷ calls) id what all = let p = both _ _ all in ap (λ b. b && all_within book (calls ++ record { id = id; asked = what; taken = 0 } ∷ [])) p.0 ∙ within_more book calls id what p.1

pub pending-heard : (log : List Event) (bytes : List ℕ) → pending (log ++ Heard bytes ∷ []) ≡ opened (request_of bytes) (pending log)
pending-heard log bytes = fold-append after [] log (Heard bytes ∷ [])

-- ---- a link keeps what it keeps

module _ (tells : Bool) (book : Book) (log : List Event) (last : List ℕ) (gives : ℕ) (kept : Option (List ℕ)) (up : Bool) (fs : List Flight) (h : Holds tells book log last gives kept up (calls_of fs)) where
  pub sent : (log' : List Event) (last' : List ℕ) (gives' : ℕ) (bytes : List ℕ) (f : Flight) (function : Option (List ℕ)) → f.taken ≡ 0 → request_of bytes ≡ Ok (Ask f.id (asked_by f.job) function) → (IsTrue tells → log' ≡ log ++ Heard bytes ∷ []) → last' ≡ last → gives' ≡ gives
      → Holds tells book log' last' gives' kept up (calls_of (fs ++ f ∷ []))
  sent log' last' gives' bytes f function none reads heard same count =
      let new : OpenCall = record { id = f.id; asked = (asked_by f.job); taken = 0 } in
      let calls : calls_of (fs ++ f ∷ []) ≡ calls_of fs ++ new ∷ [] = map-append open_of fs (f ∷ []) ∙ ap (λ n. calls_of fs ++ record { id = f.id; asked = (asked_by f.job); taken = n } ∷ []) none in
      record {
        stands = λ p is. ap pending (heard is) ∙ pending-heard log bytes ∙ ap (λ r. opened r (pending log)) reads ∙ ap (λ l. l ++ new ∷ []) (h.stands p is)
            ∙ sym (ahead_more book kept (calls_of fs) (new ∷ []) (λ line e. h.next line e p is)) ∙ sym (ap (ahead kept) calls);
        next = λ line e p is. subst (λ cs. IsNext book cs line) (sym calls) (next_more book (calls_of fs) (new ∷ []) (line_of line) (h.next line e p is)).1;
        within = λ is. ap (all_within book) calls ∙ within_more book (calls_of fs) f.id (asked_by f.job) (h.within is);
        waits = λ l e. (same ∙ (h.waits l e).0, subst (λ n. 1 ≤ n) (sym count) (h.waits l e).1);
      }

  pub not_sent : (log' : List Event) (last' : List ℕ) (gives' : ℕ) (f : Flight) → f.taken ≡ 0 → last' ≡ last → gives' ≡ gives → Holds tells book log' last' gives' kept false (calls_of (fs ++ f ∷ []))
  not_sent log' last' gives' f none same count =
      let new : OpenCall = record { id = f.id; asked = (asked_by f.job); taken = 0 } in
      let calls : calls_of (fs ++ f ∷ []) ≡ calls_of fs ++ new ∷ [] = map-append open_of fs (f ∷ []) ∙ ap (λ n. calls_of fs ++ record { id = f.id; asked = (asked_by f.job); taken = n } ∷ []) none in
      record {
        stands = λ p is. absurd (cc);
        next = λ l e p is. absurd (cc);
        within = λ is. ap (all_within book) calls ∙ within_more book (calls_of fs) f.id (asked_by f.job) (h.within is);
        waits = λ l e. (same ∙ (h.waits l e).0, subst (λ n. 1 ≤ n) (sym count) (h.waits l e).1);
      }

-- ---- a child that was started

pub started : (tells : Bool) (book : Book) (log log' : List Event) (last : List ℕ) (gives : ℕ) (fs : List Flight) → fs ≡ [] → (IsTrue tells → log' ≡ log ++ Started ∷ []) → Holds tells book log' last gives None true (calls_of fs)
started tells book log log' last gives fs none start = record {
  stands = λ p is. ap pending (start is) ∙ fold-append after [] log (Started ∷ []) ∙ sym (ap calls_of none);
  next = λ l e p is. absurd (cc);
  within = λ is. ap (λ xs. all_within book (calls_of xs)) none;
  waits = λ l e. absurd (cc);
}

pub not_started : (tells : Bool) (book : Book) (log : List Event) (last : List ℕ) (gives : ℕ) (fs : List Flight) → fs ≡ [] → Holds tells book log last gives None false (calls_of fs)
not_started tells book log last gives fs none = record {
  stands = λ p is. absurd (cc);
  next = λ l e p is. absurd (cc);
  within = λ is. ap (λ xs. all_within book (calls_of xs)) none;
  waits = λ l e. absurd (cc);
}
