-- A link keeps what it keeps.
use Rattle.std.proofs.Common.{◌≡◌, ℕ, ◌+◌, ◌≤◌, ◌++◌, Bool, true, false, ◌&&◌, cond, List, [], ◌∷◌, length, Option, Some, None, Result, Ok, refl, sym, ap, ◌∙◌, arith, nat_eq, subst, inl, inr}
use Rattle.std.specs.Prelude.{slice_get, option_map, IsTrue}
use Rattle.std.proofs.lemmas.Bool.{le-leb}
use Rattle.std.proofs.lemmas.Option.{slice_get_cases}
use Rattle.std.proofs.lemmas.List.Sums.{fold-append}
use Rattle.sp_value.specs.declared.cell.Cell.{Cell}
use Rattle.sp_model.specs.Book.{Book}
use Rattle.sp_model.specs.declared.call.Asked.{Asked}
use Rattle.sp_model.specs.declared.call.Asked.TheVariants as asked
use Rattle.sp_model.specs.declared.call.Ending.{Ending}
use Rattle.sp_model.specs.declared.call.Ending.TheVariants as ending
use Rattle.sp_model.specs.declared.call.Reply.{Reply}
use Rattle.sp_model.specs.declared.call.Piece.TheVariants as piece
use Rattle.sp_model.specs.declared.call.Version as v
use Rattle.sp_model.specs.declared.call.Version.TheVariants.{Is, Bad}
use Rattle.sp_world.specs.Fits.{book_line, line_for, piece_or}
use Rattle.sp_world.specs.Told.{Answer}
use Rattle.sp_world.specs.Told as told
use Rattle.sp_world.specs.ReplyLines.{ReplyLine, line_of}
use Rattle.sp_world.specs.ReplyLines as line
use Rattle.sp_world.specs.declared.line.LineFault.{LineFault}
use Rattle.sp_outside.specs.Log.{pending, after, find_open, item_taken, closed, one_more, line_taken, next_line, IsNextLine}
use Rattle.sp_outside.specs.declared.log.Event.{Event}
use Rattle.sp_outside.specs.declared.log.Event.TheVariants.{Given}
use Rattle.sp_outside.specs.declared.log.OpenCall.{OpenCall}
use Rattle.child_link.specs.Arrivals.{number_of, replied}
use Rattle.child_link.specs.Arrived.{is_item}
use Rattle.child_link.specs.Open.{calls_of, next_in, book_next, ahead, IsNext}
use Rattle.child_link.specs.Holds.{Holds, all_within}
use Rattle.child_link.specs.declared.flight.Flight.{Flight}

-- ---- a line is given

ending_named : (id place : ℕ) (e : Ending) → number_of (line_for id (told.Piece (piece.Ending place e))) ≡ id
ending_named id place ending.End = refl
ending_named id place (ending.Error text) = refl

piece_named : (id place : ℕ) (r : Reply) (o : Option Cell) → number_of (line_for id (piece_or place r o)) ≡ id
piece_named id place r (Some x) = refl
piece_named id place r None = ending_named id place r.ending

version_named : (id : ℕ) (n : v.Version) → number_of (line_for id (told.Version n)) ≡ id
version_named id (Is n) = refl
version_named id (Bad text) = refl

next_named : (book : Book) (id : ℕ) (what : Asked) (place : ℕ) → number_of (book_line book id what place) ≡ id
next_named book id (asked.Call key) place = piece_named id place (book.reply key) (slice_get (book.reply key).items place)
next_named book id (asked.Version connection tick) place = version_named id (book.version connection tick)
next_named book id (asked.Declare connection) place = refl

pub is_next : (book : Book) (calls : List OpenCall) (bytes : List ℕ) → IsNextLine book calls bytes → IsNext book calls bytes
is_next book calls bytes next =
    let call = next.call in
    let l = next_line book call in
    ap (next_in book calls) next.reads
    ∙ ap (λ id. option_map (book_next book) (find_open id calls)) (next_named book call.id call.asked call.taken)
    ∙ ap (option_map (book_next book)) next.is_open ∙ ap Some (sym next.reads)

-- ---- no more items than the reply has

both : (a b : Bool) → (a && b) ≡ true → (a ≡ true) × (b ≡ true)
both true b h = (refl, h)
both false b h = absurd (cc)

and_true : (a b : Bool) → a ≡ true → b ≡ true → (a && b) ≡ true
and_true a b p q = ap (λ x. x && b) p ∙ q

closed_with : (book : Book) (b : Bool) (c : OpenCall) (calls rest : List OpenCall) → all_within book (c ∷ calls) ≡ true → all_within book rest ≡ true → all_within book (cond b calls (c ∷ rest)) ≡ true
closed_with book true c calls rest all more = (both _ _ all).1
closed_with book false c calls rest all more = and_true _ _ (both _ _ all).0 more

pub within_closed : (book : Book) (id : ℕ) (calls : List OpenCall) → all_within book calls ≡ true → all_within book (closed id calls) ≡ true
within_closed book id [] all = refl
within_closed book id (c ∷ calls) all = closed_with book (nat_eq c.id id) c calls (closed id calls) all (within_closed book id calls (both _ _ all).1)

taken_with : (book : Book) (b : Bool) (id : ℕ) (c : OpenCall) (calls : List OpenCall) → nat_eq c.id id ≡ b → all_within book (c ∷ calls) ≡ true
    → ((k : OpenCall) → find_open id (c ∷ calls) ≡ Some k → k.taken + 1 ≤ length (replied book k.asked))
    → (((k : OpenCall) → find_open id calls ≡ Some k → k.taken + 1 ≤ length (replied book k.asked)) → all_within book (item_taken id calls) ≡ true)
    → all_within book (item_taken id (c ∷ calls)) ≡ true
taken_with book true id c calls is all small rec =
    ap (λ x. all_within book (cond x (one_more c ∷ calls) (c ∷ item_taken id calls))) is
    ∙ and_true _ _ (le-leb _ _ (small c (ap (λ x. cond x (Some c) (find_open id calls)) is))) (both _ _ all).1
taken_with book false id c calls is all small rec =
    ap (λ x. all_within book (cond x (one_more c ∷ calls) (c ∷ item_taken id calls))) is
    ∙ and_true _ _ (both _ _ all).0 (rec (λ k e. small k (ap (λ x. cond x (Some c) (find_open id calls)) is ∙ e)))

within_taken : (book : Book) (id : ℕ) (calls : List OpenCall) → all_within book calls ≡ true → ((k : OpenCall) → find_open id calls ≡ Some k → k.taken + 1 ≤ length (replied book k.asked)) → all_within book (item_taken id calls) ≡ true
within_taken book id [] all small = refl
within_taken book id (c ∷ calls) all small = taken_with book (nat_eq c.id id) id c calls refl all small (within_taken book id calls (both _ _ all).1)

ending_item : (id place : ℕ) (e : Ending) → is_item (line_for id (told.Piece (piece.Ending place e))) ≡ true → ⊥
ending_item id place ending.End h = absurd (cc)
ending_item id place (ending.Error text) h = absurd (cc)

version_item : (id : ℕ) (n : v.Version) → is_item (line_for id (told.Version n)) ≡ true → ⊥
version_item id (Is n) h = absurd (cc)
version_item id (Bad text) h = absurd (cc)

more_within : (book : Book) (id : ℕ) (what : Asked) (place : ℕ) → is_item (book_line book id what place) ≡ true → place + 1 ≤ length (replied book what)
more_within book id (asked.Call key) place h =
    let r = book.reply key in
    elim (slice_get_cases r.items place).1 [
      | inl w ↦ omega (arith, w.1)
      | inr w ↦ absurd (ending_item id place r.ending (sym (ap (λ s. is_item (line_for id (piece_or place r s))) w.1) ∙ h))
    ]
more_within book id (asked.Version connection tick) place h = absurd (version_item id (book.version connection tick) h)
more_within book id (asked.Declare connection) place h = absurd (cc)

same_some : {A : Type 0} (x a : A) → Some x ≡ Some a → x ≡ a
same_some x a e = cc

same_ok : (x a : ReplyLine) → ◌≡◌ {A = Result ReplyLine LineFault} (Ok x) (Ok a) → x ≡ a
same_ok x a e = cc

-- the line is the next one of the call that is found
pub next_of : (book : Book) (calls : List OpenCall) (l : ReplyLine) (k : OpenCall) → next_in book calls (Ok l) ≡ Some (Ok l) → find_open (number_of l) calls ≡ Some k → l ≡ next_line book k
next_of book calls l k next is = sym (same_ok (next_line book k) l (same_some _ _ (sym (ap (option_map (book_next book)) is) ∙ next)))

within_line : (book : Book) (calls : List OpenCall) (l : ReplyLine) → all_within book calls ≡ true → next_in book calls (Ok l) ≡ Some (Ok l) → all_within book (line_taken (Ok l) calls) ≡ true
within_line book calls (line.Item id item) all next = within_taken book id calls all
    (λ k is. more_within book k.id k.asked k.taken (ap is_item (sym (next_of book calls (line.Item id item) k next is))))
within_line book calls (line.End id) all next = within_closed book id calls all
within_line book calls (line.Error id text) all next = within_closed book id calls all
within_line book calls (line.Version id n) all next = within_closed book id calls all
within_line book calls (line.Declaration id d) all next = within_closed book id calls all

-- ---- what a link keeps

pub pending-given : (log : List Event) (bytes : List ℕ) → pending (log ++ Given bytes ∷ []) ≡ line_taken (line_of bytes) (pending log)
pending-given log bytes = fold-append after [] log (Given bytes ∷ [])

no_calls : (fs : List Flight) → calls_of fs ≡ [] → fs ≡ []
no_calls [] e = refl
no_calls (f ∷ fs) e = absurd (cc)

module _ (tells : Bool) (book : Book) (log : List Event) (last : List ℕ) (gives : ℕ) (kept : Option (List ℕ)) (up : Bool) (fs : List Flight) (h : Holds tells book log last gives kept up (calls_of fs)) where
  -- some call is open at the child
  pub some_open : kept ≡ None → up ≡ true → (fs ≡ [] → ⊥) → IsTrue tells → pending log ≡ [] → ⊥
  some_open none is_up some is none_open = some (no_calls fs (sym (ap (λ k. ahead k (calls_of fs)) none) ∙ sym (h.stands is_up is) ∙ none_open))

  -- it gave a line
  pub filled : (log' : List Event) (last' bytes : List ℕ) (gives' : ℕ) → 1 ≤ gives' → kept ≡ None → up ≡ true → (IsTrue tells → log' ≡ log ++ Given bytes ∷ []) → (IsTrue tells → IsNextLine book (pending log) bytes) → last' ≡ bytes
      → Holds tells book log' last' gives' (Some bytes) up (calls_of fs)
  filled log' last' bytes gives' some none is_up gave next is_last = record {
    stands = λ p is. ap pending (gave is) ∙ pending-given log bytes ∙ ap (line_taken (line_of bytes)) (h.stands p is ∙ ap (λ k. ahead k (calls_of fs)) none);
    next = λ l e p is. subst (IsNext book (calls_of fs)) (same_some bytes l e) (subst (λ cs. IsNext book cs bytes) (h.stands p is ∙ ap (λ k. ahead k (calls_of fs)) none) (is_next book (pending log) bytes (next is)));
    within = h.within;
    waits = λ l e. (is_last ∙ same_some bytes l e, some);
  }

  -- it is lost
  pub down : (log' : List Event) (last' : List ℕ) (gives' : ℕ) → last' ≡ last → gives' ≡ gives → Holds tells book log' last' gives' kept false (calls_of fs)
  down log' last' gives' same count = record {
    stands = λ p is. absurd (cc);
    next = λ l e p is. absurd (cc);
    within = h.within;
    waits = λ l e. (same ∙ (h.waits l e).0, subst (λ n. 1 ≤ n) (sym count) (h.waits l e).1);
  }

  -- nothing happened
  pub quiet : (log' : List Event) (last' : List ℕ) (gives' : ℕ) → (IsTrue tells → log' ≡ log) → last' ≡ last → gives' ≡ gives → Holds tells book log' last' gives' kept up (calls_of fs)
  quiet log' last' gives' no_log same count = record {
    stands = λ p is. ap pending (no_log is) ∙ h.stands p is;
    next = h.next;
    within = h.within;
    waits = λ l e. (same ∙ (h.waits l e).0, subst (λ n. 1 ≤ n) (sym count) (h.waits l e).1);
  }

  -- the line that waits is the next one
  pub waiting : (bytes : List ℕ) (l : ReplyLine) → kept ≡ Some bytes → up ≡ true → line_of bytes ≡ Ok l → IsTrue tells → next_in book (calls_of fs) (Ok l) ≡ Some (Ok l)
  waiting bytes l is_kept is_up reads is = subst (λ r. next_in book (calls_of fs) r ≡ Some r) reads (h.next bytes is_kept is_up is)

  -- it is taken in
  pub settled : (bytes : List ℕ) (l : ReplyLine) (gs : List Flight) → kept ≡ Some bytes → up ≡ true → line_of bytes ≡ Ok l → calls_of gs ≡ line_taken (Ok l) (calls_of fs) → Holds tells book log last gives None up (calls_of gs)
  settled bytes l gs is_kept is_up reads taken = record {
    stands = λ p is. h.stands p is ∙ ap (λ k. ahead k (calls_of fs)) is_kept ∙ ap (λ r. line_taken r (calls_of fs)) reads ∙ sym taken;
    next = λ l' e p is. absurd (cc);
    within = λ is. ap (all_within book) taken ∙ within_line book (calls_of fs) l (h.within is) (waiting bytes l is_kept is_up reads is);
    waits = λ l' e. absurd (cc);
  }
