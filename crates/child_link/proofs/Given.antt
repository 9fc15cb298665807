-- What a received line does to the calls, counted with repeats.
use Rattle.std.proofs.Common.{◌≡◌, ℕ, ◌<◌, nat_lt, cond, inl, inr, Bool, true, false, List, [], Option, Some, None, Result, Ok, Err, refl, sym, ap, ◌∙◌, arith}
use Rattle.std.specs.Prelude.{slice_get, IsTrue, IsSome, OnOk, OnErr}
use Rattle.sp_value.specs.declared.cell.Cell.{Cell}
use Rattle.std.proofs.lemmas.Bool.{lt-ltb}
use Rattle.std.proofs.lemmas.Option.{slice_get_cases}
use Rattle.sp_model.specs.Book.{Book}
use Rattle.sp_model.specs.Sayable.{KeepsForms}
use Rattle.sp_model.specs.declared.call.Asked.{Asked}
use Rattle.sp_model.specs.declared.call.Asked.TheVariants as asked
use Rattle.sp_model.specs.declared.call.CallKey.{CallKey}
use Rattle.sp_model.specs.declared.call.Reply.{Reply}
use Rattle.sp_model.specs.declared.call.Piece.TheVariants as piece
use Rattle.sp_world.specs.Told as told
use Rattle.sp_world.specs.Told.{Answer}
use Rattle.sp_world.specs.Fits.{told_by, book_line, line_for, piece_or}
use Rattle.sp_world.specs.ReplyLines.{ReplyLine, line_of}
use Rattle.sp_world.specs.declared.line.LineFault.{LineFault}
use Rattle.sp_outside.specs.Log.{pending, find_open, line_taken}
use Rattle.sp_outside.specs.declared.log.Event.{Event}
use Rattle.sp_outside.specs.declared.log.Loss.TheVariants as loss
use Rattle.sp_outside.specs.declared.log.OpenCall.{OpenCall}
use Rattle.child_link.specs.Arrivals.{number_of}
use Rattle.child_link.specs.Arrived.{is_item, is_memory, IsCounted, IsMisfit, IsFitting, GrewBy}
use Rattle.child_link.specs.Bag.{Weight, weigh, heard, again}
use Rattle.child_link.specs.Holds.{Holds}
use Rattle.child_link.specs.Ledger.{Moves}
use Rattle.child_link.specs.Open.{calls_of, next_in, ahead, answer_in, told_to}
use Rattle.child_link.proofs.Holding.{next_of}
use Rattle.child_link.proofs.Sending.{has_call}
use Rattle.child_link.proofs.Taking.{ending_told, version_told, item_line}
use Rattle.child_link.proofs.Weighing.{weigh_taken, heard_given, again_given, given_moves}
use Rattle.child_link.specs.declared.arrival.RecvEnd.{RecvEnd}
use Rattle.child_link.specs.declared.arrival.RecvEnd.TheVariants as end
use Rattle.child_link.specs.declared.flight.Flight.{Flight}

piece_item : (key : CallKey) (id place : ℕ) (r : Reply) (o : Option Cell) → told_by (asked.Call key) place (line_for id (piece_or place r o)) ≡ None → is_item (line_for id (piece_or place r o)) ≡ true
piece_item key id place r (Some x) h = refl
piece_item key id place r None h = absurd (let e = ending_told key id place r.ending in cc)

-- a line of the book that its call doesn't take is an item
none_item : (book : Book) (id : ℕ) (what : Asked) (place : ℕ) → told_by what place (book_line book id what place) ≡ None → is_item (book_line book id what place) ≡ true
none_item book id (asked.Call key) place h = piece_item key id place (book.reply key) (slice_get (book.reply key).items place) h
none_item book id (asked.Version connection tick) place h = absurd (let e = version_told connection tick id place (book.version connection tick) in cc)
none_item book id (asked.Declare connection) place h = absurd (cc)

misfit_line : (w : Weight) (book : Book) (calls : List OpenCall) (r : Result ReplyLine LineFault) → next_in book calls r ≡ Some r → answer_in calls r ≡ None → weigh w (line_taken r calls) ≡ weigh w calls
misfit_line w book calls (Ok l) next none =
    let k = has_call book l (Ok l) (find_open (number_of l) calls) next in
    let is = next_of book calls l k.0 next k.1 in
    let told : told_by k.0.asked k.0.taken l ≡ None = sym (ap (λ o. told_to o l) k.1) ∙ none in
    let item : is_item l ≡ true = ap is_item is ∙ none_item book k.0.id k.0.asked k.0.taken (sym (ap (told_by k.0.asked k.0.taken) is) ∙ told) in
    ap (weigh w) (item_line l calls item) ∙ weigh_taken w (number_of l) calls
misfit_line w book calls (Err fault) next none = refl

same_weight : (log log' : List Event) (calls calls' : List OpenCall) (line : List ℕ) → GrewBy (Some line) log log' → pending log ≡ calls → ((w : Weight) → weigh w (pending log') ≡ weigh w calls) → calls' ≡ calls → Moves log calls log' calls' [] []
same_weight log log' calls calls' line is before now same w =
    let d = ap (heard w) is ∙ heard_given w log line in
    let a = ap (again w) is ∙ again_given w log line in
    let b = ap (weigh w) before in
    let n = now w in
    let c = ap (weigh w) same in
    omega (arith, d, a, b, n, c)

pub settle_moves : {T : Type 0} (tells : Bool) (book : Book) (log log' : List Event) (last : List ℕ) (gives : ℕ) (kept : Option (List ℕ)) (up : Bool) (fs gs : List Flight) (r : Result T RecvEnd)
    → IsTrue tells → pending log ≡ calls_of fs → Holds tells book log' last gives kept up (calls_of fs) → up ≡ true → IsSome kept → GrewBy kept log log' → OnOk r (calls_of gs ≡ ahead kept (calls_of fs)) → OnErr r (gs ≡ fs)
    → IsMisfit r last (calls_of fs) → IsCounted r 1 0 → is_memory r ≡ false → Moves log (calls_of fs) log' (calls_of gs) [] []
settle_moves tells book log log' last gives None up fs gs r is before holds is_up some grew ok err misfit counted memory = absurd (cc)
settle_moves tells book log log' last gives (Some line) up fs gs (Ok t) is before holds is_up some grew ok err misfit counted memory =
    given_moves log log' (calls_of fs) (calls_of gs) line grew before (holds.stands is_up is ∙ sym ok)
settle_moves tells book log log' last gives (Some line) up fs gs (Err (end.Lost loss.Fault)) is before holds is_up some grew ok err misfit counted memory = absurd (omega (arith, counted))
settle_moves tells book log log' last gives (Some line) up fs gs (Err (end.Lost (loss.Bad bytes rest))) is before holds is_up some grew ok err misfit counted memory =
    let same : bytes ≡ line = misfit.0 ∙ (holds.waits line refl).0 in
    same_weight log log' (calls_of fs) (calls_of gs) line grew before
    (λ w. ap (weigh w) (holds.stands is_up is) ∙ misfit_line w book (calls_of fs) (line_of line) (holds.next line refl is_up is) (ap (λ b. answer_in (calls_of fs) (line_of b)) (sym same) ∙ misfit.2))
    (ap calls_of err)
settle_moves tells book log log' last gives (Some line) up fs gs (Err end.Memory) is before holds is_up some grew ok err misfit counted memory = absurd (cc)

-- ---- a book whose answers lines can say

small_told : (place : ℕ) (a : Answer) → place < 999999 → cond (nat_lt place 999999) (Some a) None ≡ None → ⊥
small_told place a small h = absurd (let f = ap (λ b. cond b (Some a) None) (lt-ltb place 999999 small) in cc)

-- its lines answer their calls
fits : (book : Book) → KeepsForms book → (id : ℕ) (what : Asked) (place : ℕ) → told_by what place (book_line book id what place) ≡ None → ⊥
fits book keeps id (asked.Call key) place h =
    let items = (book.reply key).items in
    elim (slice_get_cases items place).1 [
      | inl w ↦ small_told place (told.Piece (piece.Item place w.0)) (omega (arith, w.1, (keeps.0 key).1))
          (sym (ap (λ s. told_by (asked.Call key) place (line_for id (piece_or place (book.reply key) s))) w.2) ∙ h)
      | inr w ↦ absurd (let e = ending_told key id place (book.reply key).ending in
          let f = sym (ap (λ s. told_by (asked.Call key) place (line_for id (piece_or place (book.reply key) s))) w.1) ∙ h in cc)
    ]
fits book keeps id (asked.Version connection tick) place h = absurd (let e = version_told connection tick id place (book.version connection tick) in cc)
fits book keeps id (asked.Declare connection) place h = absurd (cc)

fitting_line : (book : Book) (calls : List OpenCall) (r : Result ReplyLine LineFault) → KeepsForms book → next_in book calls r ≡ Some r → answer_in calls r ≡ None → ⊥
fitting_line book calls (Ok l) keeps next none =
    let k = has_call book l (Ok l) (find_open (number_of l) calls) next in
    let is = next_of book calls l k.0 next k.1 in
    fits book keeps k.0.id k.0.asked k.0.taken (sym (ap (told_by k.0.asked k.0.taken) is) ∙ sym (ap (λ o. told_to o l) k.1) ∙ none)
fitting_line book calls (Err fault) keeps next none = absurd (cc)

-- so that none of them loses the child
pub no_misfit : {T : Type 0} (tells : Bool) (book : Book) (log : List Event) (last : List ℕ) (gives : ℕ) (kept : Option (List ℕ)) (up : Bool) (fs : List Flight) (r : Result T RecvEnd)
    → IsTrue tells → KeepsForms book → Holds tells book log last gives kept up (calls_of fs) → up ≡ true → IsSome kept → IsMisfit r last (calls_of fs) → IsFitting r
no_misfit tells book log last gives kept up fs (Ok t) is keeps holds is_up some misfit = tt
no_misfit tells book log last gives kept up fs (Err end.Memory) is keeps holds is_up some misfit = tt
no_misfit tells book log last gives kept up fs (Err (end.Lost loss.Fault)) is keeps holds is_up some misfit = tt
no_misfit tells book log last gives None up fs (Err (end.Lost (loss.Bad bytes rest))) is keeps holds is_up some misfit = absurd (cc)
no_misfit tells book log last gives (Some line) up fs (Err (end.Lost (loss.Bad bytes rest))) is keeps holds is_up some misfit =
    let same : bytes ≡ line = misfit.0 ∙ (holds.waits line refl).0 in
    absurd (fitting_line book (calls_of fs) (line_of line) keeps (holds.next line refl is_up is) (ap (λ b. answer_in (calls_of fs) (line_of b)) (sym same) ∙ misfit.2))
