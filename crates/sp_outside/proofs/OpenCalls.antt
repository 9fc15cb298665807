-- What a line does to the open calls of a child that answers from a book.
use Rattle.std.proofs.Common.{◌≡◌, ℕ, zero, suc, ◌+◌, ◌%◌, ◌<◌, ◌^◌, List, [], ◌∷◌, ◌++◌, length, map, drop, get_or, Bool, true, false, Some, Ok, Err, Result, IsErr, IfOk, cond, refl, sym, ap, ◌∙◌, arith, nat_lt, subst, inl, inr, add-one, eq-eqb}
use Rattle.std.specs.Prelude.{slice_get, slice_set}
use Rattle.std.specs.List.{AllByRecursion, remove}
use Rattle.std.proofs.Math.Seq.{drop-cons}
use Rattle.std.proofs.lemmas.Bool.{lt-ltb, le-ltb, eqb-true, ne_eqb}
use Rattle.std.proofs.lemmas.List.{map-append, length-map}
use Rattle.std.proofs.lemmas.List.Sums.{fold-append}
use Rattle.std.proofs.lemmas.Option.{slice_get_cases}
use Rattle.sp_model.specs.Book.{Book}
use Rattle.sp_model.specs.Sayable.{KeepsForms, IsSayableVersion}
use Rattle.sp_model.specs.declared.call.Asked.{Asked}
use Rattle.sp_model.specs.declared.call.Asked.TheVariants as asked
use Rattle.sp_model.specs.declared.call.Ending as ending
use Rattle.sp_model.specs.declared.call.Ending.TheVariants as ended
use Rattle.sp_model.specs.declared.call.Piece.TheVariants as piece
use Rattle.sp_model.specs.declared.call.Reply.{Reply}
use Rattle.sp_model.specs.declared.call.Version as version
use Rattle.sp_model.specs.declared.call.Version.TheVariants.{Is, Bad}
use Rattle.sp_world.specs.Fits.{book_line, line_for, piece_or}
use Rattle.sp_world.specs.Told as told
use Rattle.sp_world.specs.ReplyLines.{IsLineForm, line_of}
use Rattle.sp_world.specs.RequestLines.{request_of}
use Rattle.sp_world.specs.declared.line.LineFault.{LineFault}
use Rattle.sp_world.specs.declared.line.Request.{Request}
use Rattle.sp_outside.specs.Log.{pending, after, opened, one_more, item_taken, closed, line_taken, find_open, next_line, IsNextLine, IsPickedLine}
use Rattle.sp_outside.specs.BookLog.{reply_of, IsAnswered, call_of, Stands, Opens, IsFirst, IsFirstLike, one_later, advanced}
use Rattle.sp_outside.specs.declared.book_log.Answering.{Answering}
use Rattle.sp_outside.specs.declared.log.Event.{Event}
use Rattle.sp_outside.specs.declared.log.Event.TheVariants.{Heard, Given}
use Rattle.sp_outside.specs.declared.log.OpenCall.{OpenCall}

pub if_ok : {T E : Type 0} (P Q : T → Type 0) (r : Result T E) → IfOk r P → ((v : T) → P v → Q v) → IfOk r Q
if_ok P Q (Ok v) is more = more v is
if_ok P Q (Err e) is more = tt

-- ---- the events

pub pending-given : (log : List Event) (bytes : List ℕ) → pending (log ++ Given bytes ∷ []) ≡ line_taken (line_of bytes) (pending log)
pending-given log bytes = fold-append after [] log (Given bytes ∷ [])

pub pending-heard : (log : List Event) (bytes : List ℕ) → pending (log ++ Heard bytes ∷ []) ≡ opened (request_of bytes) (pending log)
pending-heard log bytes = fold-append after [] log (Heard bytes ∷ [])

-- ---- the form of the book's lines

ending_form : (id place : ℕ) (e : ending.Ending) → id < 2 ^ 63 → IsLineForm (line_for id (told.Piece (piece.Ending place e)))
ending_form id place ended.End small = small
ending_form id place (ended.Error text) small = small

-- a line of a book that keeps its forms is one that is read again
pub book_form : (book : Book) → KeepsForms book → (id : ℕ) → id < 2 ^ 63 → (what : Asked) (place : ℕ) → IsLineForm (book_line book id what place)
book_form book forms id small (asked.Call key) place = elim (slice_get_cases (book.reply key).items place).1 [
  | inl w ↦ subst (λ s. IsLineForm (line_for id (piece_or place (book.reply key) s))) (sym w.2) (small, (forms.0 key).0 place w.0 w.2)
  | inr w ↦ subst (λ s. IsLineForm (line_for id (piece_or place (book.reply key) s))) (sym w.1) (ending_form id place (book.reply key).ending small)
]
book_form book forms id small (asked.Version connection tick) place = version_form (book.version connection tick) (forms.1 connection tick)
  where
    version_form : (v : version.Version) → IsSayableVersion v → IsLineForm (line_for id (told.Version v))
    version_form (Is n) below = (small, below)
    version_form (Bad text) form = small
book_form book forms id small (asked.Declare connection) place = (small, forms.2 connection)

-- ---- what the next line does to its call

-- whether the next line is an item
abbrev has_more : Answering → Bool
has_more a = nat_lt a.call.taken (length a.reply.items)

ending_taken : (id place : ℕ) (e : ending.Ending) (calls : List OpenCall) → line_taken (Ok (line_for id (told.Piece (piece.Ending place e)))) calls ≡ closed id calls
ending_taken id place ended.End calls = refl
ending_taken id place (ended.Error text) calls = refl

version_taken : (id : ℕ) (v : version.Version) (calls : List OpenCall) → line_taken (Ok (line_for id (told.Version v))) calls ≡ closed id calls
version_taken id (Is n) calls = refl
version_taken id (Bad text) calls = refl

no_more : (taken : ℕ) (r : Reply) → r ≡ record { items = []; ending = ended.End } → nat_lt taken (length r.items) ≡ false
no_more taken r is = ap (λ q. nat_lt taken (length q.items)) is ∙ le-ltb taken 0 (omega arith)

-- an item leaves the call open, and every other line ends it
line_taken-book_line : (book : Book) (id : ℕ) (what : Asked) (taken : ℕ) (r : Reply) (calls : List OpenCall) → r ≡ reply_of book what
    → line_taken (Ok (book_line book id what taken)) calls ≡ cond (nat_lt taken (length r.items)) (item_taken id calls) (closed id calls)
line_taken-book_line book id (asked.Call key) taken r calls is = elim (slice_get_cases (book.reply key).items taken).1 [
  | inl w ↦ ap (λ s. line_taken (Ok (line_for id (piece_or taken (book.reply key) s))) calls) w.2
      ∙ sym (ap (λ b. cond b (item_taken id calls) (closed id calls)) (ap (λ q. nat_lt taken (length q.items)) is ∙ lt-ltb taken (length (book.reply key).items) w.1))
  | inr w ↦ ap (λ s. line_taken (Ok (line_for id (piece_or taken (book.reply key) s))) calls) w.1 ∙ ending_taken id taken (book.reply key).ending calls
      ∙ sym (ap (λ b. cond b (item_taken id calls) (closed id calls)) (ap (λ q. nat_lt taken (length q.items)) is ∙ le-ltb taken (length (book.reply key).items) w.0))
]
line_taken-book_line book id (asked.Version connection tick) taken r calls is =
    version_taken id (book.version connection tick) calls ∙ sym (ap (λ b. cond b (item_taken id calls) (closed id calls)) (no_more taken r is))
line_taken-book_line book id (asked.Declare connection) taken r calls is =
    sym (ap (λ b. cond b (item_taken id calls) (closed id calls)) (no_more taken r is))

-- ---- the first call of a number

same : (x a : Answering) → Some x ≡ Some a → x ≡ a
same x a e = cc

pub numbered : (id : ℕ) (calls : List Answering) (n : ℕ) (a : Answering) → IsFirst id calls n → slice_get calls n ≡ Some a → a.call.id ≡ id
numbered id [] n a first at = absurd first
numbered id (x ∷ xs) zero a first at = ap (λ y. y.call.id) (sym (same x a at)) ∙ eqb-true x.call.id id first
numbered id (x ∷ xs) (suc n) a first at = numbered id xs n a first.1 at

found : (id : ℕ) (calls : List Answering) (n : ℕ) (a : Answering) → IsFirst id calls n → slice_get calls n ≡ Some a → find_open id (map call_of calls) ≡ Some a.call
found id [] n a first at = absurd first
found id (x ∷ xs) zero a first at =
    ap (λ b. cond b (Some x.call) (find_open id (map call_of xs))) first ∙ ap (λ y. Some y.call) (same x a at)
found id (x ∷ xs) (suc n) a first at =
    ap (λ b. cond b (Some x.call) (find_open id (map call_of xs))) first.0 ∙ found id xs n a first.1 at

here : (b : Bool) (x : Answering) (xs : List Answering) → cond b (one_more x.call ∷ map call_of xs) (map call_of xs) ≡ map call_of (cond b (one_later x ∷ xs) xs)
here true x xs = refl
here false x xs = refl

beyond : (b : Bool) (o : OpenCall) (ps qs : List OpenCall) → cond b (o ∷ ps) (o ∷ qs) ≡ o ∷ cond b ps qs
beyond true o ps qs = refl
beyond false o ps qs = refl

moved : (id : ℕ) (calls : List Answering) (n : ℕ) (a : Answering) → IsFirst id calls n → slice_get calls n ≡ Some a
    → cond (has_more a) (item_taken id (map call_of calls)) (closed id (map call_of calls)) ≡ map call_of (advanced n calls)
moved id [] n a first at = absurd first
moved id (x ∷ xs) zero a first at =
    ap (λ b. cond (has_more a) (cond b (one_more x.call ∷ map call_of xs) (x.call ∷ item_taken id (map call_of xs))) (cond b (map call_of xs) (x.call ∷ closed id (map call_of xs)))) first
    ∙ ap (λ y. cond (has_more y) (one_more x.call ∷ map call_of xs) (map call_of xs)) (sym (same x a at)) ∙ here (has_more x) x xs
moved id (x ∷ xs) (suc n) a first at =
    ap (λ b. cond (has_more a) (cond b (one_more x.call ∷ map call_of xs) (x.call ∷ item_taken id (map call_of xs))) (cond b (map call_of xs) (x.call ∷ closed id (map call_of xs)))) first.0
    ∙ beyond (has_more a) x.call _ _ ∙ ap (λ l. x.call ∷ l) (moved id xs n a first.1 at)

pub all_at : (book : Book) (calls : List Answering) (n : ℕ) (a : Answering) → AllByRecursion (IsAnswered book) calls → slice_get calls n ≡ Some a → IsAnswered book a
all_at book [] n a all at = cc
all_at book (x ∷ xs) zero a all at = subst (IsAnswered book) (same x a at) all.0
all_at book (x ∷ xs) (suc n) a all at = all_at book xs n a all.1 at

all_here : (book : Book) (b : Bool) (x : Answering) (xs : List Answering) → IsAnswered book x → AllByRecursion (IsAnswered book) xs → AllByRecursion (IsAnswered book) (cond b (one_later x ∷ xs) xs)
all_here book true x xs one all = (one, all)
all_here book false x xs one all = all

all_advanced : (book : Book) (calls : List Answering) (n : ℕ) → AllByRecursion (IsAnswered book) calls → AllByRecursion (IsAnswered book) (advanced n calls)
all_advanced book [] n all = all
all_advanced book (x ∷ xs) zero all = all_here book (has_more x) x xs all.0 all.1
all_advanced book (x ∷ xs) (suc n) all = (all.0, all_advanced book xs n all.1)

all_append : (book : Book) (calls : List Answering) (a : Answering) → AllByRecursion (IsAnswered book) calls → IsAnswered book a → AllByRecursion (IsAnswered book) (calls ++ a ∷ [])
all_append book [] a all one = (one, tt)
all_append book (x ∷ xs) a all one = (all.0, all_append book xs a all.1 one)

-- ---- a line given

-- it is the next line of an open call
pub given_next : (book : Book) (log : List Event) (calls : List Answering) (id n : ℕ) (a : Answering) (bytes : List ℕ)
    → Stands book log calls → IsFirst id calls n → slice_get calls n ≡ Some a → line_of bytes ≡ Ok (next_line book a.call) → IsNextLine book (pending log) bytes
given_next book log calls id n a bytes stands first at said = record {
  call = a.call;
  is_open = ap (λ k. find_open k (pending log)) (numbered id calls n a first at) ∙ ap (find_open id) stands.0 ∙ found id calls n a first at;
  reads = said;
}

call_at : (calls : List Answering) (n : ℕ) (a : Answering) → slice_get calls n ≡ Some a → slice_get (map call_of calls) n ≡ Some a.call
call_at [] n a at = cc
call_at (x ∷ xs) zero a at = ap (λ y. Some y.call) (same x a at)
call_at (x ∷ xs) (suc n) a at = call_at xs n a at

-- it is the line of the call that was picked
pub given_picked : (book : Book) (log : List Event) (calls : List Answering) (pick count n : ℕ) (a : Answering) (bytes : List ℕ)
    → Stands book log calls → count ≡ length calls → IsFirstLike (pick % count) calls n → slice_get calls n ≡ Some a → line_of bytes ≡ Ok (next_line book a.call)
    → IsPickedLine book pick (pending log) bytes
given_picked book log calls pick count n a bytes stands counted first at said =
    record {
      like = first.like.call;
      call = a.call;
      is_there = ap (λ l. slice_get l (pick % length l)) stands.0 ∙ ap (λ k. slice_get (map call_of calls) (pick % k)) (length-map calls call_of ∙ sym counted)
          ∙ call_at calls (pick % count) first.like first.is_there;
      is_open = ap (find_open first.like.call.id) stands.0 ∙ found first.like.call.id calls n a first.is_first at;
      reads = said;
    }

-- and the open calls are those after it
pub given_stands : (book : Book) (log : List Event) (calls : List Answering) (id n : ℕ) (a : Answering) (bytes : List ℕ)
    → Stands book log calls → IsFirst id calls n → slice_get calls n ≡ Some a → line_of bytes ≡ Ok (next_line book a.call) → Stands book (log ++ Given bytes ∷ []) (advanced n calls)
given_stands book log calls id n a bytes stands first at said = (
  pending-given log bytes ∙ ap (λ l. line_taken l (pending log)) said ∙ ap (line_taken (Ok (next_line book a.call))) stands.0
      ∙ line_taken-book_line book a.call.id a.call.asked a.call.taken a.reply (map call_of calls) (all_at book calls n a stands.1 at).0
      ∙ ap (λ k. cond (has_more a) (item_taken k (map call_of calls)) (closed k (map call_of calls))) (numbered id calls n a first at) ∙ moved id calls n a first at,
  all_advanced book calls n stands.1,
)

-- ---- a line heard

opened_none : (r : Result Request LineFault) (calls : List OpenCall) → IsErr r → opened r calls ≡ calls
opened_none (Ok request) calls is = cc
opened_none (Err fault) calls is = refl

pub heard_none : (book : Book) (log : List Event) (calls : List Answering) (line : List ℕ) → Stands book log calls → IsErr (request_of line) → Stands book (log ++ Heard line ∷ []) calls
heard_none book log calls line stands is = (pending-heard log line ∙ opened_none (request_of line) (pending log) is ∙ stands.0, stands.1)

pub heard_some : (book : Book) (log : List Event) (calls : List Answering) (line : List ℕ) (a : Answering) → Stands book log calls → Opens book line (Some a) → Stands book (log ++ Heard line ∷ []) (calls ++ a ∷ [])
heard_some book log calls line a stands opens =
    let fresh : OpenCall = record { id = a.call.id; asked = a.call.asked; taken = 0 } in
    let is : fresh ≡ a.call = λ i. record { id = a.call.id; asked = a.call.asked; taken = sym opens.1 i } in (
      pending-heard log line ∙ ap (λ r. opened r (pending log)) opens.0.1 ∙ ap (λ l. l ++ fresh ∷ []) stands.0
          ∙ ap (λ o. map call_of calls ++ o ∷ []) is ∙ sym (map-append call_of calls (a ∷ [])),
      all_append book calls a stands.1 opens.2,
    )

-- ---- the places of calls

pub first_here : (calls : List Answering) (place : ℕ) (d : Answering) (id : ℕ) → place < length calls → (get_or calls place d).call.id ≡ id → IsFirst id (drop place calls) 0
first_here calls place d id within is = subst (λ l. IsFirst id l 0) (sym (drop-cons calls place d within)) (eq-eqb _ _ is)

pub first_later : (calls : List Answering) (place : ℕ) (d : Answering) (id n : ℕ) → place < length calls → ((get_or calls place d).call.id ≡ id → ⊥)
    → IsFirst id (drop (place + 1) calls) n → IsFirst id (drop place calls) (suc n)
first_later calls place d id n within other later =
    subst (λ l. IsFirst id l (suc n)) (sym (drop-cons calls place d within)) (ne_eqb _ _ other, subst (λ k. IsFirst id (drop k calls) n) (add-one place) later)

pub set_advanced : (calls : List Answering) (n : ℕ) (a : Answering) → slice_get calls n ≡ Some a → has_more a ≡ true → slice_set calls n (one_later a) ≡ advanced n calls
set_advanced [] n a at more = cc
set_advanced (x ∷ xs) zero a at more =
    let is : x ≡ a = same x a at in
    ap (λ y. one_later y ∷ xs) (sym is) ∙ sym (ap (λ b. cond b (one_later x ∷ xs) xs) (ap has_more is ∙ more))
set_advanced (x ∷ xs) (suc n) a at more = ap (λ l. x ∷ l) (set_advanced xs n a at more)

pub remove_advanced : (calls : List Answering) (n : ℕ) (a : Answering) → slice_get calls n ≡ Some a → has_more a ≡ false → remove calls n ≡ advanced n calls
remove_advanced [] n a at more = cc
remove_advanced (x ∷ xs) zero a at more = sym (ap (λ b. cond b (one_later x ∷ xs) xs) (ap has_more (same x a at) ∙ more))
remove_advanced (x ∷ xs) (suc n) a at more = ap (λ l. x ∷ l) (remove_advanced xs n a at more)

pub same_call : (calls : List Answering) (n : ℕ) (a b : Answering) → slice_get calls n ≡ Some a → slice_get calls n ≡ Some b → a ≡ b
same_call calls n a b first second = same a b (sym first ∙ second)
