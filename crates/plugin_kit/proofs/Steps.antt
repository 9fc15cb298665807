-- Serving step by step.
use Rattle.std.proofs.Common.{◌≡◌, ◌≢◌, ◌==◌, ◌^◌, ℕ, Bool, false, suc, ◌+◌, ◌≤◌, ◌<◌, List, [], ◌∷◌, ◌++◌, length, take, drop, position, Option, Some, None, refl, sym, ◌∙◌, ap, subst, append-nil, append_assoc, length-append, arith}
use Rattle.std.proofs.lemmas.List.{take-append-le}
use Rattle.std.specs.Prelude.{IfSome}
use Rattle.std.specs.Io.KnownBytes.{Appends, Keeps, IsAtEnd}
use Rattle.std.proofs.KnownBytes.{Appends-nil, Appends-trans, Consumes-nil, Consumes-trans, Consumes-kept}
use Rattle.sp_model.specs.Book.{Book}
use Rattle.sp_world.specs.declared.line.Request.{Request}
use Rattle.sp_outside.specs.Writing.{GrewByPrefix}
use Rattle.byte_lines.specs.Lines.{is_feed, lines_of}
use Rattle.plugin_kit.specs.Lines.{requests_of, first_bad, request_in, kept, and_then, bad_or}
use Rattle.plugin_kit.specs.Replies.{answer_to, answers_to, Answered, AnsweredInPart}
use Rattle.plugin_kit.specs.Serving.{IsAnswered, IsTaken, IsServed, known}
use Rattle.plugin_kit.specs.Steps.{bad_line, served_of, HasNoFeed, IsLineAnswered, IsLineBad, StopsAtLine, HasPassed, StopsWithin, IsBadAfter, IsServing, ReadsMore, ReadsNoMore}
use Rattle.plugin_kit.specs.declared.stop.Stop.{Stop}
use Rattle.plugin_kit.specs.declared.stop.Stop.TheVariants.{BadLine, WriteFault, Memory}
use Rattle.plugin_kit.specs.declared.served.Served.{Served}
use Rattle.plugin_kit.specs.declared.served.Served.TheVariants as served
use Rattle.byte_lines.proofs.Feeds.{first, first_within, first-append}
use Rattle.plugin_kit.proofs.Lines.{line_before, line_goes_on, line_at_end, GoesOn}
use Rattle.plugin_kit.proofs.Writing.{begun_nil, begun_after}

-- ---- answers to several requests

pub answered_none : (o : Option Book) (held : Option (List ℕ)) → Answered o held held []
answered_none None held = tt
answered_none (Some b) held = Appends-nil held

pub begun_none : (o : Option Book) (held : Option (List ℕ)) (requests : List Request) → AnsweredInPart o held held requests
begun_none None held requests = tt
begun_none (Some b) held requests = begun_nil held (answers_to b requests)

answers_append : (b : Book) (rs more : List Request) → answers_to b (rs ++ more) ≡ answers_to b rs ++ answers_to b more
answers_append b [] more = refl
answers_append b (r ∷ rs) more =
    ap (λ t. answer_to b r ++ t) (answers_append b rs more) ∙ sym (append_assoc (answer_to b r) (answers_to b rs) (answers_to b more))

pub answered_trans : (o : Option Book) (held mid now : Option (List ℕ)) (rs more : List Request) → Answered o held mid rs → Answered o mid now more → Answered o held now (rs ++ more)
answered_trans None held mid now rs more one two = tt
answered_trans (Some b) held mid now rs more one two =
    subst (Appends held now) (sym (answers_append b rs more)) (Appends-trans held mid now (answers_to b rs) (answers_to b more) one two)

pub begun_trans : (o : Option Book) (held mid now : Option (List ℕ)) (rs more : List Request) → Answered o held mid rs → AnsweredInPart o mid now more → AnsweredInPart o held now (rs ++ more)
begun_trans None held mid now rs more one two = tt
begun_trans (Some b) held mid now rs more one two =
    subst (GrewByPrefix held now) (sym (answers_append b rs more)) (begun_after held mid now (answers_to b rs) (answers_to b more) one two)

pub answered_in_part : (o : Option Book) (held now : Option (List ℕ)) (rs more : List Request) → Answered o held now rs → AnsweredInPart o held now (rs ++ more)
answered_in_part o held now rs more one = begun_trans o held now now rs more one (begun_none o now more)

-- ---- one line

pub line_answered : (o : Option Book) (held now : Option (List ℕ)) (line : List ℕ) (r : Request) → request_in line ≡ Some r → Answered o held now (r ∷ [])
    → IsLineAnswered o held now line
line_answered o held now line r is answered = record { request = r; is = is; answered = answered }

no_bad : (o : Option Book) (held : Option (List ℕ)) (line : List ℕ) (s : Stop) → IfSome (bad_line s) (λ keeps. request_in line ≡ None) → IfSome (bad_line s) (λ keeps. keeps ≡ kept line)
    → IfSome (bad_line s) (λ keeps. IsLineBad o held held line keeps)
no_bad o held line (BadLine keeps) none is = record { none = none; as_kept = is; unwritten = answered_none o held }
no_bad o held line WriteFault none is = tt
no_bad o held line Memory none is = tt

-- the line was not read as a request
pub stops_unread : (o : Option Book) (held : Option (List ℕ)) (line : List ℕ) (s : Stop) → IfSome (bad_line s) (λ keeps. request_in line ≡ None) → IfSome (bad_line s) (λ keeps. keeps ≡ kept line)
    → StopsAtLine o held held line s
stops_unread o held line s none is = record { part = λ later. begun_none o held (and_then (request_in line) later); bad = no_bad o held line s none is }

-- its request was not answered
pub stops_unwritten : (o : Option Book) (held now : Option (List ℕ)) (line : List ℕ) (r : Request) (s : Stop) → request_in line ≡ Some r → bad_line s ≡ None
    → ((later : List Request) → AnsweredInPart o held now (r ∷ later)) → StopsAtLine o held now line s
stops_unwritten o held now line r s is fine part = record {
  part = λ later. subst (λ (q : Option Request). AnsweredInPart o held now (and_then q later)) (sym is) (part later);
  bad = subst (λ (q : Option (List ℕ)). IfSome q (λ keeps. IsLineBad o held now line keeps)) (sym fine) tt;
}

-- ---- lines that passed

pub passed_none : (o : Option Book) (held : Option (List ℕ)) (bytes : List ℕ) → HasPassed o held held bytes bytes
passed_none o held bytes = record { requests = []; before = λ more. refl; good = λ more. refl; answered = answered_none o held }

pub passed_more : (o : Option Book) (held now : Option (List ℕ)) (taken waiting read : List ℕ) → HasPassed o held now taken waiting → HasPassed o held now (taken ++ read) (waiting ++ read)
passed_more o held now taken waiting read p = record {
  requests = p.requests;
  before = λ more.
      ap (λ l. requests_of (lines_of l)) (append_assoc taken read more) ∙ p.before (read ++ more)
      ∙ ap (λ l. p.requests ++ requests_of (lines_of l)) (sym (append_assoc waiting read more));
  good = λ more.
      ap (λ l. first_bad (lines_of l)) (append_assoc taken read more) ∙ p.good (read ++ more) ∙ ap (λ l. first_bad (lines_of l)) (sym (append_assoc waiting read more));
  answered = p.answered;
}

-- the place of the first line feed, of which there is one
feed_at : (bytes : List ℕ) (end : ℕ) → Some end ≡ position is_feed bytes → (end ≡ first bytes) × (first bytes < length bytes)
feed_at bytes end found = grind (arith, first_within bytes)

-- the first line that waits is the one up to its line feed
first_line : (bytes more : List ℕ) (end : ℕ) → Some end ≡ position is_feed bytes → lines_of (bytes ++ more) ≡ take end bytes ∷ lines_of (drop (end + 1) bytes ++ more)
first_line bytes more end found =
    let at = feed_at bytes end found in
    let after : suc (first bytes) ≡ end + 1 = omega (arith, at.0) in
    line_before bytes more at.1
    ∙ ap (λ n. take n bytes ∷ lines_of (drop (suc (first bytes)) bytes ++ more)) (sym at.0)
    ∙ ap (λ n. take end bytes ∷ lines_of (drop n bytes ++ more)) after

pub passed_line : (o : Option Book) (held mid now : Option (List ℕ)) (taken waiting : List ℕ) (end : ℕ) → HasPassed o held mid taken waiting → Some end ≡ position is_feed waiting
    → IsLineAnswered o mid now (take end waiting) → HasPassed o held now taken (drop (end + 1) waiting)
passed_line o held mid now taken waiting end p found line = record {
  requests = p.requests ++ line.request ∷ [];
  before = λ more.
      let later = requests_of (lines_of (drop (end + 1) waiting ++ more)) in
      p.before more
      ∙ ap (λ ls. p.requests ++ requests_of ls) (first_line waiting more end found)
      ∙ ap (λ (q : Option Request). p.requests ++ and_then q later) line.is
      ∙ sym (append_assoc p.requests (line.request ∷ []) later);
  good = λ more.
      let later = first_bad (lines_of (drop (end + 1) waiting ++ more)) in
      p.good more ∙ ap first_bad (first_line waiting more end found) ∙ ap (λ (q : Option Request). bad_or q (kept (take end waiting)) later) line.is;
  answered = answered_trans o held mid now p.requests (line.request ∷ []) p.answered line.answered;
}

-- ---- stops

bad_after : (o : Option Book) (held mid now : Option (List ℕ)) (taken waiting line keeps more : List ℕ) (later : List (List ℕ)) → HasPassed o held mid taken waiting
    → lines_of (waiting ++ more) ≡ line ∷ later → request_in line ≡ None → keeps ≡ kept line → Answered o mid now [] → IsBadAfter o held now taken keeps more
bad_after o held mid now taken waiting line keeps more later p lines none is unwritten = record {
  first = p.good more ∙ ap first_bad lines ∙ ap (λ (q : Option Request). bad_or q (kept line) (first_bad later)) none ∙ ap Some (sym is);
  answered =
      subst (Answered o held now)
      (sym (p.before more ∙ ap (λ ls. p.requests ++ requests_of ls) lines ∙ ap (λ (q : Option Request). p.requests ++ and_then q (requests_of later)) none))
      (answered_trans o held mid now p.requests [] p.answered unwritten);
}

bad_within : (o : Option Book) (held mid now : Option (List ℕ)) (taken waiting : List ℕ) (end : ℕ) (s : Stop) → HasPassed o held mid taken waiting → Some end ≡ position is_feed waiting
    → IfSome (bad_line s) (λ keeps. IsLineBad o mid now (take end waiting) keeps) → IfSome (bad_line s) (λ keeps. (more : List ℕ) → IsBadAfter o held now taken keeps more)
bad_within o held mid now taken waiting end (BadLine keeps) p found bad = λ more.
    bad_after o held mid now taken waiting (take end waiting) keeps more (lines_of (drop (end + 1) waiting ++ more)) p (first_line waiting more end found) bad.none bad.as_kept bad.unwritten
bad_within o held mid now taken waiting end WriteFault p found bad = tt
bad_within o held mid now taken waiting end Memory p found bad = tt

-- at a line that waited
pub stop_at_line : (o : Option Book) (held mid now : Option (List ℕ)) (taken waiting : List ℕ) (end : ℕ) (s : Stop) → HasPassed o held mid taken waiting → Some end ≡ position is_feed waiting
    → StopsAtLine o mid now (take end waiting) s → StopsWithin o held now taken s
stop_at_line o held mid now taken waiting end s p found stop = record {
  part = λ more.
      let later = requests_of (lines_of (drop (end + 1) waiting ++ more)) in
      subst (AnsweredInPart o held now) (sym (p.before more ∙ ap (λ ls. p.requests ++ requests_of ls) (first_line waiting more end found)))
      (begun_trans o held mid now p.requests (and_then (request_in (take end waiting)) later) p.answered (stop.part later));
  bad = bad_within o held mid now taken waiting end s p found stop.bad;
}

-- a line of more bytes is no request
too_long : (line : List ℕ) → 68157440 < length line → request_in line ≡ None
unfolding request_in
too_long line h = search (arith, h)

-- a line that goes on is kept alike
kept_on : (bytes tail : List ℕ) → 68157440 < length bytes → kept (bytes ++ tail) ≡ kept bytes
unfolding kept
kept_on bytes tail h = take-append-le 68157441 bytes tail (omega (arith, h))

long_after : (o : Option Book) (held now : Option (List ℕ)) (taken waiting keeps more : List ℕ) → HasPassed o held now taken waiting → 68157440 < length waiting → keeps ≡ kept waiting
    → GoesOn waiting (lines_of (waiting ++ more)) → IsBadAfter o held now taken keeps more
long_after o held now taken waiting keeps more p long is on =
    bad_after o held now now taken waiting (waiting ++ on.tail) keeps more on.later p on.is
    (too_long (waiting ++ on.tail) (omega (arith, long, length-append waiting on.tail)))
    (is ∙ sym (kept_on waiting on.tail long)) (answered_none o now)

goes_on : (waiting more : List ℕ) → HasNoFeed waiting → 68157440 < length waiting → GoesOn waiting (lines_of (waiting ++ more))
goes_on [] more none long = absurd (omega (arith, long))
goes_on (x ∷ xs) more none long = line_goes_on x xs more none

-- at a line that is too long, and has no line feed yet
pub stop_at_long : (o : Option Book) (held now : Option (List ℕ)) (taken waiting : List ℕ) (s : Stop) → HasPassed o held now taken waiting → HasNoFeed waiting → 68157440 < length waiting
    → IfSome (bad_line s) (λ keeps. keeps ≡ kept waiting) → StopsWithin o held now taken s
stop_at_long o held now taken waiting s p none long is = record {
  part = λ more. subst (AnsweredInPart o held now) (sym (p.before more)) (answered_in_part o held now p.requests (requests_of (lines_of (waiting ++ more))) p.answered);
  bad = elim s as (λ s. IfSome (bad_line s) (λ keeps. keeps ≡ kept waiting) → IfSome (bad_line s) (λ keeps. (more : List ℕ) → IsBadAfter o held now taken keeps more)) [
    | BadLine keeps ↦ λ is. λ more. long_after o held now taken waiting keeps more p long is (goes_on waiting more none long)
    | WriteFault ↦ λ is. tt
    | Memory ↦ λ is. tt
  ] is;
}

-- ---- the last line

pub is_some : (r : Bool) (line : List ℕ) → r ≡ (length line == 0) → r ≡ false → line ≢ []
is_some r [] is not_empty empty = absurd (cc)
is_some r (x ∷ xs) is not_empty empty = absurd (cc)

nonempty : (line : List ℕ) → line ≢ [] → HasNoFeed line → lines_of line ≡ line ∷ []
nonempty [] some none = absurd (some refl)
nonempty (x ∷ xs) some none = line_at_end x xs none

pub last_answered : (o : Option Book) (held now : Option (List ℕ)) (line : List ℕ) → line ≢ [] → HasNoFeed line → IsLineAnswered o held now line → IsAnswered o held now line served.End
last_answered o held now line some none one =
    let lines = nonempty line some none in (
      ap first_bad lines ∙ ap (λ (q : Option Request). bad_or q (kept line) None) one.is,
      subst (Answered o held now) (sym (ap requests_of lines ∙ ap (λ (q : Option Request). and_then q []) one.is)) one.answered,
    )

last_by : (o : Option Book) (held now : Option (List ℕ)) (line : List ℕ) (s : Stop) → lines_of line ≡ line ∷ [] → StopsAtLine o held now line s → IsAnswered o held now line (served_of s)
last_by o held now line (BadLine keeps) lines stop = (
  ap first_bad lines ∙ ap (λ (q : Option Request). bad_or q (kept line) None) stop.bad.none ∙ ap Some (sym stop.bad.as_kept),
  subst (Answered o held now) (sym (ap requests_of lines ∙ ap (λ (q : Option Request). and_then q []) stop.bad.none)) stop.bad.unwritten,
)
last_by o held now line WriteFault lines stop = subst (AnsweredInPart o held now) (sym (ap requests_of lines)) (stop.part [])
last_by o held now line Memory lines stop = subst (AnsweredInPart o held now) (sym (ap requests_of lines)) (stop.part [])

pub last_stopped : (o : Option Book) (held now : Option (List ℕ)) (line : List ℕ) (stop : Stop) (s : Served) → line ≢ [] → HasNoFeed line → StopsAtLine o held now line stop → s ≡ served_of stop
    → IsAnswered o held now line s
last_stopped o held now line stop s some none stops is = subst (IsAnswered o held now line) (sym is) (last_by o held now line stop (nonempty line some none) stops)

-- ---- the whole

pub passed_trans : (o : Option Book) (held mid now : Option (List ℕ)) (taken waiting rest : List ℕ) → HasPassed o held mid taken waiting → HasPassed o mid now waiting rest → HasPassed o held now taken rest
passed_trans o held mid now taken waiting rest p q = record {
  requests = p.requests ++ q.requests;
  before = λ more.
      p.before more ∙ ap (λ rs. p.requests ++ rs) (q.before more) ∙ sym (append_assoc p.requests q.requests (requests_of (lines_of (rest ++ more))));
  good = λ more. p.good more ∙ q.good more;
  answered = answered_trans o held mid now p.requests q.requests p.answered q.answered;
}

passed_part : (o : Option Book) (held mid now : Option (List ℕ)) (taken waiting more : List ℕ) → HasPassed o held mid taken waiting
    → AnsweredInPart o mid now (requests_of (lines_of (waiting ++ more))) → AnsweredInPart o held now (requests_of (lines_of (taken ++ more)))
passed_part o held mid now taken waiting more p part =
    subst (AnsweredInPart o held now) (sym (p.before more)) (begun_trans o held mid now p.requests (requests_of (lines_of (waiting ++ more))) p.answered part)

passed_whole : (o : Option Book) (held mid now : Option (List ℕ)) (taken waiting more : List ℕ) → HasPassed o held mid taken waiting
    → Answered o mid now (requests_of (lines_of (waiting ++ more))) → Answered o held now (requests_of (lines_of (taken ++ more)))
passed_whole o held mid now taken waiting more p whole =
    subst (Answered o held now) (sym (p.before more)) (answered_trans o held mid now p.requests (requests_of (lines_of (waiting ++ more))) p.answered whole)

passed_answered : (o : Option Book) (held mid now : Option (List ℕ)) (taken waiting more : List ℕ) (s : Served) → HasPassed o held mid taken waiting
    → IsAnswered o mid now (waiting ++ more) s → IsAnswered o held now (taken ++ more) s
passed_answered o held mid now taken waiting more served.End p a = (p.good more ∙ a.0, passed_whole o held mid now taken waiting more p a.1)
passed_answered o held mid now taken waiting more (served.BadLine keeps) p a = (p.good more ∙ a.0, passed_whole o held mid now taken waiting more p a.1)
passed_answered o held mid now taken waiting more served.ReadFault p a = passed_part o held mid now taken waiting more p a
passed_answered o held mid now taken waiting more served.WriteFault p a = passed_part o held mid now taken waiting more p a
passed_answered o held mid now taken waiting more served.Limit p a = passed_part o held mid now taken waiting more p a
passed_answered o held mid now taken waiting more served.Memory p a = passed_part o held mid now taken waiting more p a

stop_answered : (o : Option Book) (held now : Option (List ℕ)) (waiting more : List ℕ) (s : Stop) → StopsWithin o held now waiting s → IsAnswered o held now (waiting ++ more) (served_of s)
stop_answered o held now waiting more (BadLine keeps) stop = let bad = stop.bad more in (bad.first, bad.answered)
stop_answered o held now waiting more WriteFault stop = stop.part more
stop_answered o held now waiting more Memory stop = stop.part more

pub serving_none : (o : Option Book) (left held : Option (List ℕ)) → IsServing o left left held held [] 0
serving_none o left held = record { taken = []; consumed = Consumes-nil left; counted = refl; passed = passed_none o held [] }

pub serving_passed : (o : Option Book) (left rest held mid now : Option (List ℕ)) (waiting after : List ℕ) (count : ℕ) → IsServing o left rest held mid waiting count
    → HasPassed o mid now waiting after → IsServing o left rest held now after count
serving_passed o left rest held mid now waiting after count s p = record {
  taken = s.taken;
  consumed = s.consumed;
  counted = s.counted;
  passed = passed_trans o held mid now s.taken waiting after s.passed p;
}

pub serving_read : (o : Option Book) (left rest later held now : Option (List ℕ)) (waiting after : List ℕ) (count room n : ℕ) → IsServing o left rest held now waiting count
    → ReadsMore rest later waiting after room n → IsServing o left later held now after (count + n)
serving_read o left rest later held now waiting after count room n s r = record {
  taken = s.taken ++ r.read;
  consumed = Consumes-trans left rest later s.taken r.read s.consumed r.consumed;
  counted = omega (arith, s.counted, r.counted, length-append s.taken r.read);
  passed = subst (HasPassed o held now (s.taken ++ r.read)) (sym r.added) (passed_more o held now s.taken waiting r.read s.passed);
}

-- ---- ends

taken_below : (s : Served) (rest : Option (List ℕ)) (n : ℕ) → n < 2 ^ 62 → s ≢ served.Limit → (s ≡ served.End → IsAtEnd rest) → IsTaken s rest n
taken_below served.End rest n h below end = (end refl, h)
taken_below served.ReadFault rest n h below end = h
taken_below served.WriteFault rest n h below end = h
taken_below (served.BadLine keeps) rest n h below end = h
taken_below served.Limit rest n h below end = absurd (below refl)
taken_below served.Memory rest n h below end = omega (arith, h)

-- at the end of the source
known_nil : (rest : Option (List ℕ)) → IsAtEnd rest → known rest ≡ []
known_nil None end = refl
known_nil (Some bytes) end = end

pub served_at_end : (o : Option Book) (left rest held mid now : Option (List ℕ)) (waiting : List ℕ) (count : ℕ) (s : Served) → IsServing o left rest held mid waiting count → count < 2 ^ 62
    → IsAtEnd rest → IsAnswered o mid now waiting s → s ≢ served.Limit → IsServed o left rest held now s
served_at_end o left rest held mid now waiting count s serving below end a limit = record {
  taken = serving.taken;
  consumed = serving.consumed;
  count = taken_below s rest (length serving.taken) (omega (arith, below, serving.counted)) limit (λ is. end);
  answered =
      passed_answered o held mid now serving.taken waiting (known rest) s serving.passed
      (subst (λ (l : List ℕ). IsAnswered o mid now l s) (sym (ap (λ l. waiting ++ l) (known_nil rest end) ∙ append-nil waiting)) a);
}

stop_limit : (s : Stop) → served_of s ≢ served.Limit
stop_limit (BadLine keeps) = λ e. absurd (cc)
stop_limit WriteFault = λ e. absurd (cc)
stop_limit Memory = λ e. absurd (cc)

stop_end : (s : Stop) → served_of s ≢ served.End
stop_end (BadLine keeps) = λ e. absurd (cc)
stop_end WriteFault = λ e. absurd (cc)
stop_end Memory = λ e. absurd (cc)

-- at a stop among the bytes that waited
pub served_at_stop : (o : Option Book) (left rest held mid now : Option (List ℕ)) (waiting : List ℕ) (count : ℕ) (stop : Stop) (s : Served) → IsServing o left rest held mid waiting count → count < 2 ^ 62
    → StopsWithin o mid now waiting stop → s ≡ served_of stop → IsServed o left rest held now s
served_at_stop o left rest held mid now waiting count stop s serving below stops is =
    subst (IsServed o left rest held now) (sym is) (record {
      taken = serving.taken;
      consumed = serving.consumed;
      count = taken_below (served_of stop) rest (length serving.taken) (omega (arith, below, serving.counted)) (stop_limit stop) (λ e. absurd (stop_end stop e));
      answered = passed_answered o held mid now serving.taken waiting (known rest) (served_of stop) serving.passed (stop_answered o mid now waiting (known rest) stop stops);
    })

part_so_far : (o : Option Book) (held now : Option (List ℕ)) (taken waiting more : List ℕ) → HasPassed o held now taken waiting → AnsweredInPart o held now (requests_of (lines_of (taken ++ more)))
part_so_far o held now taken waiting more p = passed_part o held now now taken waiting more p (begun_none o now (requests_of (lines_of (waiting ++ more))))

-- where a read failed
pub served_at_fault : (o : Option Book) (left rest later held now : Option (List ℕ)) (waiting : List ℕ) (count : ℕ) → IsServing o left rest held now waiting count → count < 2 ^ 62
    → Keeps rest later → IsServed o left later held now served.ReadFault
served_at_fault o left rest later held now waiting count serving below keeps = record {
  taken = serving.taken;
  consumed = Consumes-kept left rest later serving.taken serving.consumed keeps;
  count = omega (arith, below, serving.counted);
  answered = part_so_far o held now serving.taken waiting (known later) serving.passed;
}

-- where memory is wanting for what was read
pub served_at_memory : (o : Option Book) (left rest later held now : Option (List ℕ)) (waiting : List ℕ) (count room : ℕ) → IsServing o left rest held now waiting count → count + room ≤ 2 ^ 62
    → ReadsNoMore rest later room → IsServed o left later held now served.Memory
served_at_memory o left rest later held now waiting count room serving below lost = record {
  taken = serving.taken ++ lost.read;
  consumed = Consumes-trans left rest later serving.taken lost.read serving.consumed lost.consumed;
  count = omega (arith, below, lost.within, serving.counted, length-append serving.taken lost.read);
  answered = part_so_far o held now (serving.taken ++ lost.read) (waiting ++ lost.read) (known later) (passed_more o held now serving.taken waiting lost.read serving.passed);
}

-- at the limit
pub served_at_limit : (o : Option Book) (left rest held now : Option (List ℕ)) (waiting : List ℕ) (count : ℕ) → IsServing o left rest held now waiting count → count ≡ 2 ^ 62
    → IsServed o left rest held now served.Limit
served_at_limit o left rest held now waiting count serving all = record {
  taken = serving.taken;
  consumed = serving.consumed;
  count = omega (arith, all, serving.counted);
  answered = part_so_far o held now serving.taken waiting (known rest) serving.passed;
}

-- ---- the turns of the loop

-- what was searched has no line feed, so none stands before what was read
pub searched_later : (left rest : Option (List ℕ)) (old new : List ℕ) (room n : ℕ) → ReadsMore left rest old new room n → HasNoFeed old → length old ≤ first new
searched_later left rest old new room n more none =
    let P : List ℕ → Type 0 = λ l. first old ≤ first l in
    omega (arith, none, subst P (sym more.added) (first-append old more.read))
