-- A request's line has its number in one place, and is read under each number.
use Rattle.std.proofs.Common.{◌≡◌, ℕ, ◌≤◌, ◌<◌, ◌^◌, ◌||◌, List, [], ◌∷◌, ◌++◌, Bool, true, false, cond, map, length, take, drop, Option, Some, None, Ok, Err, option_and_then, refl, sym, ap, ◌∙◌, subst, append_assoc, arith}
use Rattle.std.specs.Prelude.{decimal, codes, bytes_eq}
use Rattle.std.specs.Str.{IsUtf8}
use Rattle.std.proofs.lemmas.Bool.{lt-ltb}
use Rattle.std.proofs.lemmas.Fmt.{IsAscii-decimal}
use Rattle.std.proofs.lemmas.Slice.Eq.{bytes_eq-Decides}
use Rattle.std.proofs.lemmas.Str.{IsUtf8-append, IsUtf8-from_ascii}
use Rattle.json.specs.Print.{quoted, escape_byte}
use Rattle.serde_json.specs.Data.{Data, object, Members, member, no_members}
use Rattle.serde_json.specs.Read.{read}
use Rattle.serde_json.specs.Written.{compact_text, members_text, comma_if}
use Rattle.sp_value.specs.Json.{has_odd_number, members_odd, members_from}
use Rattle.sp_value.proofs.JsonLaws.{or_false, first_false, second_false}
use Rattle.sp_model.specs.declared.call.Asked.{Asked}
use Rattle.sp_model.specs.declared.call.Asked.TheVariants as asked
use Rattle.sp_model.specs.declared.call.Call.{Call}
use Rattle.sp_model.specs.declared.call.Call.TheVariants as call
use Rattle.sp_model.specs.declared.call.CallKey.{CallKey}
use Rattle.sp_world.specs.LineJson.{json_of, taken, whole, shaped}
use Rattle.sp_world.specs.LineParts.{AreParts, IsReadBack, IsReadBefore, IsReadBehind, IsCallReadBefore, IsCallReadBehind, IsBeforeForm, IsBehindForm, IsCallBeforeForm, IsCallBehindForm, IsRound, member_texts, head_text, tail_text}
use Rattle.sp_world.specs.RequestLines.{natural, request_data, request_text, request_of, request_in, members_request, members_before, members_behind, call_before, call_behind, function_data, if_spelled, IsAskedForm, IsCallForm}
use Rattle.sp_world.specs.declared.line.LineFault.TheVariants.{Number}
use Rattle.sp_world.specs.declared.line.Request.{Request}
use Rattle.sp_world.specs.declared.line.Request.TheVariants.{Ask}
use Rattle.sp_world.proofs.LineTexts.{json_of-text}
use Rattle.sp_world.proofs.Rounds.{names_of, are_rising, read_round, round_joined}

-- ---- the text

regroup : (c q t r e : List ℕ) → c ++ (q ++ 58 ∷ (t ++ (r ++ e))) ≡ (c ++ (q ++ 58 ∷ (t ++ r))) ++ e
regroup c q t r e =
    sym (append_assoc c (q ++ 58 ∷ (t ++ r)) e ∙ ap (λ s. c ++ s) (append_assoc q (58 ∷ (t ++ r)) e ∙ ap (λ s. q ++ 58 ∷ s) (append_assoc t r e)))

texts_closed : (later : Bool) (ms : List (List ℕ × Data)) → members_text later (members_from ms) ≡ member_texts later ms ++ 125 ∷ []
texts_closed later [] = refl
texts_closed later (m ∷ ms) =
    ap (λ r. comma_if later ++ (quoted m.0 ++ 58 ∷ (compact_text m.1 ++ r))) (texts_closed true ms)
    ∙ regroup (comma_if later) (quoted m.0) (compact_text m.1) (member_texts true ms) (125 ∷ [])

texts_append : (later : Bool) (m : List ℕ × Data) (ms ns : List (List ℕ × Data)) → members_text later (members_from ((m ∷ ms) ++ ns)) ≡ member_texts later (m ∷ ms) ++ members_text true (members_from ns)
texts_append later m [] ns = regroup (comma_if later) (quoted m.0) (compact_text m.1) [] (members_text true (members_from ns))
texts_append later m (n ∷ ms) ns =
    ap (λ r. comma_if later ++ (quoted m.0 ++ 58 ∷ (compact_text m.1 ++ r))) (texts_append true n ms ns)
    ∙ regroup (comma_if later) (quoted m.0) (compact_text m.1) (member_texts true (n ∷ ms)) (members_text true (members_from ns))

id_name : (r : List ℕ) → comma_if true ++ (quoted (codes "id") ++ 58 ∷ r) ≡ codes ",\"id\":" ++ r
unfolding escape_byte
id_name r = refl

joined_text : (m : List ℕ × Data) (before behind : List (List ℕ × Data)) (id : ℕ)
    → compact_text (object (members_from ((m ∷ before) ++ (codes "id", natural id) ∷ behind))) ≡ head_text (m ∷ before) ++ (decimal id ++ tail_text behind)
joined_text m before behind id =
    let rest = decimal id ++ tail_text behind in
    let number : members_text true (members_from ((codes "id", natural id) ∷ behind)) ≡ codes ",\"id\":" ++ rest =
    id_name (decimal id ++ members_text true (members_from behind)) ∙ ap (λ t. codes ",\"id\":" ++ (decimal id ++ t)) (texts_closed true behind) in
    ap (λ t. 123 ∷ t) (texts_append false m before ((codes "id", natural id) ∷ behind) ∙ ap (λ t. member_texts false (m ∷ before) ++ t) number
    ∙ sym (append_assoc (member_texts false (m ∷ before)) (codes ",\"id\":") rest))

-- the text of the members before, as an object
pub before_text : (ms : List (List ℕ × Data)) → compact_text (object (members_from ms)) ≡ (123 ∷ member_texts false ms) ++ 125 ∷ []
before_text ms = ap (λ t. 123 ∷ t) (texts_closed false ms)

-- of those behind
pub behind_text : (m : List ℕ × Data) (ms : List (List ℕ × Data)) (rest : List ℕ) → compact_text (object (members_from (m ∷ ms))) ≡ 123 ∷ rest → 44 ∷ rest ≡ tail_text (m ∷ ms)
behind_text m ms rest h =
    let e : rest ≡ members_text false (members_from (m ∷ ms)) = cc in
    ap (λ t. 44 ∷ t) (e ∙ texts_closed false (m ∷ ms))

-- ---- members there are

abbrev HasMember : List (List ℕ × Data) → Type 0
HasMember all = (m : List ℕ × Data) × (ms : List (List ℕ × Data)) × (all ≡ m ∷ ms)

some_call : (key : CallKey) (function : Data) (c : Call) → HasMember (call_before key function c)
some_call key function (call.List table conditions parent) = (_, _, refl)
some_call key function (call.Parents table) = (_, _, refl)
some_call key function (call.Get table conditions) = (_, _, refl)
some_call key function (call.Hydrate table own row results) = (_, _, refl)

pub some_before : (what : Asked) (function : Option (List ℕ)) → HasMember (members_before function what)
some_before (asked.Call key) function = some_call key (function_data function) key.call
some_before (asked.Version connection tick) function = (_, _, refl)
some_before (asked.Declare connection) function = (_, _, refl)

some_call_behind : (key : CallKey) (c : Call) → HasMember (call_behind key c)
some_call_behind key (call.List table conditions parent) = (_, _, refl)
some_call_behind key (call.Parents table) = (_, _, refl)
some_call_behind key (call.Get table conditions) = (_, _, refl)
some_call_behind key (call.Hydrate table own row results) = (_, _, refl)

pub some_behind : (what : Asked) → HasMember (members_behind what)
some_behind (asked.Call key) = some_call_behind key key.call
some_behind (asked.Version connection tick) = (_, _, refl)
some_behind (asked.Declare connection) = (_, _, refl)

-- ---- what the JSON says

odd_append : (xs ys : List (List ℕ × Data)) → members_odd (members_from xs) ≡ false → members_odd (members_from ys) ≡ false → members_odd (members_from (xs ++ ys)) ≡ false
odd_append [] ys p q = q
odd_append (x ∷ xs) ys p q =
    or_false (has_odd_number x.1) (members_odd (members_from (xs ++ ys))) (first_false (has_odd_number x.1) (members_odd (members_from xs)) p)
    (odd_append xs ys (second_false (has_odd_number x.1) (members_odd (members_from xs)) p) q)

natural_whole : (n : ℕ) → n < 2 ^ 63 → has_odd_number (natural n) ≡ false
natural_whole n h = rw (lt-ltb n (2 ^ 63) h) refl

abbrev CallData : ℕ → CallKey → Option (List ℕ) → Call → Data
CallData id key function c = object (members_from (call_before key (function_data function) c ++ (codes "id", natural id) ∷ call_behind key c))

abbrev CallAsked : ℕ → CallKey → Option (List ℕ) → Call → Request
CallAsked id key function c = Ask id (asked.Call (record { connection = key.connection; version = key.version; call = c; attempt = key.attempt })) function

call_back : (id : ℕ) (key : CallKey) (function : Option (List ℕ)) (c : Call) → key.attempt < 2 ^ 32 → IsCallForm function c → IsCallReadBefore c → IsCallReadBehind c
    → members_request (CallData id key function c) ≡ Some (CallAsked id key function c)
call_back id key None (call.List table conditions parent) small form before behind = absurd (cc)
call_back id key (Some name) (call.List table conditions parent) small form before behind = rw (lt-ltb key.attempt (2 ^ 32) small, before, behind) refl
call_back id key None (call.Parents table) small form before behind = absurd (cc)
call_back id key (Some name) (call.Parents table) small form before behind = rw (lt-ltb key.attempt (2 ^ 32) small) refl
call_back id key None (call.Get table conditions) small form before behind = absurd (cc)
call_back id key (Some name) (call.Get table conditions) small form before behind = rw (lt-ltb key.attempt (2 ^ 32) small, before) refl
call_back id key function (call.Hydrate table own row results) small form before behind =
    subst (λ f. members_request (CallData id key f (call.Hydrate table own row results)) ≡ Some (CallAsked id key f (call.Hydrate table own row results))) (sym form.0)
    (rw (lt-ltb key.attempt (2 ^ 32) small, behind.0, behind.1) refl)

request_back : (id : ℕ) (what : Asked) (function : Option (List ℕ)) → IsAskedForm function what → IsReadBefore what → IsReadBehind what
    → members_request (request_data (Ask id what function)) ≡ Some (Ask id what function)
request_back id (asked.Call key) function form before behind = call_back id key function key.call before.0 form.1 before.1 behind
request_back id (asked.Version connection tick) function form before behind = ap (λ f. Some (Ask id (asked.Version connection tick) f)) (sym form.1)
request_back id (asked.Declare connection) function form before behind = ap (λ f. Some (Ask id (asked.Declare connection) f)) (sym form)

-- ---- the names of members rise

rising_before : (what : Asked) (function : Option (List ℕ)) → are_rising [] (names_of (members_before function what)) ≡ true
rising_before (asked.Call key) function = of_call key.call
  where
    of_call : (c : Call) → are_rising [] (names_of (call_before key (function_data function) c)) ≡ true
    of_call (call.List table conditions parent) = refl
    of_call (call.Parents table) = refl
    of_call (call.Get table conditions) = refl
    of_call (call.Hydrate table own row results) = refl
rising_before (asked.Version connection tick) function = refl
rising_before (asked.Declare connection) function = refl

rising_behind : (what : Asked) → are_rising [] (names_of (members_behind what)) ≡ true
rising_behind (asked.Call key) = of_call key.call
  where
    of_call : (c : Call) → are_rising [] (names_of (call_behind key c)) ≡ true
    of_call (call.List table conditions parent) = refl
    of_call (call.Parents table) = refl
    of_call (call.Get table conditions) = refl
    of_call (call.Hydrate table own row results) = refl
rising_behind (asked.Version connection tick) = refl
rising_behind (asked.Declare connection) = refl

rising_all : (id : ℕ) (what : Asked) (function : Option (List ℕ)) → are_rising [] (names_of (members_before function what ++ (codes "id", natural id) ∷ members_behind what)) ≡ true
rising_all id (asked.Call key) function = of_call key.call
  where
    of_call : (c : Call) → are_rising [] (names_of (call_before key (function_data function) c ++ (codes "id", natural id) ∷ call_behind key c)) ≡ true
    of_call (call.List table conditions parent) = refl
    of_call (call.Parents table) = refl
    of_call (call.Get table conditions) = refl
    of_call (call.Hydrate table own row results) = refl
rising_all id (asked.Version connection tick) function = refl
rising_all id (asked.Declare connection) function = refl

-- ---- the form

call_before_form : (c : Call) (function : Option (List ℕ)) → IsCallForm function c → IsCallBeforeForm c
call_before_form (call.List table conditions parent) function form = form.1
call_before_form (call.Parents table) function form = tt
call_before_form (call.Get table conditions) function form = form.1
call_before_form (call.Hydrate table own row results) function form = tt

pub before_form : (what : Asked) (function : Option (List ℕ)) → IsAskedForm function what → IsBeforeForm what
before_form (asked.Call key) function form = call_before_form key.call function form.1
before_form (asked.Version connection tick) function form = tt
before_form (asked.Declare connection) function form = tt

call_behind_form : (c : Call) (function : Option (List ℕ)) → IsCallForm function c → IsCallBehindForm c
call_behind_form (call.List table conditions parent) function form = form.2
call_behind_form (call.Parents table) function form = tt
call_behind_form (call.Get table conditions) function form = tt
call_behind_form (call.Hydrate table own row results) function form = (form.1, form.2)

pub behind_form : (what : Asked) (function : Option (List ℕ)) → IsAskedForm function what → IsBehindForm what
behind_form (asked.Call key) function form = (form.0, call_behind_form key.call function form.1)
behind_form (asked.Version connection tick) function form = form.0
behind_form (asked.Declare connection) function form = tt

-- ---- the law

same_bytes : (xs : List ℕ) → bytes_eq xs xs ≡ true
same_bytes xs = (bytes_eq-Decides xs xs).1 refl

pub are_parts : (what : Asked) (function : Option (List ℕ)) (head tail : List ℕ) → head ≡ head_text (members_before function what) → tail ≡ tail_text (members_behind what) → AreParts what function head tail
are_parts what function head tail h t id =
    let some = some_before what function in
    ap (λ ms. compact_text (object (members_from (ms ++ (codes "id", natural id) ∷ members_behind what)))) some.2 ∙ joined_text some.0 some.1 (members_behind what) id
    ∙ ap (λ ms. head_text ms ++ (decimal id ++ tail_text (members_behind what))) (sym some.2)
    ∙ ap (λ x. x ++ (decimal id ++ tail_text (members_behind what))) (sym h) ∙ ap (λ x. head ++ (decimal id ++ x)) (sym t)

module _ (what : Asked) (function : Option (List ℕ)) (form : IsAskedForm function what) where
  pub read_back : (head tail : List ℕ) → AreParts what function head tail → IsUtf8 head → IsUtf8 tail
      → IsRound (object (members_from (members_before function what))) → IsRound (object (members_from (members_behind what)))
      → members_odd (members_from (members_before function what)) ≡ false → members_odd (members_from (members_behind what)) ≡ false
      → IsReadBefore what → IsReadBehind what → IsReadBack what function
  read_back head tail parts front back p q whole_p whole_q before behind id small =
      let r = Ask id what function in
      let bytes = request_text r in
      let text : IsUtf8 bytes =
      subst IsUtf8 (sym (parts id)) (IsUtf8-append head (decimal id ++ tail) front (IsUtf8-append (decimal id) tail (IsUtf8-from_ascii (decimal id) (IsAscii-decimal id (omega (arith, small)))) back)) in
      let round = round_joined (members_before function what) (members_behind what) (codes "id") id (omega (arith, small)) (rising_before what function) (rising_behind what) (rising_all id what function) p q in
      let read : json_of bytes ≡ Some (request_data r) = json_of-text bytes bytes refl text ∙ read_round (request_data r) round in
      let odd : has_odd_number (request_data r) ≡ false =
      odd_append (members_before function what) ((codes "id", natural id) ∷ members_behind what) whole_p
      (or_false (has_odd_number (natural id)) (members_odd (members_from (members_behind what))) (natural_whole id small) whole_q) in
      ap (λ j. taken (request_in bytes) (whole j)) read
      ∙ ap (λ b. taken (request_in bytes) (cond b (Err Number) (Ok (request_data r)))) odd
      ∙ ap (λ o. shaped (option_and_then (if_spelled bytes) o)) (request_back id what function form before behind)
      ∙ ap (λ b. shaped (cond b (Some r) None)) (same_bytes bytes)
