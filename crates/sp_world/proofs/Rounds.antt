-- JSON that is written and read as itself.
use Rattle.std.proofs.Common.{◌≡◌, ℕ, ◌≤◌, ◌<◌, ◌^◌, ◌+◌, max, ◌&&◌, zero, suc, List, [], ◌∷◌, ◌++◌, Bool, true, false, cond, map, Option, Some, None, option_map, option_and_then, refl, sym, ap, ap₂, ◌∙◌, subst, append-nil, append_assoc, arith, Ordering, Less, Equal, Greater}
use Rattle.std.specs.Prelude.{decimal, codes}
use Rattle.std.specs.Ordering.{nat_cmp, match_ordering}
use Rattle.std.proofs.lemmas.Bool.{and_parts}
use Rattle.std.proofs.lemmas.List.{map-append}
use Rattle.std.specs.Cmp.Lexicographic.{slice_cmp}
use Rattle.json.specs.Token.{Token}
use Rattle.json.specs.Lex.{tokens}
use Rattle.json.specs.Print.{print}
use Rattle.json.specs.Json as json
use Rattle.json.specs.Tree.{json_tokens, HasNumbers, MembersHaveNumbers}
use Rattle.json.specs.Tree as tree
use Rattle.json.proofs.Numbered.{value-HasNumbers, ArePrintableOrBad-tokens}
use Rattle.json.proofs.Printed.Decimals.{IsNumber-decimal}
use Rattle.json.proofs.Printed.Tokens.{tokens-print}
use Rattle.json.proofs.Printed.Trees.{value-json_tokens, ArePrintable-json_tokens}
use Rattle.serde_json.specs.Data.{Data, null, boolean, number, string, array, object, Items, no_items, item, Members, no_members, member, put}
use Rattle.serde_json.specs.Data as datum
use Rattle.serde_json.specs.Read.{read, of_json, of_members, max_depth}
use Rattle.serde_json.specs.Written.{outline, items_outline, members_outline, compact_text, has_float, IsInOrder}
use Rattle.serde_json.proofs.Numbers.{number_of-decimal}
use Rattle.serde_json.proofs.Texts.{tokens_from_order, print-outline}
use Rattle.sp_value.specs.Json.{members_from}
use Rattle.sp_world.specs.LineParts.{IsRound}
use Rattle.sp_world.specs.RequestLines.{natural}

-- ---- the outline nests as deep

mutual
  outline_depth : (d : Data) → tree.depth (outline d) ≡ datum.depth d
  outline_depth null = refl
  outline_depth (boolean b) = refl
  outline_depth (number n) = refl
  outline_depth (string s) = refl
  outline_depth (array ds) = ap suc (items_outline_depth ds)
  outline_depth (object ms) = ap suc (members_outline_depth ms)

  items_outline_depth : (ds : Items) → tree.items_depth (items_outline ds) ≡ datum.items_depth ds
  items_outline_depth no_items = refl
  items_outline_depth (item d ds) = ap₂ max (outline_depth d) (items_outline_depth ds)

  members_outline_depth : (ms : Members) → tree.members_depth (members_outline ms) ≡ datum.members_depth ms
  members_outline_depth no_members = refl
  members_outline_depth (member k d ms) = ap₂ max (outline_depth d) (members_outline_depth ms)

-- ---- from a text, and to one

value_of : (d : Data) (text : List ℕ) → tokens text ≡ json_tokens (outline d) → tree.depth (outline d) ≤ max_depth → json.value max_depth (tokens text) ≡ Some (outline d, [])
value_of d text same shallow = ap (json.value max_depth) (same ∙ sym (append-nil (json_tokens (outline d)))) ∙ value-json_tokens (outline d) max_depth [] shallow

read_of : (d : Data) (text : List ℕ) → json.value max_depth (tokens text) ≡ Some (outline d, []) → read text ≡ of_json (outline d)
read_of d text is = ap (λ o. option_and_then of_json (option_and_then (λ p. json.if_last p.0 p.1) o)) is

pub round_of : (text : List ℕ) (d : Data) → IsInOrder text d → has_float d ≡ false → datum.depth d ≤ max_depth → read text ≡ Some d → IsRound d
round_of text d order whole nests reads =
    let shallow : tree.depth (outline d) ≤ max_depth = omega (arith, outline_depth d) in
    let is = value_of d text (tokens_from_order text d order whole) shallow in
    record {
      back = sym (read_of d text is) ∙ reads;
      numbers = value-HasNumbers max_depth (tokens text) [] (outline d) (ArePrintableOrBad-tokens text) is;
      shallow = shallow;
    }

pub read_round : (d : Data) → IsRound d → read (compact_text d) ≡ Some d
read_round d round =
    let printed : tokens (compact_text d) ≡ json_tokens (outline d) =
    ap tokens (sym (print-outline d)) ∙ tokens-print (json_tokens (outline d)) (ArePrintable-json_tokens (outline d) round.numbers) in
    read_of d (compact_text d) (value_of d (compact_text d) printed round.shallow) ∙ round.back

-- ---- members with rising names are put in one behind another

abbrev pub names_of : List (List ℕ × Data) → List (List ℕ)
names_of ms = map (λ m. m.0) ms

abbrev pub is_greater : Ordering → Bool
is_greater Less = false
is_greater Equal = false
is_greater Greater = true

-- a name is behind all these
abbrev pub is_behind : List ℕ → List (List ℕ) → Bool
is_behind name [] = true
is_behind name (n ∷ ns) = is_greater (slice_cmp nat_cmp name n) && is_behind name ns

-- each name is behind those before it
abbrev pub are_rising : List (List ℕ) → List (List ℕ) → Bool
are_rising before [] = true
are_rising before (name ∷ names) = is_behind name before && are_rising (before ++ name ∷ []) names

abbrev puts : List (List ℕ × Data) → Members → Members
puts [] found = found
puts (m ∷ ms) found = puts ms (put m.0 m.1 found)

the_last : (o : Ordering) (x y z : Members) → is_greater o ≡ true → match_ordering o x y z ≡ z
the_last Less x y z h = absurd (cc)
the_last Equal x y z h = absurd (cc)
the_last Greater x y z h = refl

put_behind : (k : List ℕ) (d : Data) (ms : List (List ℕ × Data)) → is_behind k (names_of ms) ≡ true → put k d (members_from ms) ≡ members_from (ms ++ (k, d) ∷ [])
put_behind k d [] h = refl
put_behind k d (m ∷ ms) h =
    let p = and_parts (is_greater (slice_cmp nat_cmp k m.0)) (is_behind k (names_of ms)) h in
    the_last (slice_cmp nat_cmp k m.0) _ _ _ p.0 ∙ ap (member m.0 m.1) (put_behind k d ms p.1)

puts_rising : (xs ms : List (List ℕ × Data)) → are_rising (names_of xs) (names_of ms) ≡ true → puts ms (members_from xs) ≡ members_from (xs ++ ms)
puts_rising xs [] h = ap members_from (sym (append-nil xs))
puts_rising xs (m ∷ ms) h =
    let p = and_parts (is_behind m.0 (names_of xs)) (are_rising (names_of xs ++ m.0 ∷ []) (names_of ms)) h in
    let later : are_rising (names_of (xs ++ m ∷ [])) (names_of ms) ≡ true = subst (λ ns. are_rising ns (names_of ms) ≡ true) (sym (map-append (λ x. x.0) xs (m ∷ []))) p.1 in
    ap (puts ms) (put_behind m.0 m.1 xs p.0) ∙ puts_rising (xs ++ m ∷ []) ms later ∙ ap members_from (append_assoc xs (m ∷ []) ms)

-- ---- each member is read as itself

abbrev AllBack : List (List ℕ × Data) → Type 0
AllBack [] = Unit {0}
AllBack (m ∷ ms) = (of_json (outline m.1) ≡ Some m.1) × AllBack ms

all_read : (ms : List (List ℕ × Data)) (found : Members) → AllBack ms → of_members (members_outline (members_from ms)) found ≡ Some (puts ms found)
all_read [] found all = refl
all_read (m ∷ ms) found all =
    ap (option_and_then (λ d. of_members (members_outline (members_from ms)) (put m.0 d found))) all.0 ∙ all_read ms (put m.0 m.1 found) all.1

-- what members are read as
abbrev AreRead : List (List ℕ × Data) → List (List ℕ × Data) → Type 0
AreRead [] [] = Unit {0}
AreRead (m ∷ ms) (e ∷ es) = (m.0 ≡ e.0) × (of_json (outline m.1) ≡ Some e.1) × AreRead ms es
AreRead _ _ = ⊥

abbrev Found : List (List ℕ × Data) → Members → Members → Type 0
Found ms found r = (es : List (List ℕ × Data)) × AreRead ms es × (puts es found ≡ r)

found_next : (m : List ℕ × Data) (ms : List (List ℕ × Data)) (found r : Members) (o : Option Data) → of_json (outline m.1) ≡ o
    → option_and_then (λ d. of_members (members_outline (members_from ms)) (put m.0 d found)) o ≡ Some r
    → ((d : Data) → of_members (members_outline (members_from ms)) (put m.0 d found) ≡ Some r → Found ms (put m.0 d found) r) → Found (m ∷ ms) found r
found_next m ms found r None is h rec = absurd (cc)
found_next m ms found r (Some d) is h rec = let q = rec d h in ((m.0, d) ∷ q.0, (refl, is, q.1), q.2)

found_all : (ms : List (List ℕ × Data)) (found r : Members) → of_members (members_outline (members_from ms)) found ≡ Some r → Found ms found r
found_all [] found r h = ([], tt, cc)
found_all (m ∷ ms) found r h = found_next m ms found r (of_json (outline m.1)) refl h (λ d. found_all ms (put m.0 d found) r)

same_names : (ms es : List (List ℕ × Data)) → AreRead ms es → names_of ms ≡ names_of es
same_names [] [] all = refl
same_names [] (e ∷ es) all = absurd all
same_names (m ∷ ms) [] all = absurd all
same_names (m ∷ ms) (e ∷ es) all = ap₂ (λ n ns. n ∷ ns) all.0 (same_names ms es all.2)

first_data : (k l : List ℕ) (d e : Data) (ms ns : Members) → member k d ms ≡ member l e ns → d ≡ e
first_data k l d e ms ns h = cc

next_members : (k l : List ℕ) (d e : Data) (ms ns : Members) → member k d ms ≡ member l e ns → ms ≡ ns
next_members k l d e ms ns h = cc

all_same : (ms es : List (List ℕ × Data)) → AreRead ms es → members_from es ≡ members_from ms → AllBack ms
all_same [] [] all h = tt
all_same [] (e ∷ es) all h = absurd all
all_same (m ∷ ms) [] all h = absurd all
all_same (m ∷ ms) (e ∷ es) all h = (
  all.1 ∙ ap Some (first_data e.0 m.0 e.1 m.1 (members_from es) (members_from ms) h),
  all_same ms es all.2 (next_members e.0 m.0 e.1 m.1 (members_from es) (members_from ms) h),
)

the_members : (o : Option Members) (ms : Members) → option_map object o ≡ Some (object ms) → o ≡ Some ms
the_members None ms h = absurd (cc)
the_members (Some ns) ms h = let e : ns ≡ ms = cc in ap Some e

all_back : (ms : List (List ℕ × Data)) → are_rising [] (names_of ms) ≡ true → of_json (outline (object (members_from ms))) ≡ Some (object (members_from ms)) → AllBack ms
all_back ms rising h =
    let found = found_all ms no_members (members_from ms) (the_members _ (members_from ms) h) in
    let es = found.0 in
    let rises : are_rising [] (names_of es) ≡ true = subst (λ ns. are_rising [] ns ≡ true) (same_names ms es found.1) rising in
    all_same ms es found.1 (sym (puts_rising [] es rises) ∙ found.2)

-- ---- an object of members, a number and more members

back_append : (xs ys : List (List ℕ × Data)) → AllBack xs → AllBack ys → AllBack (xs ++ ys)
back_append [] ys p q = q
back_append (x ∷ xs) ys p q = (p.0, back_append xs ys p.1 q)

numbers_append : (xs ys : List (List ℕ × Data)) → MembersHaveNumbers (members_outline (members_from xs)) → MembersHaveNumbers (members_outline (members_from ys))
    → MembersHaveNumbers (members_outline (members_from (xs ++ ys)))
numbers_append [] ys p q = q
numbers_append (x ∷ xs) ys p q = (p.0, numbers_append xs ys p.1 q)

depth_append : (xs ys : List (List ℕ × Data)) (n : ℕ) → tree.members_depth (members_outline (members_from xs)) ≤ n → tree.members_depth (members_outline (members_from ys)) ≤ n
    → tree.members_depth (members_outline (members_from (xs ++ ys))) ≤ n
depth_append [] ys n p q = q
depth_append (x ∷ xs) ys n p q = let rest = depth_append xs ys n (omega (arith, p)) q in omega (arith, p, rest)

number_back : (id : ℕ) → id < 2 ^ 64 → of_json (outline (natural id)) ≡ Some (natural id)
number_back id small = ap (option_map number) (number_of-decimal id small)

pub round_joined : (before behind : List (List ℕ × Data)) (name : List ℕ) (id : ℕ) → id < 2 ^ 64
    → are_rising [] (names_of before) ≡ true → are_rising [] (names_of behind) ≡ true → are_rising [] (names_of (before ++ (name, natural id) ∷ behind)) ≡ true
    → IsRound (object (members_from before)) → IsRound (object (members_from behind)) → IsRound (object (members_from (before ++ (name, natural id) ∷ behind)))
round_joined before behind name id small first second whole p q =
    let all = before ++ (name, natural id) ∷ behind in
    let backs : AllBack all = back_append before ((name, natural id) ∷ behind) (all_back before first p.back) (number_back id small, all_back behind second q.back) in
    record {
      back = ap (option_map object) (all_read all no_members backs ∙ ap Some (puts_rising [] all whole));
      numbers = numbers_append before ((name, natural id) ∷ behind) p.numbers (IsNumber-decimal id small, q.numbers);
      shallow = let d = depth_append before ((name, natural id) ∷ behind) 126 (omega (arith, p.shallow)) (omega (arith, q.shallow)) in omega (arith, d);
    }
