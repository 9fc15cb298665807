-- What is written is its tokens again.
use Rattle.std.proofs.Common.{◌≡◌, ℕ, ℤ, pos, negsuc, ◌+◌, ◌≤◌, Bool, true, false, ◌||◌, eqb, List, [], ◌∷◌, ◌++◌, map, length, drop, ◌⊎◌, inl, inr, Option, Some, None, refl, sym, ap, subst, ◌∙◌, arith, codes}
use Rattle.std.proofs.lemmas.Bool.{ltb-true, eqb-true}
use Rattle.std.specs.Fmt.{signed_decimal}
use Rattle.sql_lex.specs.declared.token.Kind.{Kind}
use Rattle.sql_lex.specs.declared.token.Kind.TheVariants as k
use Rattle.sql_lex.specs.declared.token.Value.{Value}
use Rattle.sql_lex.specs.declared.token.Value.TheVariants as v
use Rattle.sql_lex.specs.declared.lexer.Front.{Front}
use Rattle.sql_lex.specs.Lex.{is_letter, is_word, is_digit, is_blank, is_bad, is_plain, lower, first, all_pass, reserved, front, front_of, token_at, tokens_from, limit, sign_of}
use Rattle.sql_lex.specs.Quotes.{NoQuote}
use Rattle.sql_lex.proofs.QuoteLaws.{Past}
use Rattle.sql_lex.proofs.Lexing.{tokens_blank_at, tokens_good_at}
use Rattle.sql_lex.proofs.Fronts.{reserved_front, plain_front, text_front, name_front, pos_front, neg_front, less_front, greater_front, star_front, comma_front, dot_front, open_front, close_front, semi_front, equal_front, not_equal_front, at_most_front, at_least_front}
use Rattle.sql_print.specs.Said.{Bare, bares}
use Rattle.sql_print.specs.Spelling.{word_spelling, name_spelling, spelling_by, spelling, gap_before, gap, written}
use Rattle.sql_print.proofs.Sayable.{AllSayable, sayable, sayable_by}

split : (b : Bool) → (b ≡ true) ⊎ (b ≡ false)
split true = inl refl
split false = inr refl

-- ---- what may follow

-- a space, a comma, a closing parenthesis or a dot
abbrev breaks : ℕ → Bool
breaks c = eqb c 32 || (eqb c 44 || (eqb c 41 || eqb c 46))

abbrev Breaks : List ℕ → Type 0
Breaks [] = Unit {0}
Breaks (c ∷ z) = breaks c ≡ true

either : (a b : Bool) → (a || b) ≡ true → (a ≡ true) ⊎ (b ≡ true)
either true b h = inl refl
either false b h = inr h

four : (P : ℕ → Type 0) (c : ℕ) → breaks c ≡ true → P 32 → P 44 → P 41 → P 46 → P c
four P c h p q r s =
    elim (either (eqb c 32) (eqb c 44 || (eqb c 41 || eqb c 46)) h) [
      | inl e ↦ subst P (sym (eqb-true c 32 e)) p
      | inr h1 ↦ elim (either (eqb c 44) (eqb c 41 || eqb c 46) h1) [
        | inl e ↦ subst P (sym (eqb-true c 44 e)) q
        | inr h2 ↦ elim (either (eqb c 41) (eqb c 46) h2) [
          | inl e ↦ subst P (sym (eqb-true c 41 e)) r
          | inr e ↦ subst P (sym (eqb-true c 46 e)) s
        ]
      ]
    ]

past_word : (rest : List ℕ) → Breaks rest → Past is_word rest
past_word [] h = tt
past_word (c ∷ z) h = four (λ b. is_word b ≡ false) c h refl refl refl refl

past_digit : (rest : List ℕ) → Breaks rest → Past is_digit rest
past_digit [] h = tt
past_digit (c ∷ z) h = four (λ b. is_digit b ≡ false) c h refl refl refl refl

no_double : (rest : List ℕ) → Breaks rest → NoQuote 34 rest
no_double [] h = tt
no_double (c ∷ z) h = four (λ b. eqb b 34 ≡ false) c h refl refl refl refl

no_single : (rest : List ℕ) → Breaks rest → NoQuote 39 rest
no_single [] h = tt
no_single (c ∷ z) h = four (λ b. eqb b 39 ≡ false) c h refl refl refl refl

no_equal : (rest : List ℕ) → Breaks rest → eqb (first rest) 61 ≡ false
no_equal [] h = refl
no_equal (c ∷ z) h = four (λ b. eqb b 61 ≡ false) c h refl refl refl refl

no_greater : (rest : List ℕ) → Breaks rest → eqb (first rest) 62 ≡ false
no_greater [] h = refl
no_greater (c ∷ z) h = four (λ b. eqb b 62 ≡ false) c h refl refl refl refl

-- behind a parenthesis and a dot anything may follow
abbrev Follows : Kind → List ℕ → Type 0
Follows k.Open rest = Unit {0}
Follows k.Dot rest = Unit {0}
Follows _ rest = Breaks rest

breaks_before : (kind : Kind) (value : Value) (rest : List ℕ) → sayable_by kind value ≡ true → Breaks ((gap_before kind ++ spelling_by kind value) ++ rest)
breaks_before k.Comma v.Fixed rest h = refl
breaks_before k.Comma (v.Text bs) rest h = absurd cc
breaks_before k.Comma (v.Number n) rest h = absurd cc
breaks_before k.Close v.Fixed rest h = refl
breaks_before k.Close (v.Text bs) rest h = absurd cc
breaks_before k.Close (v.Number n) rest h = absurd cc
breaks_before k.Dot v.Fixed rest h = refl
breaks_before k.Dot (v.Text bs) rest h = absurd cc
breaks_before k.Dot (v.Number n) rest h = absurd cc
breaks_before _ value rest h = refl

follows : (kind : Kind) (ws : List Bare) → AllSayable ws → Follows kind (written (Some kind) ws)
follows k.Open ws h = tt
follows k.Dot ws h = tt
follows _ [] h = tt
follows _ (w ∷ ws) h = breaks_before w.0 w.1 (written (Some w.0) ws) h.0

-- ---- one token

word_back : (w : List ℕ) (kind : Kind) (rest : List ℕ) → is_letter (first w) ≡ true → all_pass is_word w ≡ true → reserved (map lower w) ≡ Some kind → Breaks rest → front (w ++ rest) ≡ front_of kind v.Fixed (length w)
word_back [] kind rest begins all is h = absurd cc
word_back (b ∷ w) kind rest begins all is h = reserved_front b w kind rest begins all is (past_word rest h)

fixed_back : (kind : Kind) (rest : List ℕ) → sayable_by kind v.Fixed ≡ true → Follows kind rest → front (word_spelling kind ++ rest) ≡ front_of kind v.Fixed (length (word_spelling kind))
unfolding reserved
fixed_back k.Select rest h f = word_back (codes "select") k.Select rest refl refl refl f
fixed_back k.From rest h f = word_back (codes "from") k.From rest refl refl refl f
fixed_back k.Where rest h f = word_back (codes "where") k.Where rest refl refl refl f
fixed_back k.Join rest h f = word_back (codes "join") k.Join rest refl refl refl f
fixed_back k.Inner rest h f = word_back (codes "inner") k.Inner rest refl refl refl f
fixed_back k.On rest h f = word_back (codes "on") k.On rest refl refl refl f
fixed_back k.Order rest h f = word_back (codes "order") k.Order rest refl refl refl f
fixed_back k.By rest h f = word_back (codes "by") k.By rest refl refl refl f
fixed_back k.Asc rest h f = word_back (codes "asc") k.Asc rest refl refl refl f
fixed_back k.Desc rest h f = word_back (codes "desc") k.Desc rest refl refl refl f
fixed_back k.Limit rest h f = word_back (codes "limit") k.Limit rest refl refl refl f
fixed_back k.And rest h f = word_back (codes "and") k.And rest refl refl refl f
fixed_back k.Or rest h f = word_back (codes "or") k.Or rest refl refl refl f
fixed_back k.Not rest h f = word_back (codes "not") k.Not rest refl refl refl f
fixed_back k.In rest h f = word_back (codes "in") k.In rest refl refl refl f
fixed_back k.Is rest h f = word_back (codes "is") k.Is rest refl refl refl f
fixed_back k.Null rest h f = word_back (codes "null") k.Null rest refl refl refl f
fixed_back k.True rest h f = word_back (codes "true") k.True rest refl refl refl f
fixed_back k.False rest h f = word_back (codes "false") k.False rest refl refl refl f
fixed_back k.As rest h f = word_back (codes "as") k.As rest refl refl refl f
fixed_back k.Group rest h f = word_back (codes "group") k.Group rest refl refl refl f
fixed_back k.Star rest h f = star_front rest
fixed_back k.Comma rest h f = comma_front rest
fixed_back k.Dot rest h f = dot_front rest
fixed_back k.Open rest h f = open_front rest
fixed_back k.Close rest h f = close_front rest
fixed_back k.Semi rest h f = semi_front rest
fixed_back k.Equal rest h f = equal_front rest
fixed_back k.NotEqual rest h f = not_equal_front rest
fixed_back k.Less rest h f = less_front rest (no_equal rest f) (no_greater rest f)
fixed_back k.AtMost rest h f = at_most_front rest
fixed_back k.Greater rest h f = greater_front rest (no_equal rest f)
fixed_back k.AtLeast rest h f = at_least_front rest
fixed_back k.Name rest h f = absurd cc
fixed_back k.Number rest h f = absurd cc
fixed_back k.Text rest h f = absurd cc
fixed_back k.Bad rest h f = absurd cc

name_back : (b : ℕ) (bs rest : List ℕ) → Breaks rest → front (name_spelling (b ∷ bs) ++ rest) ≡ front_of k.Name (v.Text (b ∷ bs)) (length (name_spelling (b ∷ bs)))
name_back b bs rest h =
    elim (split (is_plain (b ∷ bs))) [
      | inl plain ↦ rw plain (plain_front (b ∷ bs) rest plain (past_word rest h))
      | inr other ↦ rw other (name_front b bs rest (no_double rest h))
    ]

number_back : (n : ℤ) (rest : List ℕ) → sayable_by k.Number (v.Number n) ≡ true → Breaks rest → front (signed_decimal n ++ rest) ≡ front_of k.Number (v.Number n) (length (signed_decimal n))
number_back (pos n) rest h f = pos_front n rest (ltb-true n limit h) (past_digit rest f)
number_back (negsuc n) rest h f = neg_front n rest (ltb-true n limit h) (past_digit rest f)

back_by : (kind : Kind) (value : Value) (rest : List ℕ) → sayable_by kind value ≡ true → Follows kind rest → front (spelling_by kind value ++ rest) ≡ front_of kind value (length (spelling_by kind value))
back_by kind v.Fixed rest h f = fixed_back kind rest h f
back_by k.Name (v.Text []) rest h f = absurd cc
back_by k.Name (v.Text (b ∷ bs)) rest h f = name_back b bs rest f
back_by k.Text (v.Text bs) rest h f = text_front bs rest (no_single rest f)
back_by _ (v.Text bs) rest h f = absurd cc
back_by k.Number (v.Number n) rest h f = number_back n rest h f
back_by _ (v.Number n) rest h f = absurd cc

-- ---- tokens

not_bad : (kind : Kind) (value : Value) → sayable_by kind value ≡ true → is_bad kind ≡ false
not_bad k.Bad v.Fixed h = absurd cc
not_bad k.Bad (v.Text bs) h = absurd cc
not_bad k.Bad (v.Number n) h = absurd cc
not_bad _ value h = refl

front_nil : front [] ≡ front_of k.Bad v.Fixed 1
unfolding front
front_nil = refl

front_blank : (b : ℕ) (z : List ℕ) → is_blank b ≡ true → front (b ∷ z) ≡ front_of k.Bad v.Fixed 1
unfolding front sign_of
front_blank b z h = elim (either (eqb b 32) (eqb b 9) h) [
  | inl e ↦ subst (λ c. front (c ∷ z) ≡ front_of k.Bad v.Fixed 1) (sym (eqb-true b 32 e)) refl
  | inr e ↦ subst (λ c. front (c ∷ z) ≡ front_of k.Bad v.Fixed 1) (sym (eqb-true b 9 e)) refl
]

-- a spelling is not empty and does not begin with a blank
record Starts (z : List ℕ) : Type 0 where
  head : ℕ
  tail : List ℕ
  is : z ≡ head ∷ tail
  solid : is_blank head ≡ false

bad_front : (z : List ℕ) (kind : Kind) (value : Value) (n : ℕ) → front z ≡ front_of kind value n → front z ≡ front_of k.Bad v.Fixed 1 → is_bad kind ≡ false → ⊥
bad_front z kind value n e f h = let same : front_of k.Bad v.Fixed 1 ≡ front_of kind value n = sym f ∙ e in let bad : is_bad k.Bad ≡ is_bad kind = ap (λ (x : Front). is_bad x.kind) same in cc

starts_by : (kind : Kind) (value : Value) (z : List ℕ) → is_bad kind ≡ false → front (z ++ []) ≡ front_of kind value (length z) → Starts z
starts_by kind value [] h e = absurd (bad_front [] kind value 0 e front_nil h)
starts_by kind value (b ∷ z) h e =
    elim (split (is_blank b)) [
      | inl blank ↦ absurd (bad_front (b ∷ z ++ []) kind value (length (b ∷ z)) e (front_blank b (z ++ []) blank) h)
      | inr solid ↦ record { head = b; tail = z; is = refl; solid = solid }
    ]

starts : (w : Bare) → sayable w ≡ true → Starts (spelling w)
starts w h = starts_by w.0 w.1 (spelling w) (not_bad w.0 w.1 h) (back_by w.0 w.1 [] h (follows w.0 [] tt))

drop_front : (z rest : List ℕ) → drop (length z) (z ++ rest) ≡ rest
drop_front [] rest = refl
drop_front (b ∷ z) rest = drop_front z rest

one_by : (place b : ℕ) (z rest : List ℕ) (kind : Kind) (value : Value) → is_blank b ≡ false → is_bad kind ≡ false → front (b ∷ z ++ rest) ≡ front_of kind value (length (b ∷ z))
    → tokens_from 0 place (b ∷ z ++ rest) ≡ token_at (front_of kind value (length (b ∷ z))) place ∷ tokens_from 0 (place + length (b ∷ z)) rest
one_by place b z rest kind value solid good is =
    let f = front (b ∷ z ++ rest) in
    let kind-is : is_bad f.kind ≡ false = ap (λ (x : Front). is_bad x.kind) is ∙ good in
    let moves : 1 ≤ f.len = subst (λ (x : Front). 1 ≤ x.len) (sym is) (omega arith) in
    tokens_good_at place b (z ++ rest) solid kind-is moves
    ∙ subst (λ (x : Front). token_at f place ∷ tokens_from 0 (place + f.len) (drop f.len (b ∷ z ++ rest)) ≡ token_at x place ∷ tokens_from 0 (place + x.len) (drop x.len (b ∷ z ++ rest))) is refl
    ∙ ap (λ (us : List ℕ). token_at (front_of kind value (length (b ∷ z))) place ∷ tokens_from 0 (place + length (b ∷ z)) us) (drop_front (b ∷ z) rest)

one_token : (place : ℕ) (z rest : List ℕ) (kind : Kind) (value : Value) → Starts z → is_bad kind ≡ false → front (z ++ rest) ≡ front_of kind value (length z)
    → tokens_from 0 place (z ++ rest) ≡ token_at (front_of kind value (length z)) place ∷ tokens_from 0 (place + length z) rest
one_token place [] rest kind value s good is = absurd (let e = s.is in cc)
one_token place (b ∷ z) rest kind value s good is = let same : b ≡ s.head = (let e = s.is in cc) in one_by place b z rest kind value (subst (λ c. is_blank c ≡ false) (sym same) s.solid) good is

no_gap : (kind : Kind) → (gap_before kind ≡ []) ⊎ (gap_before kind ≡ 32 ∷ [])
no_gap k.Comma = inl refl
no_gap k.Close = inl refl
no_gap k.Dot = inl refl
no_gap _ = inr refl

gap_cases : (last : Option Kind) (kind : Kind) → (gap last kind ≡ []) ⊎ (gap last kind ≡ 32 ∷ [])
gap_cases None kind = inl refl
gap_cases (Some k.Open) kind = inl refl
gap_cases (Some k.Dot) kind = inl refl
gap_cases (Some _) kind = no_gap kind

blank_first : (place : ℕ) (z : List ℕ) → tokens_from 0 place (32 ∷ z) ≡ tokens_from 0 (place + 1) z
blank_first place z = tokens_blank_at place 32 z refl

nothing : (place : ℕ) → bares (tokens_from 0 place []) ≡ []
unfolding tokens_from
nothing place = refl

pub relexed : (last : Option Kind) (ws : List Bare) (place : ℕ) → AllSayable ws → bares (tokens_from 0 place (written last ws)) ≡ ws
relexed last [] place h = nothing place
relexed last (w ∷ ws) place h =
    let rest = written (Some w.0) ws in
    let one : (at : ℕ) → tokens_from 0 at (spelling w ++ rest) ≡ token_at (front_of w.0 w.1 (length (spelling w))) at ∷ tokens_from 0 (at + length (spelling w)) rest =
    λ at. one_token at (spelling w) rest w.0 w.1 (starts w h.0) (not_bad w.0 w.1 h.0) (back_by w.0 w.1 rest h.0 (follows w.0 ws h.1)) in
    let more : (at : ℕ) → bares (tokens_from 0 at (spelling w ++ rest)) ≡ w ∷ ws =
    λ at. ap bares (one at) ∙ ap (λ (bs : List Bare). w ∷ bs) (relexed (Some w.0) ws (at + length (spelling w)) h.1) in
    elim (gap_cases last w.0) [
      | inl none ↦ ap (λ (g : List ℕ). bares (tokens_from 0 place ((g ++ spelling w) ++ rest))) none ∙ more place
      | inr space ↦ ap (λ (g : List ℕ). bares (tokens_from 0 place ((g ++ spelling w) ++ rest))) space ∙ ap bares (blank_first place (spelling w ++ rest)) ∙ more (place + 1)
    ]
