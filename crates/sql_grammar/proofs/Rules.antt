-- What a reader and its language have to do with each other.
use Rattle.std.proofs.Common.{◌≡◌, Bool, true, false, List, [], ◌∷◌, ◌++◌, Ok, Err, refl, ap}
use Rattle.sql_lex.specs.declared.token.Kind.{Kind}
use Rattle.sql_lex.specs.declared.token.Token.{Token}
use Rattle.sql_grammar.specs.Language.{Lang, Viable}
use Rattle.sql_grammar.specs.Reading.{Fault, Outcome, has, next_in}
use Rattle.sql_grammar.proofs.Sets.{lacks_left, lacks_right}

-- both end, or both go on with the same token
abbrev pub SameHead : List Token → List Token → Type 0
SameHead [] [] = Unit {0}
SameHead [] (u ∷ us) = ⊥
SameHead (t ∷ ts) [] = ⊥
SameHead (t ∷ ts) (u ∷ us) = t ≡ u

-- no token of the set comes next
abbrev pub Stops : List Kind → List Token → Type 0
Stops ks [] = Unit {0}
Stops ks (t ∷ ts) = has ks t.kind ≡ false

-- A phrase was taken from the front, and would be before any tokens of the same head.
pub record Taken {A : Type 0} (L : List Token → A → Type 0) (read : List Token → Outcome A) (ts : List Token) (x : A) (rest : List Token) : Type 0 where
  pub front : List Token
  pub parts : ts ≡ front ++ rest
  pub is : L front x
  pub keeps : (other : List Token) → SameHead rest other → read (front ++ other) ≡ Ok (x, other)

-- the token after the front is one with which the wide language goes on
pub record Deeper {A : Type 0} (W : List Token → A → Type 0) (front rest : List Token) : Type 0 where
  pub next : Token
  pub others : List Token
  pub is : rest ≡ next ∷ others
  pub viable : Viable W (front ++ next ∷ [])

-- What was passed begins a phrase, and the fault is at the same token whatever follows it.
pub record Stuck {A : Type 0} (L W : List Token → A → Type 0) (read : List Token → Outcome A) (ts : List Token) (f : Fault) : Type 0 where
  pub front : List Token
  pub parts : ts ≡ front ++ f.rest
  pub viable : Viable L front
  pub stays : (t : Token) (more other : List Token) → f.rest ≡ t ∷ more → read (front ++ t ∷ other) ≡ Err (record { deep = f.deep; rest = t ∷ other })
  pub deeper : f.deep ≡ true → Deeper W front f.rest

-- A language and its reader. `wide` is the language with one level of nesting more.
pub record Rule (A : Type 0) : Type 1 where
  pub lang : List Token → A → Type 0
  pub wide : List Token → A → Type 0
  pub read : List Token → Outcome A
  -- the kinds of first tokens, and those with which a finished phrase may go on
  pub begins : List Kind
  pub goes_on : List Kind
  pub empty : Bool
  pub within : (ts : List Token) (x : A) → lang ts x → wide ts x
  pub some : (ts : List Token) × (x : A) × lang ts x
  pub firsts : (t : Token) (ts : List Token) (x : A) → lang (t ∷ ts) x → has begins t.kind ≡ true
  pub filled : (x : A) → lang [] x → empty ≡ true
  pub complete : (front rest : List Token) (x : A) → lang front x → Stops goes_on rest → read (front ++ rest) ≡ Ok (x, rest)
  pub taken : (ts : List Token) (x : A) (rest : List Token) → read ts ≡ Ok (x, rest) → Taken lang read ts x rest
  pub stuck : (ts : List Token) (f : Fault) → read ts ≡ Err f → Stuck lang wide read ts f

pub same_head_append : (front rest other : List Token) → SameHead rest other → SameHead (front ++ rest) (front ++ other)
same_head_append [] rest other h = h
same_head_append (t ∷ front) rest other h = refl

pub same_head_refl : (ts : List Token) → SameHead ts ts
same_head_refl [] = tt
same_head_refl (t ∷ ts) = refl

pub stops_left : (xs ys : List Kind) (ts : List Token) → Stops (xs ++ ys) ts → Stops xs ts
stops_left xs ys [] h = tt
stops_left xs ys (t ∷ ts) h = lacks_left xs ys t.kind h

pub stops_right : (xs ys : List Kind) (ts : List Token) → Stops (xs ++ ys) ts → Stops ys ts
stops_right xs ys [] h = tt
stops_right xs ys (t ∷ ts) h = lacks_right xs ys t.kind h

pub stops_next : (ks : List Kind) (ts : List Token) → Stops ks ts → next_in ks ts ≡ false
stops_next ks [] h = refl
stops_next ks (t ∷ ts) h = h

pub next_same_head : (ks : List Kind) (ts us : List Token) → SameHead ts us → next_in ks ts ≡ next_in ks us
next_same_head ks [] [] h = refl
next_same_head ks [] (u ∷ us) h = absurd h
next_same_head ks (t ∷ ts) [] h = absurd h
next_same_head ks (t ∷ ts) (u ∷ us) h = ap (λ (z : Token). has ks z.kind) h

pub viable_made : {A B : Type 0} (L : Lang A) (M : Lang B) (f : A → B) (ts : List Token) → ((us : List Token) (x : A) → L us x → M us (f x)) → Viable L ts → Viable M ts
viable_made L M f ts h v = record { more = v.more; value = f v.value; is = h (ts ++ v.more) v.value v.is }
