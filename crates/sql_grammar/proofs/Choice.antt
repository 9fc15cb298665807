-- A phrase or none; either of two; any number of phrases.
use Rattle.std.proofs.Common.{◌≡◌, true, false, List, [], ◌∷◌, ◌++◌, inl, inr, Option, Some, None, Ok, Err, refl, sym, ap, subst, ◌∙◌}
use Rattle.sql_lex.specs.declared.token.Kind.{Kind}
use Rattle.sql_lex.specs.declared.token.Token.{Token}
use Rattle.sql_grammar.specs.Language.{Lang, Viable, Maybe, Either}
use Rattle.sql_grammar.specs.Reading.{Fault, Outcome, Parser, has, next_in, maybe_at, either_at, ◌>>=◌}
use Rattle.sql_grammar.proofs.Rules.{SameHead, Stops, Taken, Stuck, Rule, same_head_append, stops_left, stops_right, stops_next, next_same_head}
use Rattle.sql_grammar.proofs.Sets.{split, has_left, has_right, disjoint, apart, bind_ok, bind_err, ok_is}

-- ---- [ phrase ]

some_ok : {A : Type 0} (ks : List Kind) (p : Parser A) (ts rest : List Token) (x : A) → next_in ks ts ≡ true → p ts ≡ Ok (x, rest) → maybe_at ks p ts ≡ Ok (Some x, rest)
some_ok ks p ts rest x h e = rw (h, e) refl

some_err : {A : Type 0} (ks : List Kind) (p : Parser A) (ts : List Token) (f : Fault) → next_in ks ts ≡ true → p ts ≡ Err f → maybe_at ks p ts ≡ Err f
some_err ks p ts f h e = rw (h, e) refl

none_ok : {A : Type 0} (ks : List Kind) (p : Parser A) (ts : List Token) → next_in ks ts ≡ false → maybe_at ks p ts ≡ Ok (None, ts)
none_ok ks p ts h = rw h refl

abbrev yes : {A : Type 0} (ks : List Kind) (p : Parser A) (ts : List Token) → Outcome (Option A)
yes ks p ts = p ts >>= λ a. Ok (Some a.0, a.1)

some_is : {A : Type 0} (ks : List Kind) (p : Parser A) (ts : List Token) → next_in ks ts ≡ true → maybe_at ks p ts ≡ yes ks p ts
some_is ks p ts h = rw h refl

-- the same head means the same branch
pub next_after : (ks : List Kind) (ts front rest other : List Token) → ts ≡ front ++ rest → SameHead rest other → next_in ks (front ++ other) ≡ next_in ks ts
next_after ks ts front rest other e h = rw e (sym (next_same_head ks (front ++ rest) (front ++ other) (same_head_append front rest other h)))

module _ {A : Type 0} (p : Rule A) (not_empty : p.empty ≡ false) where
  begins_next : (front rest : List Token) (x : A) → p.lang front x → next_in p.begins (front ++ rest) ≡ true
  begins_next [] rest x a = absurd (let f = p.filled x a in cc)
  begins_next (t ∷ front) rest x a = p.firsts t front x a

  pub maybe_firsts : (t : Token) (ts : List Token) (o : Option A) → Maybe p.lang (t ∷ ts) o → has p.begins t.kind ≡ true
  maybe_firsts t ts None a = absurd cc
  maybe_firsts t ts (Some x) a = p.firsts t ts x a

  pub maybe_complete : (front rest : List Token) (o : Option A) → Maybe p.lang front o → Stops (p.begins ++ p.goes_on) rest → maybe_at p.begins p.read (front ++ rest) ≡ Ok (o, rest)
  maybe_complete front rest None a s = rw a (none_ok p.begins p.read rest (stops_next p.begins rest (stops_left p.begins p.goes_on rest s)))
  maybe_complete front rest (Some x) a s = some_ok p.begins p.read (front ++ rest) rest x (begins_next front rest x a) (p.complete front rest x a (stops_right p.begins p.goes_on rest s))

  maybe_taken_some : (ts : List Token) (x : A) (rest : List Token) → next_in p.begins ts ≡ true → Taken p.lang p.read ts x rest → Taken (Maybe p.lang) (maybe_at p.begins p.read) ts (Some x) rest
  maybe_taken_some ts x rest h t = record {
    front = t.front;
    parts = t.parts;
    is = t.is;
    keeps = λ other s. some_ok p.begins p.read (t.front ++ other) other x (next_after p.begins ts t.front rest other t.parts s ∙ h) (t.keeps other s);
  }

  maybe_taken_none : (ts : List Token) → next_in p.begins ts ≡ false → Taken (Maybe p.lang) (maybe_at p.begins p.read) ts None ts
  maybe_taken_none ts h = record {
    front = [];
    parts = refl;
    is = refl;
    keeps = λ other s. none_ok p.begins p.read other (sym (next_same_head p.begins ts other s) ∙ h);
  }

  pub maybe_taken : (ts : List Token) (o : Option A) (rest : List Token) → maybe_at p.begins p.read ts ≡ Ok (o, rest) → Taken (Maybe p.lang) (maybe_at p.begins p.read) ts o rest
  maybe_taken ts o rest e =
      elim (split (next_in p.begins ts)) [
        | inl h ↦ let a = bind_ok (p.read ts) (λ a. Ok (Some a.0, a.1)) (o, rest) (sym (some_is p.begins p.read ts h) ∙ e) in
            let made : Option A × List Token = (Some a.0.0, a.0.1) in
            subst (λ (z : Option A × List Token). Taken (Maybe p.lang) (maybe_at p.begins p.read) ts z.0 z.1) (ok_is made (o, rest) a.2)
            (maybe_taken_some ts a.0.0 a.0.1 h (p.taken ts a.0.0 a.0.1 a.1))
        | inr h ↦ let made : Option A × List Token = (None, ts) in
            subst (λ (z : Option A × List Token). Taken (Maybe p.lang) (maybe_at p.begins p.read) ts z.0 z.1) (ok_is made (o, rest) (sym (none_ok p.begins p.read ts h) ∙ e)) (maybe_taken_none ts h)
      ]

  viable_some : (L : Lang A) (ts : List Token) → Viable L ts → Viable (Maybe L) ts
  viable_some L ts v = record { more = v.more; value = Some v.value; is = v.is }

  maybe_stuck_at : (ts : List Token) (f : Fault) → next_in p.begins ts ≡ true → Stuck p.lang p.wide p.read ts f → Stuck (Maybe p.lang) (Maybe p.wide) (maybe_at p.begins p.read) ts f
  maybe_stuck_at ts f h s = record {
    front = s.front;
    parts = s.parts;
    viable = viable_some p.lang s.front s.viable;
    stays = λ t more other e. some_err p.begins p.read (s.front ++ t ∷ other) (record { deep = f.deep; rest = t ∷ other })
        (next_after p.begins ts s.front (t ∷ more) (t ∷ other) (s.parts ∙ ap (λ (us : List Token). s.front ++ us) e) refl ∙ h) (s.stays t more other e);
    deeper = λ d. let w = s.deeper d in record { next = w.next; others = w.others; is = w.is; viable = viable_some p.wide (s.front ++ w.next ∷ []) w.viable };
  }

  pub maybe_stuck : (ts : List Token) (f : Fault) → maybe_at p.begins p.read ts ≡ Err f → Stuck (Maybe p.lang) (Maybe p.wide) (maybe_at p.begins p.read) ts f
  maybe_stuck ts f e =
      elim (split (next_in p.begins ts)) [
        | inl h ↦ elim (bind_err (p.read ts) (λ a. Ok (Some a.0, a.1)) f (sym (some_is p.begins p.read ts h) ∙ e)) [
          | inl g ↦ maybe_stuck_at ts f h (p.stuck ts f g)
          | inr g ↦ absurd (let z = g.2 in cc)
        ]
        | inr h ↦ absurd (let g = none_ok p.begins p.read ts h in cc)
      ]

  maybe_within : (ts : List Token) (o : Option A) → Maybe p.lang ts o → Maybe p.wide ts o
  maybe_within ts None a = a
  maybe_within ts (Some x) a = p.within ts x a

  pub maybe_in : (ts : List Token) (o : Option A) → Maybe p.lang ts o → Maybe p.wide ts o
  maybe_in = maybe_within

  abbrev pub maybe : Rule (Option A)
  maybe = record {
    lang = Maybe p.lang;
    wide = Maybe p.wide;
    read = maybe_at p.begins p.read;
    begins = p.begins;
    goes_on = p.begins ++ p.goes_on;
    empty = true;
    within = maybe_in;
    some = ([], None, refl);
    firsts = maybe_firsts;
    filled = λ o a. refl;
    complete = maybe_complete;
    taken = maybe_taken;
    stuck = maybe_stuck;
  }

-- ---- either of two

left_is : {A : Type 0} (ks : List Kind) (p q : Parser A) (ts : List Token) → next_in ks ts ≡ true → either_at ks p q ts ≡ p ts
left_is ks p q ts h = rw h refl

right_is : {A : Type 0} (ks : List Kind) (p q : Parser A) (ts : List Token) → next_in ks ts ≡ false → either_at ks p q ts ≡ q ts
right_is ks p q ts h = rw h refl

module _ {A : Type 0} (p q : Rule A) (first_filled : p.empty ≡ false) (second_filled : q.empty ≡ false) (apart_here : disjoint q.begins p.begins ≡ true) where
  not_first : (front rest : List Token) (x : A) → q.lang front x → next_in p.begins (front ++ rest) ≡ false
  not_first [] rest x b = absurd (let f = q.filled x b in cc)
  not_first (t ∷ front) rest x b = apart q.begins p.begins t.kind apart_here (q.firsts t front x b)

  pub either_firsts : (t : Token) (ts : List Token) (x : A) → Either p.lang q.lang (t ∷ ts) x → has (p.begins ++ q.begins) t.kind ≡ true
  either_firsts t ts x (inl a) = has_left p.begins q.begins t.kind (p.firsts t ts x a)
  either_firsts t ts x (inr b) = has_right p.begins q.begins t.kind (q.firsts t ts x b)

  pub either_filled : (x : A) → Either p.lang q.lang [] x → false ≡ true
  either_filled x (inl a) = sym first_filled ∙ p.filled x a
  either_filled x (inr b) = sym second_filled ∙ q.filled x b

  pub either_complete : (front rest : List Token) (x : A) → Either p.lang q.lang front x → Stops (p.goes_on ++ q.goes_on) rest → either_at p.begins p.read q.read (front ++ rest) ≡ Ok (x, rest)
  either_complete front rest x (inl a) s = left_is p.begins p.read q.read (front ++ rest) (begins_next p first_filled front rest x a) ∙ p.complete front rest x a (stops_left p.goes_on q.goes_on rest s)
  either_complete front rest x (inr b) s = right_is p.begins p.read q.read (front ++ rest) (not_first front rest x b) ∙ q.complete front rest x b (stops_right p.goes_on q.goes_on rest s)

  either_taken_left : (ts : List Token) (x : A) (rest : List Token) → next_in p.begins ts ≡ true → Taken p.lang p.read ts x rest → Taken (Either p.lang q.lang) (either_at p.begins p.read q.read) ts x rest
  either_taken_left ts x rest h t = record {
    front = t.front;
    parts = t.parts;
    is = inl t.is;
    keeps = λ other s. left_is p.begins p.read q.read (t.front ++ other) (next_after p.begins ts t.front rest other t.parts s ∙ h) ∙ t.keeps other s;
  }

  either_taken_right : (ts : List Token) (x : A) (rest : List Token) → next_in p.begins ts ≡ false → Taken q.lang q.read ts x rest → Taken (Either p.lang q.lang) (either_at p.begins p.read q.read) ts x rest
  either_taken_right ts x rest h t = record {
    front = t.front;
    parts = t.parts;
    is = inr t.is;
    keeps = λ other s. right_is p.begins p.read q.read (t.front ++ other) (next_after p.begins ts t.front rest other t.parts s ∙ h) ∙ t.keeps other s;
  }

  pub either_taken : (ts : List Token) (x : A) (rest : List Token) → either_at p.begins p.read q.read ts ≡ Ok (x, rest) → Taken (Either p.lang q.lang) (either_at p.begins p.read q.read) ts x rest
  either_taken ts x rest e =
      elim (split (next_in p.begins ts)) [
        | inl h ↦ either_taken_left ts x rest h (p.taken ts x rest (sym (left_is p.begins p.read q.read ts h) ∙ e))
        | inr h ↦ either_taken_right ts x rest h (q.taken ts x rest (sym (right_is p.begins p.read q.read ts h) ∙ e))
      ]

  viable_left : (L M : Lang A) (ts : List Token) → Viable L ts → Viable (Either L M) ts
  viable_left L M ts v = record { more = v.more; value = v.value; is = inl v.is }

  viable_right : (L M : Lang A) (ts : List Token) → Viable M ts → Viable (Either L M) ts
  viable_right L M ts v = record { more = v.more; value = v.value; is = inr v.is }

  either_stuck_left : (ts : List Token) (f : Fault) → next_in p.begins ts ≡ true → Stuck p.lang p.wide p.read ts f → Stuck (Either p.lang q.lang) (Either p.wide q.wide) (either_at p.begins p.read q.read) ts f
  either_stuck_left ts f h s = record {
    front = s.front;
    parts = s.parts;
    viable = viable_left p.lang q.lang s.front s.viable;
    stays = λ t more other e. left_is p.begins p.read q.read (s.front ++ t ∷ other) (next_after p.begins ts s.front (t ∷ more) (t ∷ other) (s.parts ∙ ap (λ (us : List Token). s.front ++ us) e) refl ∙ h) ∙ s.stays t more other e;
    deeper = λ d. let w = s.deeper d in record { next = w.next; others = w.others; is = w.is; viable = viable_left p.wide q.wide (s.front ++ w.next ∷ []) w.viable };
  }

  either_stuck_right : (ts : List Token) (f : Fault) → next_in p.begins ts ≡ false → Stuck q.lang q.wide q.read ts f → Stuck (Either p.lang q.lang) (Either p.wide q.wide) (either_at p.begins p.read q.read) ts f
  either_stuck_right ts f h s = record {
    front = s.front;
    parts = s.parts;
    viable = viable_right p.lang q.lang s.front s.viable;
    stays = λ t more other e. right_is p.begins p.read q.read (s.front ++ t ∷ other) (next_after p.begins ts s.front (t ∷ more) (t ∷ other) (s.parts ∙ ap (λ (us : List Token). s.front ++ us) e) refl ∙ h) ∙ s.stays t more other e;
    deeper = λ d. let w = s.deeper d in record { next = w.next; others = w.others; is = w.is; viable = viable_right p.wide q.wide (s.front ++ w.next ∷ []) w.viable };
  }

  pub either_stuck : (ts : List Token) (f : Fault) → either_at p.begins p.read q.read ts ≡ Err f → Stuck (Either p.lang q.lang) (Either p.wide q.wide) (either_at p.begins p.read q.read) ts f
  either_stuck ts f e =
      elim (split (next_in p.begins ts)) [
        | inl h ↦ either_stuck_left ts f h (p.stuck ts f (sym (left_is p.begins p.read q.read ts h) ∙ e))
        | inr h ↦ either_stuck_right ts f h (q.stuck ts f (sym (right_is p.begins p.read q.read ts h) ∙ e))
      ]

  pub either_in : (ts : List Token) (x : A) → Either p.lang q.lang ts x → Either p.wide q.wide ts x
  either_in ts x (inl a) = inl (p.within ts x a)
  either_in ts x (inr b) = inr (q.within ts x b)

  abbrev pub either : Rule A
  either = record {
    lang = Either p.lang q.lang;
    wide = Either p.wide q.wide;
    read = either_at p.begins p.read q.read;
    begins = p.begins ++ q.begins;
    goes_on = p.goes_on ++ q.goes_on;
    empty = false;
    within = either_in;
    some = (p.some.0, p.some.1, inl p.some.2);
    firsts = either_firsts;
    filled = either_filled;
    complete = either_complete;
    taken = either_taken;
    stuck = either_stuck;
  }
