-- One token; a phrase with another value; a phrase before which some tokens go too deep.
use Rattle.std.proofs.Common.{◌≡◌, true, false, List, [], ◌∷◌, ◌++◌, ◌⊎◌, inl, inr, Option, Some, None, Ok, Err, refl, sym, ap, subst, ◌∙◌}
use Rattle.sql_lex.specs.declared.token.Kind.{Kind}
use Rattle.sql_lex.specs.declared.token.Token.{Token}
use Rattle.sql_grammar.specs.Language.{Lang, Viable, One, Made}
use Rattle.sql_grammar.specs.Reading.{Fault, Parser, has, next_in, one_at, made_at, shut_at, wrong, too_deep}
use Rattle.sql_grammar.proofs.Sets.{split, disjoint, apart, bind_ok, bind_err, ok_is, err_is}
use Rattle.sql_grammar.proofs.Rules.{SameHead, Stops, Taken, Stuck, Rule, same_head_append, next_same_head}

-- ---- one token

one_ok : {A : Type 0} (accept : Token → Option A) (t : Token) (rest : List Token) (x : A) → accept t ≡ Some x → one_at accept (t ∷ rest) ≡ Ok (x, rest)
one_ok accept t rest x e = rw e refl

one_err : {A : Type 0} (accept : Token → Option A) (t : Token) (rest : List Token) → accept t ≡ None → one_at accept (t ∷ rest) ≡ Err (wrong (t ∷ rest))
one_err accept t rest e = rw e refl

cases : {A : Type 0} (o : Option A) → ((x : A) × (o ≡ Some x)) ⊎ (o ≡ None)
cases (Some x) = inl (x, refl)
cases None = inr refl

module _ {A : Type 0} (accept : Token → Option A) (ks : List Kind) (example : Token) (value : A) (accepts : accept example ≡ Some value)
    (kinds : (t : Token) (x : A) → accept t ≡ Some x → has ks t.kind ≡ true) where
  pub one_firsts : (t : Token) (ts : List Token) (x : A) → One accept (t ∷ ts) x → has ks t.kind ≡ true
  one_firsts t ts x o = let alone = o.alone in let e : t ≡ o.token = cc in kinds t x (ap accept e ∙ o.says)

  pub one_filled : (x : A) → One accept [] x → false ≡ true
  one_filled x o = absurd (let alone = o.alone in cc)

  pub one_complete : (front rest : List Token) (x : A) → One accept front x → Stops [] rest → one_at accept (front ++ rest) ≡ Ok (x, rest)
  one_complete front rest x o s = rw o.alone (one_ok accept o.token rest x o.says)

  one_taken_at : (t : Token) (ts : List Token) (x : A) → accept t ≡ Some x → Taken (One accept) (one_at accept) (t ∷ ts) x ts
  one_taken_at t ts x e = record { front = t ∷ []; parts = refl; is = record { token = t; alone = refl; says = e }; keeps = λ other h. one_ok accept t other x e }

  pub one_taken : (ts : List Token) (x : A) (rest : List Token) → one_at accept ts ≡ Ok (x, rest) → Taken (One accept) (one_at accept) ts x rest
  one_taken [] x rest e = absurd cc
  one_taken (t ∷ ts) x rest e =
      elim (cases (accept t)) [
        | inl o ↦ let f = one_ok accept t ts o.0 o.1 in
            subst (λ (z : A × List Token). Taken (One accept) (one_at accept) (t ∷ ts) z.0 z.1) (ok_is (o.0, ts) (x, rest) (sym f ∙ e)) (one_taken_at t ts o.0 o.1)
        | inr o ↦ absurd (let f = one_err accept t ts o in cc)
      ]

  one_viable : Viable (One accept) []
  one_viable = record { more = example ∷ []; value = value; is = record { token = example; alone = refl; says = accepts } }

  one_stuck_nil : Stuck (One accept) (One accept) (one_at accept) [] (wrong [])
  one_stuck_nil = record { front = []; parts = refl; viable = one_viable; stays = λ t more other e. absurd cc; deeper = λ d. absurd cc }

  one_stuck_at : (t : Token) (ts : List Token) → accept t ≡ None → Stuck (One accept) (One accept) (one_at accept) (t ∷ ts) (wrong (t ∷ ts))
  one_stuck_at t ts e = record {
    front = [];
    parts = refl;
    viable = one_viable;
    stays = λ u more other h. one_err accept u other (let w : t ≡ u = cc in subst (λ z. accept z ≡ None) w e);
    deeper = λ d. absurd cc;
  }

  pub one_stuck : (ts : List Token) (f : Fault) → one_at accept ts ≡ Err f → Stuck (One accept) (One accept) (one_at accept) ts f
  one_stuck [] f e = subst (λ z. Stuck (One accept) (One accept) (one_at accept) [] z) (err_is (wrong []) f e) one_stuck_nil
  one_stuck (t ∷ ts) f e =
      elim (cases (accept t)) [
        | inl o ↦ absurd (let g = one_ok accept t ts o.0 o.1 in cc)
        | inr o ↦ subst (λ z. Stuck (One accept) (One accept) (one_at accept) (t ∷ ts) z) (err_is (wrong (t ∷ ts)) f (sym (one_err accept t ts o) ∙ e)) (one_stuck_at t ts o)
      ]

  abbrev pub one : Rule A
  one = record {
    lang = One accept;
    wide = One accept;
    read = one_at accept;
    begins = ks;
    goes_on = [];
    empty = false;
    within = λ ts x o. o;
    some = (example ∷ [], value, record { token = example; alone = refl; says = accepts });
    firsts = one_firsts;
    filled = one_filled;
    complete = one_complete;
    taken = one_taken;
    stuck = one_stuck;
  }

-- ---- another value

made_ok : {A B : Type 0} (f : A → B) (p : Parser A) (ts rest : List Token) (x : A) → p ts ≡ Ok (x, rest) → made_at f p ts ≡ Ok (f x, rest)
made_ok f p ts rest x e = rw e refl

made_err : {A B : Type 0} (f : A → B) (p : Parser A) (ts : List Token) (d : Fault) → p ts ≡ Err d → made_at f p ts ≡ Err d
made_err f p ts d e = rw e refl

viable_of : {A B : Type 0} (f : A → B) (L : Lang A) (ts : List Token) → Viable L ts → Viable (Made f L) ts
viable_of f L ts v = record { more = v.more; value = f v.value; is = record { inner = v.value; is = v.is; says = refl } }

module _ {A B : Type 0} (f : A → B) (p : Rule A) where
  pub made_complete : (front rest : List Token) (y : B) → Made f p.lang front y → Stops p.goes_on rest → made_at f p.read (front ++ rest) ≡ Ok (y, rest)
  made_complete front rest y m s = rw m.says (made_ok f p.read (front ++ rest) rest m.inner (p.complete front rest m.inner m.is s))

  made_taken_at : (ts : List Token) (x : A) (rest : List Token) → Taken p.lang p.read ts x rest → Taken (Made f p.lang) (made_at f p.read) ts (f x) rest
  made_taken_at ts x rest t = record {
    front = t.front;
    parts = t.parts;
    is = record { inner = x; is = t.is; says = refl };
    keeps = λ other h. made_ok f p.read (t.front ++ other) other x (t.keeps other h);
  }

  pub made_taken : (ts : List Token) (y : B) (rest : List Token) → made_at f p.read ts ≡ Ok (y, rest) → Taken (Made f p.lang) (made_at f p.read) ts y rest
  made_taken ts y rest e =
      let a = bind_ok (p.read ts) (λ a. Ok (f a.0, a.1)) (y, rest) e in
      let made : B × List Token = (f a.0.0, a.0.1) in
      subst (λ (z : B × List Token). Taken (Made f p.lang) (made_at f p.read) ts z.0 z.1) (ok_is made (y, rest) a.2) (made_taken_at ts a.0.0 a.0.1 (p.taken ts a.0.0 a.0.1 a.1))

  made_stuck_at : (ts : List Token) (d : Fault) → Stuck p.lang p.wide p.read ts d → Stuck (Made f p.lang) (Made f p.wide) (made_at f p.read) ts d
  made_stuck_at ts d s = record {
    front = s.front;
    parts = s.parts;
    viable = viable_of f p.lang s.front s.viable;
    stays = λ t more other e. made_err f p.read (s.front ++ t ∷ other) (record { deep = d.deep; rest = t ∷ other }) (s.stays t more other e);
    deeper = λ is. let w = s.deeper is in record { next = w.next; others = w.others; is = w.is; viable = viable_of f p.wide (s.front ++ w.next ∷ []) w.viable };
  }

  pub made_stuck : (ts : List Token) (d : Fault) → made_at f p.read ts ≡ Err d → Stuck (Made f p.lang) (Made f p.wide) (made_at f p.read) ts d
  made_stuck ts d e =
      elim (bind_err (p.read ts) (λ a. Ok (f a.0, a.1)) d e) [
        | inl h ↦ made_stuck_at ts d (p.stuck ts d h)
        | inr h ↦ absurd (let z = h.2 in cc)
      ]

  abbrev pub made : Rule B
  made = record {
    lang = Made f p.lang;
    wide = Made f p.wide;
    read = made_at f p.read;
    begins = p.begins;
    goes_on = p.goes_on;
    empty = p.empty;
    within = λ ts y m. record { inner = m.inner; is = p.within ts m.inner m.is; says = m.says };
    some = (p.some.0, f p.some.1, record { inner = p.some.1; is = p.some.2; says = refl });
    firsts = λ t ts y m. p.firsts t ts m.inner m.is;
    filled = λ y m. p.filled m.inner m.is;
    complete = made_complete;
    taken = made_taken;
    stuck = made_stuck;
  }

-- ---- tokens that go too deep

shut_goes : {A : Type 0} (ks : List Kind) (p : Parser A) (ts : List Token) → next_in ks ts ≡ false → shut_at ks p ts ≡ p ts
shut_goes ks p ts e = rw e refl

shut_stops : {A : Type 0} (ks : List Kind) (p : Parser A) (ts : List Token) → next_in ks ts ≡ true → shut_at ks p ts ≡ Err (too_deep ts)
shut_stops ks p ts e = rw e refl

module _ {A : Type 0} (ks : List Kind) (p : Rule A) (wider : List Token → A → Type 0) (not_empty : p.empty ≡ false) (others : disjoint p.begins ks ≡ true)
    (in_wider : (ts : List Token) (x : A) → p.lang ts x → wider ts x) (from_wide : (ts : List Token) → Viable p.wide ts → Viable wider ts) (goes : (t : Token) → has ks t.kind ≡ true → Viable wider (t ∷ [])) where
  shut_begins : (front rest : List Token) (x : A) → p.lang front x → next_in ks (front ++ rest) ≡ false
  shut_begins [] rest x a = absurd (let f = p.filled x a in cc)
  shut_begins (t ∷ front) rest x a = apart p.begins ks t.kind others (p.firsts t front x a)

  pub shut_complete : (front rest : List Token) (x : A) → p.lang front x → Stops p.goes_on rest → shut_at ks p.read (front ++ rest) ≡ Ok (x, rest)
  shut_complete front rest x a s = shut_goes ks p.read (front ++ rest) (shut_begins front rest x a) ∙ p.complete front rest x a s

  shut_taken_at : (ts : List Token) (x : A) (rest : List Token) → Taken p.lang p.read ts x rest → Taken p.lang (shut_at ks p.read) ts x rest
  shut_taken_at ts x rest t = record {
    front = t.front;
    parts = t.parts;
    is = t.is;
    keeps = λ other h. shut_goes ks p.read (t.front ++ other) (shut_begins t.front other x t.is) ∙ t.keeps other h;
  }

  pub shut_taken : (ts : List Token) (x : A) (rest : List Token) → shut_at ks p.read ts ≡ Ok (x, rest) → Taken p.lang (shut_at ks p.read) ts x rest
  shut_taken ts x rest e =
      elim (split (next_in ks ts)) [
        | inl h ↦ absurd (let g = shut_stops ks p.read ts h in cc)
        | inr h ↦ shut_taken_at ts x rest (p.taken ts x rest (sym (shut_goes ks p.read ts h) ∙ e))
      ]

  shut_same : (ts us : List Token) → SameHead ts us → next_in ks ts ≡ false → shut_at ks p.read us ≡ p.read us
  shut_same ts us h e = shut_goes ks p.read us (sym (next_same_head ks ts us h) ∙ e)

  shut_stuck_on : (ts : List Token) (f : Fault) → next_in ks ts ≡ false → Stuck p.lang p.wide p.read ts f → Stuck p.lang wider (shut_at ks p.read) ts f
  shut_stuck_on ts f e s = record {
    front = s.front;
    parts = s.parts;
    viable = s.viable;
    stays = λ t more other h. shut_same ts (s.front ++ t ∷ other) (subst (λ us. SameHead us (s.front ++ t ∷ other)) (sym (s.parts ∙ ap (λ (us : List Token). s.front ++ us) h)) (same_head_append s.front (t ∷ more) (t ∷ other) refl)) e ∙ s.stays t more other h;
    deeper = λ d. let w = s.deeper d in record { next = w.next; others = w.others; is = w.is; viable = from_wide (s.front ++ w.next ∷ []) w.viable };
  }

  shut_stuck_here : (ts : List Token) → next_in ks ts ≡ true → Stuck p.lang wider (shut_at ks p.read) ts (too_deep ts)
  shut_stuck_here [] e = absurd cc
  shut_stuck_here (t ∷ ts) e = record {
    front = [];
    parts = refl;
    viable = record { more = p.some.0; value = p.some.1; is = p.some.2 };
    stays = λ u more other h. shut_stops ks p.read (u ∷ other) (let w : t ≡ u = cc in subst (λ (z : Token). has ks z.kind ≡ true) w e);
    deeper = λ d. record { next = t; others = ts; is = refl; viable = goes t e };
  }

  pub shut_stuck : (ts : List Token) (f : Fault) → shut_at ks p.read ts ≡ Err f → Stuck p.lang wider (shut_at ks p.read) ts f
  shut_stuck ts f e =
      elim (split (next_in ks ts)) [
        | inl h ↦ subst (λ z. Stuck p.lang wider (shut_at ks p.read) ts z) (err_is (too_deep ts) f (sym (shut_stops ks p.read ts h) ∙ e)) (shut_stuck_here ts h)
        | inr h ↦ shut_stuck_on ts f h (p.stuck ts f (sym (shut_goes ks p.read ts h) ∙ e))
      ]

  abbrev pub shut : Rule A
  shut = record {
    lang = p.lang;
    wide = wider;
    read = shut_at ks p.read;
    begins = p.begins;
    goes_on = p.goes_on;
    empty = p.empty;
    within = in_wider;
    some = p.some;
    firsts = p.firsts;
    filled = p.filled;
    complete = shut_complete;
    taken = shut_taken;
    stuck = shut_stuck;
  }
