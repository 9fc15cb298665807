-- One phrase, and then another.
use Rattle.std.proofs.Common.{◌≡◌, true, ◌&&◌, cond, List, [], ◌∷◌, ◌++◌, inl, inr, Ok, Err, refl, sym, ap, subst, ◌∙◌, append_assoc}
use Rattle.sql_lex.specs.declared.token.Kind.{Kind}
use Rattle.sql_lex.specs.declared.token.Token.{Token}
use Rattle.sql_grammar.specs.Language.{Lang, Viable, Joined}
use Rattle.sql_grammar.specs.Reading.{Fault, Parser, has, then_at, ◌>>=◌}
use Rattle.sql_grammar.proofs.Sets.{split, has_left, has_right, disjoint, apart, bind_ok, bind_err, ok_is}
use Rattle.sql_grammar.proofs.Rules.{SameHead, Stops, Taken, Deeper, Stuck, Rule, same_head_append, stops_left, stops_right}

pub both_ok : {A B : Type 0} (p : Parser A) (q : Parser B) (ts mid rest : List Token) (x : A) (y : B) → p ts ≡ Ok (x, mid) → q mid ≡ Ok (y, rest) → then_at p q ts ≡ Ok ((x, y), rest)
both_ok p q ts mid rest x y e f = rw (e, f) refl

first_err : {A B : Type 0} (p : Parser A) (q : Parser B) (ts : List Token) (d : Fault) → p ts ≡ Err d → then_at p q ts ≡ Err d
first_err p q ts d e = rw e refl

second_err : {A B : Type 0} (p : Parser A) (q : Parser B) (ts mid : List Token) (x : A) (d : Fault) → p ts ≡ Ok (x, mid) → q mid ≡ Err d → then_at p q ts ≡ Err d
second_err p q ts mid x d e f = rw (e, f) refl

module _ {A B : Type 0} (p : Rule A) (q : Rule B) (apart_here : disjoint p.goes_on q.begins ≡ true) where
  abbrev lang : Lang (A × B)
  lang = Joined p.lang q.lang

  abbrev wide : Lang (A × B)
  wide = Joined p.wide q.wide

  abbrev read : Parser (A × B)
  read = then_at p.read q.read

  abbrev begins : List Kind
  begins = p.begins ++ cond p.empty q.begins []

  abbrev goes_on : List Kind
  goes_on = q.goes_on ++ cond q.empty p.goes_on []

  pub within : (ts : List Token) (x : A × B) → lang ts x → wide ts x
  within ts x j = record { front = j.front; back = j.back; parts = j.parts; first = p.within j.front x.0 j.first; second = q.within j.back x.1 j.second }

  first_firsts : (front back : List Token) (t : Token) (ts : List Token) (x : A) (y : B) → t ∷ ts ≡ front ++ back → p.lang front x → q.lang back y → has begins t.kind ≡ true
  first_firsts [] back t ts x y e a b =
      let b' : q.lang (t ∷ ts) y = subst (λ us. q.lang us y) (sym e) b in
      has_right p.begins (cond p.empty q.begins []) t.kind (rw (p.filled x a) (q.firsts t ts y b'))
  first_firsts (u ∷ front) back t ts x y e a b =
      let same : t ≡ u = cc in
      has_left p.begins (cond p.empty q.begins []) t.kind (subst (λ (z : Token). has p.begins z.kind ≡ true) (sym same) (p.firsts u front x a))

  pub firsts : (t : Token) (ts : List Token) (x : A × B) → lang (t ∷ ts) x → has begins t.kind ≡ true
  firsts t ts x j = first_firsts j.front j.back t ts x.0 x.1 j.parts j.first j.second

  both_filled : (front back : List Token) (x : A) (y : B) → [] ≡ front ++ back → p.lang front x → q.lang back y → (p.empty && q.empty) ≡ true
  both_filled [] [] x y e a b = rw (p.filled x a, q.filled y b) refl
  both_filled [] (t ∷ back) x y e a b = absurd cc
  both_filled (t ∷ front) back x y e a b = absurd cc

  pub filled : (x : A × B) → lang [] x → (p.empty && q.empty) ≡ true
  filled x j = both_filled j.front j.back x.0 x.1 j.parts j.first j.second

  -- where the second phrase begins, the first goes on no further
  seam : (back rest : List Token) (y : B) → q.lang back y → Stops goes_on rest → Stops p.goes_on (back ++ rest)
  seam [] rest y b s =
      let s' = stops_right q.goes_on (cond q.empty p.goes_on []) rest s in
      rw (q.filled y b) at s'
  seam (t ∷ back) rest y b s =
      elim (split (has p.goes_on t.kind)) [
        | inl e ↦ absurd (let f = apart p.goes_on q.begins t.kind apart_here e in let g = q.firsts t back y b in cc)
        | inr e ↦ e
      ]

  complete_parts : (front back rest : List Token) (x : A) (y : B) → p.lang front x → q.lang back y → Stops goes_on rest → read ((front ++ back) ++ rest) ≡ Ok ((x, y), rest)
  complete_parts front back rest x y a b s =
      rw append_assoc (both_ok p.read q.read (front ++ (back ++ rest)) (back ++ rest) rest x y
      (p.complete front (back ++ rest) x a (seam back rest y b s))
      (q.complete back rest y b (stops_left q.goes_on (cond q.empty p.goes_on []) rest s)))

  pub complete : (front rest : List Token) (x : A × B) → lang front x → Stops goes_on rest → read (front ++ rest) ≡ Ok (x, rest)
  complete front rest x j s = rw j.parts (complete_parts j.front j.back rest x.0 x.1 j.first j.second s)

  taken_parts : (ts mid rest : List Token) (x : A) (y : B) → Taken p.lang p.read ts x mid → Taken q.lang q.read mid y rest → Taken lang read ts (x, y) rest
  taken_parts ts mid rest x y a b = record {
    front = a.front ++ b.front;
    parts = a.parts ∙ ap (λ (us : List Token). a.front ++ us) b.parts ∙ sym (append_assoc a.front b.front rest);
    is = record { front = a.front; back = b.front; parts = refl; first = a.is; second = b.is };
    keeps = λ other h. rw append_assoc (both_ok p.read q.read (a.front ++ (b.front ++ other)) (b.front ++ other) other x y
        (a.keeps (b.front ++ other) (subst (λ us. SameHead us (b.front ++ other)) (sym b.parts) (same_head_append b.front rest other h)))
        (b.keeps other h));
  }

  pub taken : (ts : List Token) (x : A × B) (rest : List Token) → read ts ≡ Ok (x, rest) → Taken lang read ts x rest
  taken ts x rest e =
      let a = bind_ok (p.read ts) (λ a. q.read a.1 >>= λ b. Ok ((a.0, b.0), b.1)) (x, rest) e in
      let b = bind_ok (q.read a.0.1) (λ b. Ok ((a.0.0, b.0), b.1)) (x, rest) a.2 in
      let made : (A × B) × List Token = ((a.0.0, b.0.0), b.0.1) in
      subst (λ (z : (A × B) × List Token). Taken lang read ts z.0 z.1) (ok_is made (x, rest) b.2)
      (taken_parts ts a.0.1 b.0.1 a.0.0 b.0.0 (p.taken ts a.0.0 a.0.1 a.1) (q.taken a.0.1 b.0.0 b.0.1 b.1))

  viable_first : (ts : List Token) → Viable p.lang ts → Viable lang ts
  viable_first ts v = record {
    more = v.more ++ q.some.0;
    value = (v.value, q.some.1);
    is = record { front = ts ++ v.more; back = q.some.0; parts = sym (append_assoc ts v.more q.some.0); first = v.is; second = q.some.2 };
  }

  wide_first : (ts : List Token) → Viable p.wide ts → Viable wide ts
  wide_first ts v = record {
    more = v.more ++ q.some.0;
    value = (v.value, q.some.1);
    is = record { front = ts ++ v.more; back = q.some.0; parts = sym (append_assoc ts v.more q.some.0); first = v.is; second = q.within q.some.0 q.some.1 q.some.2 };
  }

  viable_second : (front ts : List Token) (x : A) → p.lang front x → Viable q.lang ts → Viable lang (front ++ ts)
  viable_second front ts x a v = record {
    more = v.more;
    value = (x, v.value);
    is = record { front = front; back = ts ++ v.more; parts = append_assoc front ts v.more; first = a; second = v.is };
  }

  wide_second : (front ts : List Token) (x : A) → p.wide front x → Viable q.wide ts → Viable wide (front ++ ts)
  wide_second front ts x a v = record {
    more = v.more;
    value = (x, v.value);
    is = record { front = front; back = ts ++ v.more; parts = append_assoc front ts v.more; first = a; second = v.is };
  }

  stuck_first : (ts : List Token) (f : Fault) → Stuck p.lang p.wide p.read ts f → Stuck lang wide read ts f
  stuck_first ts f s = record {
    front = s.front;
    parts = s.parts;
    viable = viable_first s.front s.viable;
    stays = λ t more other e. first_err p.read q.read (s.front ++ t ∷ other) (record { deep = f.deep; rest = t ∷ other }) (s.stays t more other e);
    deeper = λ d. let w = s.deeper d in record { next = w.next; others = w.others; is = w.is; viable = wide_first (s.front ++ w.next ∷ []) w.viable };
  }

  deeper_second : (front here rest : List Token) (x : A) → p.lang front x → Deeper q.wide here rest → Deeper wide (front ++ here) rest
  deeper_second front here rest x a w = record {
    next = w.next;
    others = w.others;
    is = w.is;
    viable = rw append_assoc (wide_second front (here ++ w.next ∷ []) x (p.within front x a) w.viable);
  }

  stuck_second : (ts mid : List Token) (x : A) (f : Fault) → Taken p.lang p.read ts x mid → Stuck q.lang q.wide q.read mid f → Stuck lang wide read ts f
  stuck_second ts mid x f a s = record {
    front = a.front ++ s.front;
    parts = a.parts ∙ ap (λ (us : List Token). a.front ++ us) s.parts ∙ sym (append_assoc a.front s.front f.rest);
    viable = viable_second a.front s.front x a.is s.viable;
    stays = λ t more other e. rw append_assoc (second_err p.read q.read (a.front ++ (s.front ++ t ∷ other)) (s.front ++ t ∷ other) x (record { deep = f.deep; rest = t ∷ other })
        (a.keeps (s.front ++ t ∷ other) (subst (λ us. SameHead us (s.front ++ t ∷ other)) (sym (s.parts ∙ ap (λ (us : List Token). s.front ++ us) e)) (same_head_append s.front (t ∷ more) (t ∷ other) refl)))
        (s.stays t more other e));
    deeper = λ d. deeper_second a.front s.front f.rest x a.is (s.deeper d);
  }

  pub stuck : (ts : List Token) (f : Fault) → read ts ≡ Err f → Stuck lang wide read ts f
  stuck ts f e =
      elim (bind_err (p.read ts) (λ a. q.read a.1 >>= λ b. Ok ((a.0, b.0), b.1)) f e) [
        | inl h ↦ stuck_first ts f (p.stuck ts f h)
        | inr h ↦ elim (bind_err (q.read h.0.1) (λ b. Ok ((h.0.0, b.0), b.1)) f h.2) [
          | inl g ↦ stuck_second ts h.0.1 h.0.0 f (p.taken ts h.0.0 h.0.1 h.1) (q.stuck h.0.1 f g)
          | inr g ↦ absurd (let z = g.2 in cc)
        ]
      ]

  abbrev pub both : Rule (A × B)
  both = record {
    lang = lang;
    wide = wide;
    read = read;
    begins = begins;
    goes_on = goes_on;
    empty = p.empty && q.empty;
    within = within;
    some = (p.some.0 ++ q.some.0, (p.some.1, q.some.1), record { front = p.some.0; back = q.some.0; parts = refl; first = p.some.2; second = q.some.2 });
    firsts = firsts;
    filled = filled;
    complete = complete;
    taken = taken;
    stuck = stuck;
  }
