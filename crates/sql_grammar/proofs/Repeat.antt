-- Any number of phrases.
use Rattle.std.proofs.Common.{◌≡◌, ℕ, zero, suc, ◌<◌, ◌≤◌, true, false, List, [], ◌∷◌, ◌++◌, length, inl, inr, Ok, Err, refl, sym, ap, subst, ◌∙◌, append_assoc, append-nil, arith, length-append}
use Rattle.sql_lex.specs.declared.token.Kind.{Kind}
use Rattle.sql_lex.specs.declared.token.Token.{Token}
use Rattle.sql_grammar.specs.Language.{Lang, Viable, Many}
use Rattle.sql_grammar.specs.Reading.{Fault, Outcome, Parser, has, next_in, turns_at, many_at, ◌>>=◌}
use Rattle.sql_grammar.proofs.Sets.{split, disjoint, apart, bind_ok, bind_err, ok_is}
use Rattle.sql_grammar.proofs.Rules.{SameHead, Stops, Taken, Deeper, Stuck, Rule, same_head_append, stops_left, stops_right, stops_next, next_same_head}
use Rattle.sql_grammar.proofs.Choice.{next_after}

-- one turn more
abbrev turn : {A : Type 0} → List Kind → Parser A → ℕ → Parser (List A)
turn ks p n ts = p ts >>= λ a. turns_at ks p n a.1 >>= λ b. Ok (a.0 ∷ b.0, b.1)

goes : {A : Type 0} (ks : List Kind) (p : Parser A) (n : ℕ) (ts : List Token) → next_in ks ts ≡ true → turns_at ks p (suc n) ts ≡ turn ks p n ts
unfolding turns_at
goes ks p n ts h = rw h refl

ends : {A : Type 0} (ks : List Kind) (p : Parser A) (n : ℕ) (ts : List Token) → next_in ks ts ≡ false → turns_at ks p n ts ≡ Ok ([], ts)
unfolding turns_at
ends ks p zero ts h = refl
ends ks p (suc n) ts h = rw h refl

turn_ok : {A : Type 0} (ks : List Kind) (p : Parser A) (n : ℕ) (ts mid rest : List Token) (x : A) (xs : List A) → p ts ≡ Ok (x, mid) → turns_at ks p n mid ≡ Ok (xs, rest) → turn ks p n ts ≡ Ok (x ∷ xs, rest)
turn_ok ks p n ts mid rest x xs e f = rw (e, f) refl

turn_err : {A : Type 0} (ks : List Kind) (p : Parser A) (n : ℕ) (ts : List Token) (d : Fault) → p ts ≡ Err d → turn ks p n ts ≡ Err d
turn_err ks p n ts d e = rw e refl

turn_later : {A : Type 0} (ks : List Kind) (p : Parser A) (n : ℕ) (ts mid : List Token) (x : A) (d : Fault) → p ts ≡ Ok (x, mid) → turns_at ks p n mid ≡ Err d → turn ks p n ts ≡ Err d
turn_later ks p n ts mid x d e f = rw (e, f) refl

-- Taken and Stuck, at every number of turns that is enough.
record TakenTurns {A : Type 0} (L : List Token → A → Type 0) (ks : List Kind) (p : List Token → Outcome A) (ts : List Token) (xs : List A) (rest : List Token) : Type 0 where
  front : List Token
  parts : ts ≡ front ++ rest
  is : Many L front xs
  keeps : (n : ℕ) (other : List Token) → SameHead rest other → length (front ++ other) ≤ n → turns_at ks p n (front ++ other) ≡ Ok (xs, other)

record StuckTurns {A : Type 0} (L W : List Token → A → Type 0) (ks : List Kind) (p : List Token → Outcome A) (ts : List Token) (f : Fault) : Type 0 where
  front : List Token
  parts : ts ≡ front ++ f.rest
  viable : Viable (Many L) front
  stays : (n : ℕ) (t : Token) (more other : List Token) → f.rest ≡ t ∷ more → length (front ++ t ∷ other) ≤ n → turns_at ks p n (front ++ t ∷ other) ≡ Err (record { deep = f.deep; rest = t ∷ other })
  deeper : f.deep ≡ true → Deeper (Many W) front f.rest

pub longer : (front rest : List Token) → (front ≡ [] → ⊥) → length rest < length (front ++ rest)
longer [] rest h = absurd (h refl)
longer (t ∷ front) rest h = omega (arith, length-append (t ∷ front) rest)

viable_one : {A : Type 0} (L : Lang A) (ts : List Token) → Viable L ts → Viable (Many L) ts
viable_one L ts v = record { more = v.more; value = v.value ∷ []; is = (ts ++ v.more, [], sym (append-nil (ts ++ v.more)), v.is, refl) }

viable_next : {A : Type 0} (L : Lang A) (front ts : List Token) (x : A) → L front x → Viable (Many L) ts → Viable (Many L) (front ++ ts)
viable_next L front ts x a v = record { more = v.more; value = x ∷ v.value; is = (front, ts ++ v.more, append_assoc front ts v.more, a, v.is) }

module _ {A : Type 0} (p : Rule A) (not_empty : p.empty ≡ false) (apart_here : disjoint p.goes_on p.begins ≡ true) where
  abbrev again : ℕ → Parser (List A)
  again = turns_at p.begins p.read

  not_nil : (front : List Token) (x : A) → p.lang front x → front ≡ [] → ⊥
  not_nil front x a e = let a' : p.lang [] x = subst (λ us. p.lang us x) e a in let f = p.filled x a' in cc

  begins_next : (front rest : List Token) (x : A) → p.lang front x → next_in p.begins (front ++ rest) ≡ true
  begins_next [] rest x a = absurd (not_nil [] x a refl)
  begins_next (t ∷ front) rest x a = p.firsts t front x a

  firsts_parts : (t : Token) (ts front back : List Token) (x : A) → t ∷ ts ≡ front ++ back → p.lang front x → has p.begins t.kind ≡ true
  firsts_parts t ts [] back x e a = absurd (not_nil [] x a refl)
  firsts_parts t ts (u ∷ front) back x e a = let same : t ≡ u = cc in subst (λ (z : Token). has p.begins z.kind ≡ true) (sym same) (p.firsts u front x a)

  pub many_firsts : (t : Token) (ts : List Token) (xs : List A) → Many p.lang (t ∷ ts) xs → has p.begins t.kind ≡ true
  many_firsts t ts [] m = absurd cc
  many_firsts t ts (x ∷ xs) m = firsts_parts t ts m.0 m.1 x m.2 m.3

  seam : (back rest : List Token) (xs : List A) → Many p.lang back xs → Stops (p.begins ++ p.goes_on) rest → Stops p.goes_on (back ++ rest)
  seam [] rest xs m s = stops_right p.begins p.goes_on rest s
  seam (t ∷ back) rest xs m s =
      elim (split (has p.goes_on t.kind)) [
        | inl e ↦ absurd (let f = apart p.goes_on p.begins t.kind apart_here e in let g = many_firsts t back xs m in cc)
        | inr e ↦ e
      ]

  turns_complete : (n : ℕ) (front rest : List Token) (xs : List A) → Many p.lang front xs → Stops (p.begins ++ p.goes_on) rest → length (front ++ rest) ≤ n → again n (front ++ rest) ≡ Ok (xs, rest)
  turns_complete n front rest [] m s h = rw m (ends p.begins p.read n rest (stops_next p.begins rest (stops_left p.begins p.goes_on rest s)))
  turns_complete zero front rest (x ∷ xs) m s h = absurd (let lt = longer m.0 (m.1 ++ rest) (not_nil m.0 x m.3) in let e : length (front ++ rest) ≡ length (m.0 ++ (m.1 ++ rest)) = ap length (ap (λ (us : List Token). us ++ rest) m.2 ∙ append_assoc m.0 m.1 rest) in omega arith)
  turns_complete (suc n) front rest (x ∷ xs) m s h =
      let e : front ++ rest ≡ m.0 ++ (m.1 ++ rest) = ap (λ (us : List Token). us ++ rest) m.2 ∙ append_assoc m.0 m.1 rest in
      let lt = longer m.0 (m.1 ++ rest) (not_nil m.0 x m.3) in
      let len : length (m.1 ++ rest) ≤ n = (let same = ap length e in omega arith) in
      rw e (goes p.begins p.read n (m.0 ++ (m.1 ++ rest)) (begins_next m.0 (m.1 ++ rest) x m.3)
      ∙ turn_ok p.begins p.read n (m.0 ++ (m.1 ++ rest)) (m.1 ++ rest) rest x xs (p.complete m.0 (m.1 ++ rest) x m.3 (seam m.1 rest xs m.4 s)) (turns_complete n m.1 rest xs m.4 s len))

  pub many_complete : (front rest : List Token) (xs : List A) → Many p.lang front xs → Stops (p.begins ++ p.goes_on) rest → many_at p.begins p.read (front ++ rest) ≡ Ok (xs, rest)
  many_complete front rest xs m s = turns_complete (length (front ++ rest)) front rest xs m s (omega arith)

  no_turn : (ts : List Token) → next_in p.begins ts ≡ false → TakenTurns p.lang p.begins p.read ts [] ts
  no_turn ts h = record { front = []; parts = refl; is = refl; keeps = λ n other s len. ends p.begins p.read n other (sym (next_same_head p.begins ts other s) ∙ h) }

  keeps_turn : (n : ℕ) (front back other : List Token) (x : A) (xs : List A) → next_in p.begins (front ++ (back ++ other)) ≡ true → (front ≡ [] → ⊥) → p.read (front ++ (back ++ other)) ≡ Ok (x, back ++ other)
      → ((m : ℕ) → length (back ++ other) ≤ m → again m (back ++ other) ≡ Ok (xs, other)) → length (front ++ (back ++ other)) ≤ n → again n (front ++ (back ++ other)) ≡ Ok (x ∷ xs, other)
  keeps_turn zero front back other x xs h nn e f len = absurd (let lt = longer front (back ++ other) nn in omega arith)
  keeps_turn (suc n) front back other x xs h nn e f len = goes p.begins p.read n (front ++ (back ++ other)) h ∙ turn_ok p.begins p.read n (front ++ (back ++ other)) (back ++ other) other x xs e (f n (let lt = longer front (back ++ other) nn in omega arith))

  one_turn : (ts mid rest : List Token) (x : A) (xs : List A) → next_in p.begins ts ≡ true → Taken p.lang p.read ts x mid → TakenTurns p.lang p.begins p.read mid xs rest → TakenTurns p.lang p.begins p.read ts (x ∷ xs) rest
  one_turn ts mid rest x xs h a b = record {
    front = a.front ++ b.front;
    parts = a.parts ∙ ap (λ (us : List Token). a.front ++ us) b.parts ∙ sym (append_assoc a.front b.front rest);
    is = (a.front, b.front, refl, a.is, b.is);
    keeps = λ n other s len.
        let head : SameHead mid (b.front ++ other) = subst (λ us. SameHead us (b.front ++ other)) (sym b.parts) (same_head_append b.front rest other s) in
        let len' : length (a.front ++ (b.front ++ other)) ≤ n = (let e = ap length (append_assoc a.front b.front other) in omega arith) in
        rw append_assoc (keeps_turn n a.front b.front other x xs (next_after p.begins ts a.front mid (b.front ++ other) a.parts head ∙ h) (not_nil a.front x a.is) (a.keeps (b.front ++ other) head) (λ m l. b.keeps m other s l) len');
  }

  turns_taken : (n : ℕ) (ts : List Token) (xs : List A) (rest : List Token) → length ts ≤ n → again n ts ≡ Ok (xs, rest) → TakenTurns p.lang p.begins p.read ts xs rest
  turns_taken zero [] xs rest len e =
      let made : List A × List Token = ([], []) in
      subst (λ (z : List A × List Token). TakenTurns p.lang p.begins p.read [] z.0 z.1) (ok_is made (xs, rest) (sym (ends p.begins p.read 0 [] refl) ∙ e)) (no_turn [] refl)
  turns_taken zero (t ∷ ts) xs rest len e = absurd (omega arith)
  turns_taken (suc n) ts xs rest len e =
      elim (split (next_in p.begins ts)) [
        | inl h ↦
            let a = bind_ok (p.read ts) (λ a. again n a.1 >>= λ b. Ok (a.0 ∷ b.0, b.1)) (xs, rest) (sym (goes p.begins p.read n ts h) ∙ e) in
            let b = bind_ok (again n a.0.1) (λ b. Ok (a.0.0 ∷ b.0, b.1)) (xs, rest) a.2 in
            let made : List A × List Token = (a.0.0 ∷ b.0.0, b.0.1) in
            let t = p.taken ts a.0.0 a.0.1 a.1 in
            let lt : length a.0.1 < length ts = (let l = longer t.front a.0.1 (not_nil t.front a.0.0 t.is) in let same = ap length t.parts in omega arith) in
            subst (λ (z : List A × List Token). TakenTurns p.lang p.begins p.read ts z.0 z.1) (ok_is made (xs, rest) b.2)
            (one_turn ts a.0.1 b.0.1 a.0.0 b.0.0 h t (turns_taken n a.0.1 b.0.0 b.0.1 (omega arith) b.1))
        | inr h ↦
            let made : List A × List Token = ([], ts) in
            subst (λ (z : List A × List Token). TakenTurns p.lang p.begins p.read ts z.0 z.1) (ok_is made (xs, rest) (sym (ends p.begins p.read (suc n) ts h) ∙ e)) (no_turn ts h)
      ]

  from_turns : (ts : List Token) (xs : List A) (rest : List Token) → TakenTurns p.lang p.begins p.read ts xs rest → Taken (Many p.lang) (many_at p.begins p.read) ts xs rest
  from_turns ts xs rest t = record { front = t.front; parts = t.parts; is = t.is; keeps = λ other s. t.keeps (length (t.front ++ other)) other s (omega arith) }

  pub many_taken : (ts : List Token) (xs : List A) (rest : List Token) → many_at p.begins p.read ts ≡ Ok (xs, rest) → Taken (Many p.lang) (many_at p.begins p.read) ts xs rest
  many_taken ts xs rest e = from_turns ts xs rest (turns_taken (length ts) ts xs rest (omega arith) e)

  stuck_turn : (ts : List Token) (f : Fault) → next_in p.begins ts ≡ true → Stuck p.lang p.wide p.read ts f → StuckTurns p.lang p.wide p.begins p.read ts f
  stuck_turn ts f h s = record {
    front = s.front;
    parts = s.parts;
    viable = viable_one p.lang s.front s.viable;
    stays = λ n t more other e len. stays_turn n (s.front ++ t ∷ other) (record { deep = f.deep; rest = t ∷ other })
        (next_after p.begins ts s.front (t ∷ more) (t ∷ other) (s.parts ∙ ap (λ (us : List Token). s.front ++ us) e) refl ∙ h) (s.stays t more other e) (omega (arith, length-append s.front (t ∷ other)));
    deeper = λ d. let w = s.deeper d in record { next = w.next; others = w.others; is = w.is; viable = viable_one p.wide (s.front ++ w.next ∷ []) w.viable };
  } where
    stays_turn : (n : ℕ) (us : List Token) (d : Fault) → next_in p.begins us ≡ true → p.read us ≡ Err d → 0 < n → again n us ≡ Err d
    stays_turn zero us d h e len = absurd (omega arith)
    stays_turn (suc n) us d h e len = goes p.begins p.read n us h ∙ turn_err p.begins p.read n us d e

  later_turn : (n : ℕ) (front us : List Token) (x : A) (d : Fault) → next_in p.begins (front ++ us) ≡ true → (front ≡ [] → ⊥) → p.read (front ++ us) ≡ Ok (x, us) → ((m : ℕ) → length us ≤ m → again m us ≡ Err d) → length (front ++ us) ≤ n → again n (front ++ us) ≡ Err d
  later_turn zero front us x d h nn e f len = absurd (let lt = longer front us nn in omega arith)
  later_turn (suc n) front us x d h nn e f len = goes p.begins p.read n (front ++ us) h ∙ turn_later p.begins p.read n (front ++ us) us x d e (f n (let lt = longer front us nn in omega arith))

  stuck_later : (ts mid : List Token) (x : A) (f : Fault) → next_in p.begins ts ≡ true → Taken p.lang p.read ts x mid → StuckTurns p.lang p.wide p.begins p.read mid f → StuckTurns p.lang p.wide p.begins p.read ts f
  stuck_later ts mid x f h a s = record {
    front = a.front ++ s.front;
    parts = a.parts ∙ ap (λ (us : List Token). a.front ++ us) s.parts ∙ sym (append_assoc a.front s.front f.rest);
    viable = viable_next p.lang a.front s.front x a.is s.viable;
    stays = λ n t more other e len.
        let head : SameHead mid (s.front ++ t ∷ other) = subst (λ us. SameHead us (s.front ++ t ∷ other)) (sym (s.parts ∙ ap (λ (us : List Token). s.front ++ us) e)) (same_head_append s.front (t ∷ more) (t ∷ other) refl) in
        let len' : length (a.front ++ (s.front ++ t ∷ other)) ≤ n = (let e = ap length (append_assoc a.front s.front (t ∷ other)) in omega arith) in
        rw append_assoc (later_turn n a.front (s.front ++ t ∷ other) x (record { deep = f.deep; rest = t ∷ other }) (next_after p.begins ts a.front mid (s.front ++ t ∷ other) a.parts head ∙ h) (not_nil a.front x a.is) (a.keeps (s.front ++ t ∷ other) head) (λ m l. s.stays m t more other e l) len');
    deeper = λ d. let w = s.deeper d in record { next = w.next; others = w.others; is = w.is; viable = rw append_assoc (viable_next p.wide a.front (s.front ++ w.next ∷ []) x (p.within a.front x a.is) w.viable) };
  }

  turns_stuck : (n : ℕ) (ts : List Token) (f : Fault) → length ts ≤ n → again n ts ≡ Err f → StuckTurns p.lang p.wide p.begins p.read ts f
  turns_stuck zero [] f len e = absurd (let g = ends p.begins p.read 0 [] refl in cc)
  turns_stuck zero (t ∷ ts) f len e = absurd (omega arith)
  turns_stuck (suc n) ts f len e =
      elim (split (next_in p.begins ts)) [
        | inl h ↦ elim (bind_err (p.read ts) (λ a. again n a.1 >>= λ b. Ok (a.0 ∷ b.0, b.1)) f (sym (goes p.begins p.read n ts h) ∙ e)) [
          | inl g ↦ stuck_turn ts f h (p.stuck ts f g)
          | inr g ↦
              let t = p.taken ts g.0.0 g.0.1 g.1 in
              let lt : length g.0.1 < length ts = (let l = longer t.front g.0.1 (not_nil t.front g.0.0 t.is) in let same = ap length t.parts in omega arith) in
              elim (bind_err (again n g.0.1) (λ b. Ok (g.0.0 ∷ b.0, b.1)) f g.2) [
                | inl k ↦ stuck_later ts g.0.1 g.0.0 f h t (turns_stuck n g.0.1 f (omega arith) k)
                | inr k ↦ absurd (let z = k.2 in cc)
              ]
        ]
        | inr h ↦ absurd (let g = ends p.begins p.read (suc n) ts h in cc)
      ]

  stuck_from : (ts : List Token) (f : Fault) → StuckTurns p.lang p.wide p.begins p.read ts f → Stuck (Many p.lang) (Many p.wide) (many_at p.begins p.read) ts f
  stuck_from ts f s = record { front = s.front; parts = s.parts; viable = s.viable; stays = λ t more other e. s.stays (length (s.front ++ t ∷ other)) t more other e (omega arith); deeper = s.deeper }

  pub many_stuck : (ts : List Token) (f : Fault) → many_at p.begins p.read ts ≡ Err f → Stuck (Many p.lang) (Many p.wide) (many_at p.begins p.read) ts f
  many_stuck ts f e = stuck_from ts f (turns_stuck (length ts) ts f (omega arith) e)

  pub many_in : (ts : List Token) (xs : List A) → Many p.lang ts xs → Many p.wide ts xs
  many_in ts [] m = m
  many_in ts (x ∷ xs) m = (m.0, m.1, m.2, p.within m.0 x m.3, many_in m.1 xs m.4)

  abbrev pub many : Rule (List A)
  many = record {
    lang = Many p.lang;
    wide = Many p.wide;
    read = many_at p.begins p.read;
    begins = p.begins;
    goes_on = p.begins ++ p.goes_on;
    empty = true;
    within = many_in;
    some = ([], [], refl);
    firsts = many_firsts;
    filled = λ xs m. refl;
    complete = many_complete;
    taken = many_taken;
    stuck = many_stuck;
  }
