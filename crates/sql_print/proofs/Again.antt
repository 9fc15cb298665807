-- What is said of a phrase is a phrase again, with the same value but for places.
use Rattle.std.proofs.Common.{◌≡◌, true, List, [], ◌∷◌, ◌++◌, map, inl, inr, Option, Some, None, refl, sym, ap, subst, ◌∙◌, eq-eqb}
use Rattle.std.specs.Prelude.{option_map}
use Rattle.sql_lex.specs.declared.token.Kind.{Kind}
use Rattle.sql_lex.specs.declared.token.Value.TheVariants as v
use Rattle.sql_lex.specs.declared.token.Token.{Token}
use Rattle.sql_grammar.specs.Language.{One, Joined, Made, Maybe, Many, Either}
use Rattle.sql_grammar.specs.Reading.{same}
use Rattle.sql_grammar.specs.Says as say
use Rattle.sql_grammar.specs.Grammar.{Word, After, Before, Listed}
use Rattle.sql_print.specs.Said.{Bare, bare, bares, fixed, each_after, between}
use Rattle.sql_print.proofs.Sayable.{AllSayable, is_fixed, sayable, all_append}

-- a phrase over these tokens, with this value but for places
pub record Says {A E : Type 0} (L : List Token → A → Type 0) (erase : A → E) (us : List Token) (x : A) : Type 0 where
  pub value : A
  pub is : L us value
  pub same : erase value ≡ erase x

-- what is said of a phrase is one again, and each of its tokens has a spelling
pub record Again {A E : Type 0} (L : List Token → A → Type 0) (said : A → List Bare) (erase : A → E) : Type 0 where
  pub again : (ts : List Token) (x : A) → L ts x → (us : List Token) → bares us ≡ said x → Says L erase us x
  pub fits : (ts : List Token) (x : A) → L ts x → AllSayable (said x)

-- tokens whose bare forms are two lists one after the other
pub record Cut (us : List Token) (p q : List Bare) : Type 0 where
  pub front : List Token
  pub back : List Token
  pub parts : us ≡ front ++ back
  pub first : bares front ≡ p
  pub second : bares back ≡ q

pub cut : (us : List Token) (p q : List Bare) → bares us ≡ p ++ q → Cut us p q
cut us [] q h = record { front = []; back = us; parts = refl; first = refl; second = h }
cut [] (b ∷ p) q h = absurd cc
cut (u ∷ us) (b ∷ p) q h =
    let rest : bares us ≡ p ++ q = cc in
    let head : bare u ≡ b = cc in
    let c = cut us p q rest in
    record { front = u ∷ c.front; back = c.back; parts = ap (λ ts. u ∷ ts) c.parts; first = (let f = c.first in cc); second = c.second }

-- ---- one token

pub record OneSays {A E : Type 0} (accept : Token → Option A) (erase : A → E) (u : Token) (x : A) : Type 0 where
  pub value : A
  pub says : accept u ≡ Some value
  pub same : erase value ≡ erase x

module _ {A E : Type 0} (accept : Token → Option A) (single : A → Bare) (erase : A → E)
    (each : (t : Token) (x : A) → accept t ≡ Some x → (u : Token) → bare u ≡ single x → OneSays accept erase u x)
    (spelled : (t : Token) (x : A) → accept t ≡ Some x → sayable (single x) ≡ true) where
  one_by : (ts : List Token) (x : A) → One accept ts x → (us : List Token) → bares us ≡ single x ∷ [] → Says (One accept) erase us x
  one_by ts x o [] h = absurd cc
  one_by ts x o (u ∷ []) h = let head : bare u ≡ single x = cc in let r = each o.token x o.says u head in record { value = r.value; is = record { token = u; alone = refl; says = r.says }; same = r.same }
  one_by ts x o (u ∷ w ∷ us) h = absurd cc

  pub again_one : Again (One accept) (λ x. single x ∷ []) erase
  again_one = record { again = one_by; fits = λ ts x o. (spelled o.token x o.says, tt) }

-- ---- parts

module _ {A B E F : Type 0} {L : List Token → A → Type 0} {M : List Token → B → Type 0} {said_a : A → List Bare} {said_b : B → List Bare} {erase_a : A → E} {erase_b : B → F}
    (a : Again L said_a erase_a) (b : Again M said_b erase_b) where
  pub again_joined : Again {E = E × F} (Joined L M) (λ p. said_a p.0 ++ said_b p.1) (λ p. (erase_a p.0, erase_b p.1))
  again_joined = record {
    again = λ ts x j us h.
        let c = cut us (said_a x.0) (said_b x.1) h in
        let l = a.again j.front x.0 j.first c.front c.first in
        let r = b.again j.back x.1 j.second c.back c.second in
        record { value = (l.value, r.value); is = record { front = c.front; back = c.back; parts = c.parts; first = l.is; second = r.is }; same = (let p = l.same in let q = r.same in rw (p, q) refl) };
    fits = λ ts x j. all_append (said_a x.0) (said_b x.1) (a.fits j.front x.0 j.first) (b.fits j.back x.1 j.second);
  }

module _ {A B E F : Type 0} {L : List Token → A → Type 0} {said_a : A → List Bare} {erase_a : A → E} (f : A → B) (said_b : B → List Bare) (erase_b : B → F) (g : E → F)
    (says : (x : A) → said_b (f x) ≡ said_a x) (erases : (x : A) → erase_b (f x) ≡ g (erase_a x)) (a : Again L said_a erase_a) where
  pub again_made : Again (Made f L) said_b erase_b
  again_made = record {
    again = λ ts y m us h.
        let r = a.again ts m.inner m.is us (h ∙ ap said_b m.says ∙ says m.inner) in
        record { value = f r.value; is = record { inner = r.value; is = r.is; says = refl }; same = erases r.value ∙ ap g r.same ∙ sym (erases m.inner) ∙ ap erase_b (sym m.says) };
    fits = λ ts y m. subst AllSayable (sym (ap said_b m.says ∙ says m.inner)) (a.fits ts m.inner m.is);
  }

-- the same in other words
module _ {A E F : Type 0} {L : List Token → A → Type 0} {said_a : A → List Bare} {erase_a : A → E} (said_b : A → List Bare) (erase_b : A → F) (g : E → F)
    (says : (x : A) → said_b x ≡ said_a x) (erases : (x : A) → erase_b x ≡ g (erase_a x)) (a : Again L said_a erase_a) where
  pub again_as : Again L said_b erase_b
  again_as = record {
    again = λ ts x m us h. let r = a.again ts x m us (h ∙ says x) in record { value = r.value; is = r.is; same = erases r.value ∙ ap g r.same ∙ sym (erases x) };
    fits = λ ts x m. subst AllSayable (sym (says x)) (a.fits ts x m);
  }

module _ {A E : Type 0} {L : List Token → A → Type 0} {said : A → List Bare} {erase : A → E} (a : Again L said erase) where
  abbrev pub said_maybe : Option A → List Bare
  said_maybe None = []
  said_maybe (Some x) = said x

  maybe_by : (ts : List Token) (o : Option A) → Maybe L ts o → (us : List Token) → bares us ≡ said_maybe o → Says (Maybe L) (option_map erase) us o
  maybe_by ts None m [] h = record { value = None; is = refl; same = refl }
  maybe_by ts None m (u ∷ us) h = absurd cc
  maybe_by ts (Some x) m us h = let r = a.again ts x m us h in record { value = Some r.value; is = r.is; same = ap Some r.same }

  maybe_fits : (ts : List Token) (o : Option A) → Maybe L ts o → AllSayable (said_maybe o)
  maybe_fits ts None m = tt
  maybe_fits ts (Some x) m = a.fits ts x m

  abbrev pub said_many : List A → List Bare
  said_many [] = []
  said_many (x ∷ xs) = said x ++ said_many xs

  pub many_by : (ts : List Token) (xs : List A) → Many L ts xs → (us : List Token) → bares us ≡ said_many xs → Says (Many L) (map erase) us xs
  many_by ts [] m [] h = record { value = []; is = refl; same = refl }
  many_by ts [] m (u ∷ us) h = absurd cc
  many_by ts (x ∷ xs) m us h =
      let c = cut us (said x) (said_many xs) h in
      let l = a.again m.0 x m.3 c.front c.first in
      let r = many_by m.1 xs m.4 c.back c.second in
      record { value = l.value ∷ r.value; is = (c.front, c.back, c.parts, l.is, r.is); same = (let p = l.same in let q = r.same in rw (p, q) refl) }

  many_fits : (ts : List Token) (xs : List A) → Many L ts xs → AllSayable (said_many xs)
  many_fits ts [] m = tt
  many_fits ts (x ∷ xs) m = all_append (said x) (said_many xs) (a.fits m.0 x m.3) (many_fits m.1 xs m.4)

  pub again_many : Again (Many L) said_many (map erase)
  again_many = record { again = λ ts xs m us h. many_by ts xs m us h; fits = many_fits }

  pub again_maybe : Again (Maybe L) said_maybe (option_map erase)
  again_maybe = record { again = λ ts o m us h. maybe_by ts o m us h; fits = maybe_fits }

-- what is not written
module _ {A : Type 0} (L : List Token → A → Type 0) where
  absent_by : (ts : List Token) (o : Option A) → Maybe L ts o → (us : List Token) → bares us ≡ [] → Says {E = Unit {0}} (Maybe L) (λ o. tt) us o
  absent_by ts o m [] h = record { value = None; is = refl; same = refl }
  absent_by ts o m (u ∷ us) h = absurd cc

  pub again_absent : Again {E = Unit {0}} (Maybe L) (λ o. []) (λ o. tt)
  again_absent = record { again = absent_by; fits = λ ts o m. tt }

module _ {A E : Type 0} {L M : List Token → A → Type 0} {said : A → List Bare} {erase : A → E} (a : Again L said erase) (b : Again M said erase) where
  either_by : (ts : List Token) (x : A) → Either L M ts x → (us : List Token) → bares us ≡ said x → Says (Either L M) erase us x
  either_by ts x (inl m) us h = let r = a.again ts x m us h in record { value = r.value; is = inl r.is; same = r.same }
  either_by ts x (inr m) us h = let r = b.again ts x m us h in record { value = r.value; is = inr r.is; same = r.same }

  either_fits : (ts : List Token) (x : A) → Either L M ts x → AllSayable (said x)
  either_fits ts x (inl m) = a.fits ts x m
  either_fits ts x (inr m) = b.fits ts x m

  pub again_either : Again (Either L M) said erase
  again_either = record { again = λ ts x m us h. either_by ts x m us h; fits = either_fits }

-- ---- words

word_same : (kind other : Kind) → other ≡ kind → same other kind ≡ true
word_same kind other h = subst (λ z. same z kind ≡ true) (sym h) (eq-eqb _ _ refl)

pub word_kind : (kind : Kind) (u : Token) → bare u ≡ (kind, v.Fixed) → say.word kind u ≡ Some tt
word_kind kind u h = rw (word_same kind u.kind (ap (λ (b : Bare). b.0) h)) refl

pub word_again : (kind : Kind) (us : List Token) → bares us ≡ fixed kind → Word kind us tt
word_again kind [] h = absurd cc
word_again kind (u ∷ []) h = record { token = u; alone = refl; says = word_kind kind u cc }
word_again kind (u ∷ w ∷ us) h = absurd cc

pub again_word : (kind : Kind) → is_fixed kind ≡ true → Again (Word kind) (λ u. fixed kind) (λ u. u)
again_word kind f = record { again = λ ts x m us h. record { value = tt; is = word_again kind us h; same = refl }; fits = λ ts x m. (f, tt) }

module _ {A E : Type 0} {L : List Token → A → Type 0} (erase : A → E) (kind : Kind) (x : A) where
  pub after_says : (us : List Token) (q : List Bare) → bares us ≡ fixed kind ++ q → ((vs : List Token) → bares vs ≡ q → Says L erase vs x) → Says (After kind L) erase us x
  after_says us q h f =
      let c = cut us (fixed kind) q h in
      let r = f c.back c.second in
      record { value = r.value; is = record { inner = (tt, r.value); is = record { front = c.front; back = c.back; parts = c.parts; first = word_again kind c.front c.first; second = r.is }; says = refl }; same = r.same }

  pub before_says : (us : List Token) (p : List Bare) → bares us ≡ p ++ fixed kind → ((vs : List Token) → bares vs ≡ p → Says L erase vs x) → Says (Before L kind) erase us x
  before_says us p h f =
      let c = cut us p (fixed kind) h in
      let r = f c.front c.first in
      record { value = r.value; is = record { inner = (r.value, tt); is = record { front = c.front; back = c.back; parts = c.parts; first = r.is; second = word_again kind c.back c.second }; says = refl }; same = r.same }

module _ {A E : Type 0} {L : List Token → A → Type 0} {said : A → List Bare} {erase : A → E} (kind : Kind) (f : is_fixed kind ≡ true) (a : Again L said erase) where
  inside_after : (ts : List Token) (x : A) → (m : After kind L ts x) → L m.is.back x
  inside_after ts x m = subst (λ z. L m.is.back z) (sym m.says) m.is.second

  inside_before : (ts : List Token) (x : A) → (m : Before L kind ts x) → L m.is.front x
  inside_before ts x m = subst (λ z. L m.is.front z) (sym m.says) m.is.first

  pub again_after : Again (After kind L) (λ x. fixed kind ++ said x) erase
  again_after = record {
    again = λ ts x m us h. after_says erase kind x us (said x) h (λ vs g. a.again m.is.back x (inside_after ts x m) vs g);
    fits = λ ts x m. (f, a.fits m.is.back x (inside_after ts x m));
  }

  pub again_before : Again (Before L kind) (λ x. said x ++ fixed kind) erase
  again_before = record {
    again = λ ts x m us h. before_says erase kind x us (said x) h (λ vs g. a.again m.is.front x (inside_before ts x m) vs g);
    fits = λ ts x m. all_append (said x) (fixed kind) (a.fits m.is.front x (inside_before ts x m)) (f, tt);
  }

-- ---- lists

each_is : {A : Type 0} (kind : Kind) (say_one : A → List Bare) (xs : List A) (all : List A → List Bare) → (all [] ≡ []) → ((y : A) (ys : List A) → all (y ∷ ys) ≡ (fixed kind ++ say_one y) ++ all ys) → each_after kind (map say_one xs) ≡ all xs
each_is kind say_one [] all h g = sym h
each_is kind say_one (x ∷ xs) all h g = ap (λ (ts : List Bare). (fixed kind ++ say_one x) ++ ts) (each_is kind say_one xs all h g) ∙ sym (g x xs)

module _ {A E : Type 0} {L : List Token → A → Type 0} {say_one : A → List Bare} {erase : A → E} (kind : Kind) (f : is_fixed kind ≡ true) (a : Again L say_one erase) where
  members : Again (Many (After kind L)) (said_many (again_after kind f a)) (map erase)
  members = again_many (again_after kind f a)

  list_is : (xs : List A) → each_after kind (map say_one xs) ≡ said_many (again_after kind f a) xs
  list_is xs = each_is kind say_one xs (said_many (again_after kind f a)) refl (λ y ys. refl)

  pub again_listed : Again {E = E × List E} (Listed kind L) (λ p. between kind (map say_one (p.0 ∷ p.1))) (λ p. (erase p.0, map erase p.1))
  again_listed = again_as {E = E × List E} {F = E × List E} (λ p. between kind (map say_one (p.0 ∷ p.1))) (λ p. (erase p.0, map erase p.1)) (λ p. p) (λ p. ap (λ (ts : List Bare). say_one p.0 ++ ts) (list_is p.1)) (λ p. refl) (again_joined a members)
