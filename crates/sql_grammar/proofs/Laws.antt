-- The laws of a rule by themselves, with sets written out, so that a rule is small where others use it.
use Rattle.std.proofs.Common.{◌≡◌, Bool, true, false, cond, List, [], ◌∷◌, ◌++◌, inl, inr, Ok, Err, subst}
use Rattle.sql_lex.specs.declared.token.Kind.{Kind}
use Rattle.sql_lex.specs.declared.token.Token.{Token}
use Rattle.sql_grammar.specs.Language.{Lang}
use Rattle.sql_grammar.specs.Reading.{Fault, Outcome, Parser, has, same}
use Rattle.sql_grammar.proofs.Sets.{split, same_is}
use Rattle.sql_grammar.proofs.Rules.{Stops, Taken, Stuck, Rule}

pub record Laws {A : Type 0} (lang wide : List Token → A → Type 0) (read : List Token → Outcome A) (begins goes_on : List Kind) (empty : Bool) : Type 0 where
  pub within : (ts : List Token) (x : A) → lang ts x → wide ts x
  pub some : (ts : List Token) × (x : A) × lang ts x
  pub firsts : (t : Token) (ts : List Token) (x : A) → lang (t ∷ ts) x → has begins t.kind ≡ true
  pub filled : (x : A) → lang [] x → empty ≡ true
  pub complete : (front rest : List Token) (x : A) → lang front x → Stops goes_on rest → read (front ++ rest) ≡ Ok (x, rest)
  pub taken : (ts : List Token) (x : A) (rest : List Token) → read ts ≡ Ok (x, rest) → Taken lang read ts x rest
  pub stuck : (ts : List Token) (f : Fault) → read ts ≡ Err f → Stuck lang wide read ts f

abbrev pub named : {A : Type 0} {lang wide : Lang A} {read : Parser A} {begins goes_on : List Kind} {empty : Bool} → Laws lang wide read begins goes_on empty → Rule A
named {lang = lang} {wide = wide} {read = read} {begins = begins} {goes_on = goes_on} {empty = empty} l = record {
  lang = lang;
  wide = wide;
  read = read;
  begins = begins;
  goes_on = goes_on;
  empty = empty;
  within = l.within;
  some = l.some;
  firsts = l.firsts;
  filled = l.filled;
  complete = l.complete;
  taken = l.taken;
  stuck = l.stuck;
}

-- each of the first is among the second
abbrev pub included : List Kind → List Kind → Bool
included [] ys = true
included (x ∷ xs) ys = cond (has ys x) (included xs ys) false

pub has_in : (xs ys : List Kind) (k : Kind) → included xs ys ≡ true → has xs k ≡ true → has ys k ≡ true
has_in [] ys k i h = absurd cc
has_in (x ∷ xs) ys k i h =
    elim (split (has ys x)) [
      | inl e ↦ elim (split (same x k)) [
        | inl s ↦ subst (λ z. has ys z ≡ true) (same_is x k s) e
        | inr s ↦ has_in xs ys k (rw e at i) (rw s at h)
      ]
      | inr e ↦ absurd (let f = rw e at i in cc)
    ]

pub stops_in : (xs ys : List Kind) (ts : List Token) → included xs ys ≡ true → Stops ys ts → Stops xs ts
stops_in xs ys [] i s = tt
stops_in xs ys (t ∷ ts) i s =
    elim (split (has xs t.kind)) [
      | inl e ↦ absurd (let f = has_in xs ys t.kind i e in cc)
      | inr e ↦ e
    ]

pub laws_of : {A : Type 0} (r : Rule A) (begins goes_on : List Kind) → included r.begins begins ≡ true → included r.goes_on goes_on ≡ true → Laws r.lang r.wide r.read begins goes_on r.empty
laws_of r begins goes_on b g = record {
  within = r.within;
  some = r.some;
  firsts = λ t ts x a. has_in r.begins begins t.kind b (r.firsts t ts x a);
  filled = r.filled;
  complete = λ front rest x a s. r.complete front rest x a (stops_in r.goes_on goes_on rest g s);
  taken = r.taken;
  stuck = r.stuck;
}
