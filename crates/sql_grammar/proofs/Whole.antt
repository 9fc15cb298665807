-- What the reader of statements answers is the grammar's.
use Rattle.std.proofs.Common.{◌≡◌, ℕ, zero, suc, ◌≤◌, Bool, true, false, List, [], ◌∷◌, ◌++◌, ◌⊎◌, inl, inr, Result, Ok, Err, refl, sym, ap, subst, ◌∙◌, append_assoc, append-nil, arith}
use Rattle.sql_lex.specs.declared.token.Token.{Token}
use Rattle.sql_grammar.specs.declared.ast.Statement.{Statement}
use Rattle.sql_grammar.specs.Reading.{Fault, Outcome, wrong}
use Rattle.sql_grammar.specs.Grammar.{StatementPhrase}
use Rattle.sql_grammar.specs.Parser.{statement_at, whole, ended_by}
use Rattle.sql_grammar.specs.Theorem.{Begins, depth, Refused, IsFirstFault, IsAnswer}
use Rattle.std.specs.Prelude.{IfOk, IfErr}
use Rattle.sql_grammar.specs.declared.stop.Stop.{Stop}
use Rattle.sql_grammar.specs.declared.stop.Stop.TheVariants as stop
use Rattle.sql_grammar.specs.Gives.{Gives}
use Rattle.sql_grammar.specs.Answer.{IsRefusal}
use Rattle.sql_grammar.proofs.Sets.{ok_is}
use Rattle.sql_grammar.proofs.Rules.{Stuck}
use Rattle.sql_grammar.proofs.Sql.{statement_laws}
use Rattle.sql_grammar.proofs.Agrees.{AgreesAt, agrees_statement}

either_way : (n m : ℕ) → (n ≤ m) ⊎ (m ≤ n)
either_way zero m = inl (omega arith)
either_way (suc n) zero = inr (omega arith)
either_way (suc n) (suc m) = elim (either_way n m) [ inl h ↦ inl (omega arith) | inr h ↦ inr (omega arith) ]

-- a statement is read to its end
read_whole : (n : ℕ) (ts : List Token) (s : Statement) → StatementPhrase n ts s → statement_at n ts ≡ Ok (s, [])
read_whole n ts s a = ap (statement_at n) (sym (append-nil ts)) ∙ (statement_laws n).complete ts [] s a tt

agrees_ok : (r q : Outcome Statement) (a : Statement × List Token) → r ≡ Ok a → AgreesAt r q → q ≡ Ok a
agrees_ok r q a e h = let P : Outcome Statement → Type 0 = λ z. AgreesAt z q in subst P e h

agrees_err : (r q : Outcome Statement) (f : Fault) → r ≡ Err f → f.deep ≡ false → AgreesAt r q → q ≡ Err f
agrees_err r q f e d h = let P : Outcome Statement → Type 0 = λ z. AgreesAt z q in subst P e h d

-- what one depth refuses for no depth's sake, none reads
none_reads : (n m : ℕ) (ts : List Token) (f : Fault) (s : Statement) → statement_at n ts ≡ Err f → f.deep ≡ false → StatementPhrase m ts s → ⊥
none_reads n m ts f s e d a =
    let g = read_whole m ts s a in
    elim (either_way m n) [
      | inl h ↦ let same = agrees_ok (statement_at m ts) (statement_at n ts) (s, []) g (agrees_statement m n h ts) in cc
      | inr h ↦ let same = agrees_err (statement_at n ts) (statement_at m ts) f e d (agrees_statement n m h ts) in cc
    ]

not_ended : (x s : Statement) (t : Token) (rest : List Token) (r : Outcome Statement) → r ≡ Ok (x, t ∷ rest) → r ≡ Ok (s, []) → ⊥
not_ended x s t rest r e g =
    let left : Statement × List Token = (x, t ∷ rest) in
    let none : Statement × List Token = (s, []) in
    let same : t ∷ rest ≡ [] = ap (λ (p : Statement × List Token). p.1) (ok_is left none (sym e ∙ g)) in cc

-- what one depth reads, with tokens left, none reads as a whole
none_ends : (n m : ℕ) (ts : List Token) (t : Token) (rest : List Token) (x s : Statement) → statement_at n ts ≡ Ok (x, t ∷ rest) → StatementPhrase m ts s → ⊥
none_ends n m ts t rest x s e a =
    let g = read_whole m ts s a in
    elim (either_way m n) [
      | inl h ↦ not_ended x s t rest (statement_at n ts) e (agrees_ok (statement_at m ts) (statement_at n ts) (s, []) g (agrees_statement m n h ts))
      | inr h ↦ not_ended x s t rest (statement_at m ts) (agrees_ok (statement_at n ts) (statement_at m ts) (x, t ∷ rest) e (agrees_statement n m h ts)) g
    ]

-- a statement that begins with the tokens up to t
with_more : (n : ℕ) (front : List Token) (t : Token) → Begins n (front ++ t ∷ []) → (more : List Token) × (s : Statement) × StatementPhrase n (front ++ t ∷ more) s
with_more n front t v = (v.more, v.value, subst (λ us. StatementPhrase n us v.value) (append_assoc front (t ∷ []) v.more) v.is)

abbrev Halted : List Token → Fault → Type 0
Halted ts f = Stuck (StatementPhrase depth) (StatementPhrase 65) (statement_at depth) ts f

refused_stuck : (ts : List Token) (deep : Bool) (rest : List Token) → statement_at depth ts ≡ Err (record { deep = deep; rest = rest }) → (s : Halted ts (record { deep = deep; rest = rest })) → Refused deep s.front rest
refused_stuck ts true [] e s = absurd (let w = s.deeper refl in let is = w.is in cc)
refused_stuck ts false [] e s = λ m x a. none_reads depth m ts (record { deep = false; rest = [] }) x e refl (subst (λ us. StatementPhrase m us x) (sym (append-nil s.front) ∙ sym s.parts) a)
refused_stuck ts true (t ∷ rest) e s = (
  (λ v. let m = with_more depth s.front t v in let r = read_whole depth (s.front ++ t ∷ m.0) m.1 m.2 in let q = s.stays t rest m.0 refl in cc),
  (let w = s.deeper refl in let is : t ∷ rest ≡ w.next ∷ w.others = w.is in let same : t ≡ w.next = cc in subst (λ (z : Token). Begins 65 (s.front ++ z ∷ [])) (sym same) w.viable),
)
refused_stuck ts false (t ∷ rest) e s = λ m v. let more = with_more m s.front t v in none_reads depth m (s.front ++ t ∷ more.0) (record { deep = false; rest = t ∷ more.0 }) more.1 (s.stays t rest more.0 refl) refl more.2

fault_stuck : (ts : List Token) (f : Fault) → statement_at depth ts ≡ Err f → IsFirstFault ts f
fault_stuck ts f e = let s = (statement_laws depth).stuck ts f e in record { before = s.front; parts = s.parts; begun = s.viable; refused = refused_stuck ts f.deep f.rest e s }

fault_left : (ts : List Token) (x : Statement) (t : Token) (rest : List Token) → statement_at depth ts ≡ Ok (x, t ∷ rest) → IsFirstFault ts (wrong (t ∷ rest))
fault_left ts x t rest e = let a = (statement_laws depth).taken ts x (t ∷ rest) e in record {
  before = a.front;
  parts = a.parts;
  begun = record { more = []; value = x; is = rw append-nil a.is };
  refused = λ m v. let more = with_more m a.front t v in none_ends depth m (a.front ++ t ∷ more.0) t more.0 x more.1 (a.keeps (t ∷ more.0) refl) more.2;
}

found : (ts : List Token) (x : Statement) → statement_at depth ts ≡ Ok (x, []) → StatementPhrase depth ts x
found ts x e = let a = (statement_laws depth).taken ts x [] e in subst (λ us. StatementPhrase depth us x) (sym (a.parts ∙ append-nil a.front)) a.is

answer_by : (ts : List Token) (r : Outcome Statement) → statement_at depth ts ≡ r → IsAnswer ts (ended_by r)
answer_by ts (Ok (x, [])) e = found ts x e
answer_by ts (Ok (x, t ∷ rest)) e = fault_left ts x t rest e
answer_by ts (Err f) e = fault_stuck ts f e

-- what is read is the grammar's
pub answer : (ts : List Token) → IsAnswer ts (whole (statement_at depth) ts)
answer ts = answer_by ts (statement_at depth ts) refl

-- what is in the grammar is read
pub only : (ts : List Token) (s : Statement) → StatementPhrase depth ts s → whole (statement_at depth) ts ≡ Ok s
only ts s a = ap ended_by (read_whole depth ts s a)

pub is_found : (ts : List Token) (r : Result Statement Stop) → Gives (λ s. s) r (whole (statement_at depth) ts) → IfOk r (λ s. StatementPhrase depth ts s)
is_found ts (Ok s) h = let P : Result Statement Fault → Type 0 = λ z. IsAnswer ts z in subst P h (answer ts)
is_found ts (Err e) h = tt

pub is_refused : (ts : List Token) (r : Result Statement Stop) → Gives (λ s. s) r (whole (statement_at depth) ts) → IfErr r (λ e. IsRefusal ts e)
is_refused ts (Ok s) h = tt
is_refused ts (Err stop.Memory) h = tt
is_refused ts (Err (stop.Fault deep rest)) h = let P : Result Statement Fault → Type 0 = λ z. IsAnswer ts z in subst P h (answer ts)
