-- What is printed of an expression is read again, with the same value but for places.
use Rattle.std.proofs.Common.{◌≡◌, ℕ, zero, suc, List, [], ◌∷◌, ◌++◌, map, inl, inr, Option, Some, None, refl, sym, ap, subst, ◌∙◌, append-nil}
use Rattle.sql_lex.specs.declared.token.Kind.TheVariants as k
use Rattle.sql_lex.specs.declared.token.Token.{Token}
use Rattle.sql_grammar.specs.declared.ast.Operand.{Operand}
use Rattle.sql_grammar.specs.declared.ast.Predicate.{Predicate}
use Rattle.sql_grammar.specs.declared.ast.Expr.{Expr}
use Rattle.sql_grammar.specs.declared.ast.Expr.TheVariants as e
use Rattle.sql_grammar.specs.Says as say
use Rattle.sql_grammar.specs.Language.{Lang}
use Rattle.sql_grammar.specs.Grammar.{After, Before, Listed, TestPhrase, BothPhrase, ExprPhrase, NestedPhrase, SinglePhrase}
use Rattle.sql_print.specs.Said.{Bare, bares, fixed, inside, between, Said, said}
use Rattle.sql_print.specs.Placeless.{expr}
use Rattle.sql_print.proofs.SaidLaws.{said_or, said_and, said_not, said_test_is, expr_or, expr_and, expr_not, fuse}
use Rattle.sql_print.proofs.Again.{Says, Again, after_says, before_says, again_listed}
use Rattle.sql_print.proofs.Sayable.{AllSayable, all_append}
use Rattle.sql_grammar.proofs.Sql.{single_laws, both_laws, expr_laws}

-- two members or more
record Longer {A E : Type 0} (erase : A → E) (y : A) (ys : List A) (a b : A) (more : List A) : Type 0 where
  next : A
  others : List A
  shape : ys ≡ next ∷ others
  same : map erase (y ∷ ys) ≡ map erase (a ∷ b ∷ more)

longer_by : {A E : Type 0} (erase : A → E) (y : A) (ys : List A) (a b : A) (more : List A) → erase y ≡ erase a → map erase ys ≡ map erase (b ∷ more) → Longer erase y ys a b more
longer_by erase y [] a b more h g = absurd cc
longer_by erase y (z ∷ zs) a b more h g = record { next = z; others = zs; shape = refl; same = rw (h, g) refl }

abbrev S : Expr → Said
S = said

abbrev P : Expr → Expr
P = expr

abbrev Reads : (List Token → Expr → Type 0) → List Token → Expr → Type 0
Reads L us x = Says L P us x

one_both : (L : Lang Expr) (us : List Token) (x : Expr) → Reads L us x → Reads (BothPhrase L) us x
one_both L us x r = record { value = r.value; is = record { inner = (r.value, []); is = record { front = us; back = []; parts = sym (append-nil us); first = r.is; second = refl }; says = refl }; same = r.same }

one_expr : (L : Lang Expr) (us : List Token) (x : Expr) → Reads (BothPhrase L) us x → Reads (ExprPhrase L) us x
one_expr L us x r = record { value = r.value; is = record { inner = (r.value, []); is = record { front = us; back = []; parts = sym (append-nil us); first = r.is; second = refl }; says = refl }; same = r.same }

-- what is said of a condition has a spelling in each place
record Fits (x : Expr) : Type 0 where
  alone : AllSayable (S x).alone
  in_or : AllSayable (S x).in_or
  in_and : AllSayable (S x).in_and

inside_fits : (ts : List Bare) → AllSayable ts → AllSayable (inside ts)
inside_fits ts h = (refl, all_append ts (fixed k.Close) h (refl, tt))

-- what a single of a level says is printed in each place
record Trio (L : List Token → Expr → Type 0) : Type 0 where
  alone : (ts : List Token) (x : Expr) → L ts x → (us : List Token) → bares us ≡ (S x).alone → Reads (ExprPhrase L) us x
  in_or : (ts : List Token) (x : Expr) → L ts x → (us : List Token) → bares us ≡ (S x).in_or → Reads (BothPhrase L) us x
  in_and : (ts : List Token) (x : Expr) → L ts x → (us : List Token) → bares us ≡ (S x).in_and → Reads L us x
  fits : (ts : List Token) (x : Expr) → L ts x → Fits x

-- what is said of a list in each place
record InPlaces (x : Expr) (alone in_or in_and : List Bare) : Type 0 where
  first : (S x).alone ≡ alone
  second : (S x).in_or ≡ in_or
  third : (S x).in_and ≡ in_and

and_said : (a b : Expr) (more : List Expr) → (let ts = between k.And (map (λ z. (S z).in_and) (a ∷ b ∷ more)) in InPlaces (e.And (a ∷ b ∷ more)) ts ts (inside ts))
and_said a b more =
    let is = said_and (a ∷ b ∷ more) in
    let f : map (λ (z : Said). z.in_and) (map S (a ∷ b ∷ more)) ≡ map (λ z. (S z).in_and) (a ∷ b ∷ more) = fuse (λ (z : Said). z.in_and) S (a ∷ b ∷ more) in
    record { first = ap (λ (z : Said). z.alone) is ∙ ap (between k.And) f; second = ap (λ (z : Said). z.in_or) is ∙ ap (between k.And) f; third = ap (λ (z : Said). z.in_and) is ∙ ap (λ ts. inside (between k.And ts)) f }

or_said : (a b : Expr) (more : List Expr) → (let ts = between k.Or (map (λ z. (S z).in_or) (a ∷ b ∷ more)) in InPlaces (e.Or (a ∷ b ∷ more)) ts (inside ts) (inside ts))
or_said a b more =
    let is = said_or (a ∷ b ∷ more) in
    let f : map (λ (z : Said). z.in_or) (map S (a ∷ b ∷ more)) ≡ map (λ z. (S z).in_or) (a ∷ b ∷ more) = fuse (λ (z : Said). z.in_or) S (a ∷ b ∷ more) in
    record { first = ap (λ (z : Said). z.alone) is ∙ ap (between k.Or) f; second = ap (λ (z : Said). z.in_or) is ∙ ap (λ ts. inside (between k.Or ts)) f; third = ap (λ (z : Said). z.in_and) is ∙ ap (λ ts. inside (between k.Or ts)) f }

module _ (L : List Token → Expr → Type 0) (t : Trio L) where
  and_members : Again L (λ x. (S x).in_and) P
  and_members = record { again = t.in_and; fits = λ ts x m. (t.fits ts x m).in_and }

  and_fits : (ts : List Token) (a b : Expr) (more : List Expr) → Listed k.And L ts (a, b ∷ more) → Fits (e.And (a ∷ b ∷ more))
  and_fits ts a b more j =
      let h = (again_listed k.And refl and_members).fits ts (a, b ∷ more) j in
      let is = and_said a b more in
      let q = between k.And (map (λ z. (S z).in_and) (a ∷ b ∷ more)) in
      record { alone = subst AllSayable (sym is.first) h; in_or = subst AllSayable (sym is.second) h; in_and = subst AllSayable (sym is.third) (inside_fits q h) }

  both_fits : (ts : List Token) (x a : Expr) (more : List Expr) → Listed k.And L ts (a, more) → x ≡ say.all_by a more → Fits x
  both_fits ts x a [] j is = subst Fits (sym is) (t.fits j.front a j.first)
  both_fits ts x a (b ∷ more) j is = subst Fits (sym is) (and_fits ts a b more j)

  and_list : (ts : List Token) (a b : Expr) (more : List Expr) → Listed k.And L ts (a, b ∷ more) → (us : List Token) → bares us ≡ between k.And (map (λ x. (S x).in_and) (a ∷ b ∷ more)) → Reads (BothPhrase L) us (e.And (a ∷ b ∷ more))
  and_list ts a b more j us h =
      let r = (again_listed k.And refl and_members).again ts (a, b ∷ more) j us h in
      let one : P r.value.0 ≡ P a = ap (λ (p : Expr × List Expr). p.0) r.same in
      let others : map P r.value.1 ≡ map P (b ∷ more) = ap (λ (p : Expr × List Expr). p.1) r.same in
      let l = longer_by P r.value.0 r.value.1 a b more one others in
      record {
        value = e.And (r.value.0 ∷ r.value.1);
        is = record { inner = r.value; is = r.is; says = ap (λ (ys : List Expr). e.And (r.value.0 ∷ ys)) l.shape ∙ sym (ap (λ (ys : List Expr). say.all_by r.value.0 ys) l.shape) };
        same = expr_and (r.value.0 ∷ r.value.1) ∙ ap e.And l.same ∙ sym (expr_and (a ∷ b ∷ more));
      }

  both_in_or : (ts : List Token) (x a : Expr) (more : List Expr) → Listed k.And L ts (a, more) → x ≡ say.all_by a more → (us : List Token) → bares us ≡ (S x).in_or → Reads (BothPhrase L) us x
  both_in_or ts x a [] j is us h = subst (λ z. Reads (BothPhrase L) us z) (sym is) (t.in_or j.front a j.first us (h ∙ ap (λ z. (S z).in_or) is))
  both_in_or ts x a (b ∷ more) j is us h = subst (λ z. Reads (BothPhrase L) us z) (sym is) (and_list ts a b more j us (h ∙ ap (λ z. (S z).in_or) is ∙ (and_said a b more).second))

  both_alone : (ts : List Token) (x a : Expr) (more : List Expr) → Listed k.And L ts (a, more) → x ≡ say.all_by a more → (us : List Token) → bares us ≡ (S x).alone → Reads (ExprPhrase L) us x
  both_alone ts x a [] j is us h = subst (λ z. Reads (ExprPhrase L) us z) (sym is) (t.alone j.front a j.first us (h ∙ ap (λ z. (S z).alone) is))
  both_alone ts x a (b ∷ more) j is us h = subst (λ z. Reads (ExprPhrase L) us z) (sym is) (one_expr L us (e.And (a ∷ b ∷ more)) (and_list ts a b more j us (h ∙ ap (λ z. (S z).alone) is ∙ (and_said a b more).first)))

  abbrev Both : List Token → Expr → Type 0
  Both = BothPhrase L

  or_members : Again Both (λ x. (S x).in_or) P
  or_members = record { again = λ vs x m ws g. both_in_or vs x m.inner.0 m.inner.1 m.is m.says ws g; fits = λ vs x m. (both_fits vs x m.inner.0 m.inner.1 m.is m.says).in_or }

  or_fits : (ts : List Token) (a b : Expr) (more : List Expr) → Listed k.Or Both ts (a, b ∷ more) → Fits (e.Or (a ∷ b ∷ more))
  or_fits ts a b more j =
      let h = (again_listed k.Or refl or_members).fits ts (a, b ∷ more) j in
      let is = or_said a b more in
      let q = between k.Or (map (λ z. (S z).in_or) (a ∷ b ∷ more)) in
      record { alone = subst AllSayable (sym is.first) h; in_or = subst AllSayable (sym is.second) (inside_fits q h); in_and = subst AllSayable (sym is.third) (inside_fits q h) }

  expr_fits : (ts : List Token) (x a : Expr) (more : List Expr) → Listed k.Or Both ts (a, more) → x ≡ say.any_by a more → Fits x
  expr_fits ts x a [] j is = let m = j.first in subst Fits (sym is) (both_fits j.front a m.inner.0 m.inner.1 m.is m.says)
  expr_fits ts x a (b ∷ more) j is = subst Fits (sym is) (or_fits ts a b more j)

  or_list : (ts : List Token) (a b : Expr) (more : List Expr) → Listed k.Or Both ts (a, b ∷ more) → (us : List Token) → bares us ≡ between k.Or (map (λ x. (S x).in_or) (a ∷ b ∷ more)) → Reads (ExprPhrase L) us (e.Or (a ∷ b ∷ more))
  or_list ts a b more j us h =
      let r = (again_listed k.Or refl or_members).again ts (a, b ∷ more) j us h in
      let one : P r.value.0 ≡ P a = ap (λ (p : Expr × List Expr). p.0) r.same in
      let others : map P r.value.1 ≡ map P (b ∷ more) = ap (λ (p : Expr × List Expr). p.1) r.same in
      let l = longer_by P r.value.0 r.value.1 a b more one others in
      record {
        value = e.Or (r.value.0 ∷ r.value.1);
        is = record { inner = r.value; is = r.is; says = ap (λ (ys : List Expr). e.Or (r.value.0 ∷ ys)) l.shape ∙ sym (ap (λ (ys : List Expr). say.any_by r.value.0 ys) l.shape) };
        same = expr_or (r.value.0 ∷ r.value.1) ∙ ap e.Or l.same ∙ sym (expr_or (a ∷ b ∷ more));
      }

  expr_alone : (ts : List Token) (x a : Expr) (more : List Expr) → Listed k.Or Both ts (a, more) → x ≡ say.any_by a more → (us : List Token) → bares us ≡ (S x).alone → Reads (ExprPhrase L) us x
  expr_alone ts x a [] j is us h = let m = j.first in subst (λ z. Reads (ExprPhrase L) us z) (sym is) (both_alone j.front a m.inner.0 m.inner.1 m.is m.says us (h ∙ ap (λ z. (S z).alone) is))
  expr_alone ts x a (b ∷ more) j is us h = subst (λ z. Reads (ExprPhrase L) us z) (sym is) (or_list ts a b more j us (h ∙ ap (λ z. (S z).alone) is ∙ (or_said a b more).first))

  -- ---- one level up: the wider single has what the narrower one has, and parentheses
  module _ (W : List Token → Expr → Type 0) (up : (us : List Token) (x : Expr) → L us x → W us x) (up_both : (us : List Token) (x : Expr) → BothPhrase L us x → BothPhrase W us x)
      (parens : (us : List Token) (x : Expr) → After k.Open (Before (ExprPhrase L) k.Close) us x → W us x) where
    closed : (us : List Token) (x : Expr) (q : List Bare) → bares us ≡ inside q → ((vs : List Token) → bares vs ≡ q → Reads (ExprPhrase L) vs x) → Reads W us x
    closed us x q h f =
        let r : Says (After k.Open (Before (ExprPhrase L) k.Close)) P us x = after_says P k.Open x us (q ++ fixed k.Close) h (λ vs g. before_says P k.Close x vs q g f) in
        record { value = r.value; is = parens us r.value r.is; same = r.same }

    both_in_and : (ts : List Token) (x a : Expr) (more : List Expr) → Listed k.And L ts (a, more) → x ≡ say.all_by a more → (us : List Token) → bares us ≡ (S x).in_and → Reads W us x
    both_in_and ts x a [] j is us h = let r = t.in_and j.front a j.first us (h ∙ ap (λ z. (S z).in_and) is) in record { value = r.value; is = up us r.value r.is; same = r.same ∙ ap P (sym is) }
    both_in_and ts x a (b ∷ more) j is us h = subst (λ z. Reads W us z) (sym is) (closed us (e.And (a ∷ b ∷ more)) (between k.And (map (λ z. (S z).in_and) (a ∷ b ∷ more))) (h ∙ ap (λ z. (S z).in_and) is ∙ (and_said a b more).third) (λ vs g. one_expr L vs (e.And (a ∷ b ∷ more)) (and_list ts a b more j vs g)))

    expr_in_and : (ts : List Token) (x a : Expr) (more : List Expr) → Listed k.Or Both ts (a, more) → x ≡ say.any_by a more → (us : List Token) → bares us ≡ (S x).in_and → Reads W us x
    expr_in_and ts x a [] j is us h = let m = j.first in subst (λ z. Reads W us z) (sym is) (both_in_and j.front a m.inner.0 m.inner.1 m.is m.says us (h ∙ ap (λ z. (S z).in_and) is))
    expr_in_and ts x a (b ∷ more) j is us h = subst (λ z. Reads W us z) (sym is) (closed us (e.Or (a ∷ b ∷ more)) (between k.Or (map (λ z. (S z).in_or) (a ∷ b ∷ more))) (h ∙ ap (λ z. (S z).in_and) is ∙ (or_said a b more).third) (λ vs g. or_list ts a b more j vs g))

    expr_in_or : (ts : List Token) (x a : Expr) (more : List Expr) → Listed k.Or Both ts (a, more) → x ≡ say.any_by a more → (us : List Token) → bares us ≡ (S x).in_or → Reads (BothPhrase W) us x
    expr_in_or ts x a [] j is us h = let m = j.first in let r = both_in_or j.front a m.inner.0 m.inner.1 m.is m.says us (h ∙ ap (λ z. (S z).in_or) is) in record { value = r.value; is = up_both us r.value r.is; same = r.same ∙ ap P (sym is) }
    expr_in_or ts x a (b ∷ more) j is us h = subst (λ z. Reads (BothPhrase W) us z) (sym is) (one_both W us (e.Or (a ∷ b ∷ more)) (closed us (e.Or (a ∷ b ∷ more)) (between k.Or (map (λ z. (S z).in_or) (a ∷ b ∷ more))) (h ∙ ap (λ z. (S z).in_or) is ∙ (or_said a b more).second) (λ vs g. or_list ts a b more j vs g)))

-- ---- all levels

-- what is said of a test is the same everywhere
test_said : (ts : List Token) (x : Expr) → TestPhrase ts x → ((S x).alone ≡ (S x).in_and) × ((S x).in_or ≡ (S x).in_and)
test_said ts x m = by m.inner.0 m.inner.1 m.says where
  by : (of : Operand) (o : Option Predicate) → x ≡ say.test_by of o → ((S x).alone ≡ (S x).in_and) × ((S x).in_or ≡ (S x).in_and)
  by of None is = let h = ap S is ∙ said_test_is of _ in (ap (λ (z : Said). z.alone) h ∙ sym (ap (λ (z : Said). z.in_and) h), ap (λ (z : Said). z.in_or) h ∙ sym (ap (λ (z : Said). z.in_and) h))
  by of (Some q) is = let h = ap S is ∙ said_test_is of q in (ap (λ (z : Said). z.alone) h ∙ sym (ap (λ (z : Said). z.in_and) h), ap (λ (z : Said). z.in_or) h ∙ sym (ap (λ (z : Said). z.in_and) h))

module _ (tests : Again TestPhrase (λ x. (S x).in_and) P) where
  test_fits : (ts : List Token) (x : Expr) → TestPhrase ts x → Fits x
  test_fits ts x m = let h = tests.fits ts x m in let same = test_said ts x m in record { alone = subst AllSayable (sym same.0) h; in_or = subst AllSayable (sym same.1) h; in_and = h }

  lowest : Trio TestPhrase
  lowest = record {
    alone = λ ts x m us h. one_expr TestPhrase us x (one_both TestPhrase us x (tests.again ts x m us (h ∙ (test_said ts x m).0)));
    in_or = λ ts x m us h. one_both TestPhrase us x (tests.again ts x m us (h ∙ (test_said ts x m).1));
    in_and = λ ts x m us h. tests.again ts x m us h;
    fits = test_fits;
  }

  -- the cases of a single, one level up
  module _ (L : List Token → Expr → Type 0) (t : Trio L) (up : (us : List Token) (x : Expr) → L us x → NestedPhrase L us x)
      (up_both : (us : List Token) (x : Expr) → BothPhrase L us x → BothPhrase (NestedPhrase L) us x) (up_expr : (us : List Token) (x : Expr) → ExprPhrase L us x → ExprPhrase (NestedPhrase L) us x) where
    abbrev W : List Token → Expr → Type 0
    W = NestedPhrase L

    parens : (us : List Token) (x : Expr) → After k.Open (Before (ExprPhrase L) k.Close) us x → W us x
    parens us x a = inr (inl a)

    not_said : (x : Expr) → InPlaces (e.Not x) (fixed k.Not ++ (S x).in_and) (fixed k.Not ++ (S x).in_and) (fixed k.Not ++ (S x).in_and)
    not_said x = let is = said_not x in record { first = ap (λ (z : Said). z.alone) is; second = ap (λ (z : Said). z.in_or) is; third = ap (λ (z : Said). z.in_and) is }

    not_again : (ts : List Token) (x : Expr) → L ts x → (us : List Token) → bares us ≡ fixed k.Not ++ (S x).in_and → Reads W us (e.Not x)
    not_again ts x a us h =
        let r : Says (After k.Not L) P us x = after_says P k.Not x us ((S x).in_and) h (λ vs g. t.in_and ts x a vs g) in
        record { value = e.Not r.value; is = inl (record { inner = r.value; is = r.is; says = refl }); same = expr_not r.value ∙ ap e.Not r.same ∙ sym (expr_not x) }

    nested_in_and : (ts : List Token) (x : Expr) → W ts x → (us : List Token) → bares us ≡ (S x).in_and → Reads W us x
    nested_in_and ts x (inl m) us h = let j = m.is.is in
        let a : L j.back m.inner = subst (λ z. L j.back z) (sym m.is.says) j.second in
        subst (λ z. Reads W us z) (sym m.says) (not_again j.back m.inner a us (h ∙ ap (λ z. (S z).in_and) m.says ∙ (not_said m.inner).third))
    nested_in_and ts x (inr (inl m)) us h = let inner = m.is.second in let x-is = m.says ∙ inner.says in let b = inner.is.first in
        subst (λ z. Reads W us z) (sym x-is) (expr_in_and L t W up up_both parens inner.is.front inner.inner.0 b.inner.0 b.inner.1 b.is b.says us (h ∙ ap (λ z. (S z).in_and) x-is))
    nested_in_and ts x (inr (inr m)) us h = let r = tests.again ts x m us h in record { value = r.value; is = inr (inr r.is); same = r.same }

    nested_in_or : (ts : List Token) (x : Expr) → W ts x → (us : List Token) → bares us ≡ (S x).in_or → Reads (BothPhrase W) us x
    nested_in_or ts x (inl m) us h = let j = m.is.is in
        let a : L j.back m.inner = subst (λ z. L j.back z) (sym m.is.says) j.second in
        one_both W us x (subst (λ z. Reads W us z) (sym m.says) (not_again j.back m.inner a us (h ∙ ap (λ z. (S z).in_or) m.says ∙ (not_said m.inner).second)))
    nested_in_or ts x (inr (inl m)) us h = let inner = m.is.second in let x-is = m.says ∙ inner.says in let b = inner.is.first in
        subst (λ z. Reads (BothPhrase W) us z) (sym x-is) (expr_in_or L t W up up_both parens inner.is.front inner.inner.0 b.inner.0 b.inner.1 b.is b.says us (h ∙ ap (λ z. (S z).in_or) x-is))
    nested_in_or ts x (inr (inr m)) us h = let r = tests.again ts x m us (h ∙ (test_said ts x m).1) in one_both W us x (record { value = r.value; is = inr (inr r.is); same = r.same })

    nested_alone : (ts : List Token) (x : Expr) → W ts x → (us : List Token) → bares us ≡ (S x).alone → Reads (ExprPhrase W) us x
    nested_alone ts x (inl m) us h = let j = m.is.is in
        let a : L j.back m.inner = subst (λ z. L j.back z) (sym m.is.says) j.second in
        one_expr W us x (one_both W us x (subst (λ z. Reads W us z) (sym m.says) (not_again j.back m.inner a us (h ∙ ap (λ z. (S z).alone) m.says ∙ (not_said m.inner).first))))
    nested_alone ts x (inr (inl m)) us h = let inner = m.is.second in let x-is = m.says ∙ inner.says in let b = inner.is.first in
        let r = expr_alone L t inner.is.front inner.inner.0 b.inner.0 b.inner.1 b.is b.says us (h ∙ ap (λ z. (S z).alone) x-is) in
        record { value = r.value; is = up_expr us r.value r.is; same = r.same ∙ ap P (sym x-is) }
    nested_alone ts x (inr (inr m)) us h = let r = tests.again ts x m us (h ∙ (test_said ts x m).0) in one_expr W us x (one_both W us x (record { value = r.value; is = inr (inr r.is); same = r.same }))

    not_fits : (x : Expr) → Fits x → Fits (e.Not x)
    not_fits x h = let is = not_said x in record { alone = subst AllSayable (sym is.first) (refl, h.in_and); in_or = subst AllSayable (sym is.second) (refl, h.in_and); in_and = subst AllSayable (sym is.third) (refl, h.in_and) }

    nested_fits : (ts : List Token) (x : Expr) → W ts x → Fits x
    nested_fits ts x (inl m) = let j = m.is.is in
        let a : L j.back m.inner = subst (λ z. L j.back z) (sym m.is.says) j.second in
        subst Fits (sym m.says) (not_fits m.inner (t.fits j.back m.inner a))
    nested_fits ts x (inr (inl m)) = let inner = m.is.second in let x-is = m.says ∙ inner.says in let b = inner.is.first in
        subst Fits (sym x-is) (expr_fits L t inner.is.front inner.inner.0 b.inner.0 b.inner.1 b.is b.says)
    nested_fits ts x (inr (inr m)) = test_fits ts x m

    nested : Trio W
    nested = record { alone = nested_alone; in_or = nested_in_or; in_and = nested_in_and; fits = nested_fits }

  trio : (n : ℕ) → Trio (SinglePhrase n)
  unfolding SinglePhrase
  trio zero = lowest
  trio (suc n) = nested (SinglePhrase n) (trio n) (single_laws n).within (both_laws (single_laws n)).within (expr_laws (single_laws n)).within

  -- a condition that was read is printed so that it is read again
  pub again_expr : (n : ℕ) → Again (ExprPhrase (SinglePhrase n)) (λ x. (S x).alone) P
  again_expr n = record {
    again = λ ts x m us h. expr_alone (SinglePhrase n) (trio n) ts x m.inner.0 m.inner.1 m.is m.says us h;
    fits = λ ts x m. (expr_fits (SinglePhrase n) (trio n) ts x m.inner.0 m.inner.1 m.is m.says).alone;
  }
