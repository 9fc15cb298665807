-- A loop's turn writes one member more.
use Rattle.std.proofs.Common.{◌≡◌, ℕ, zero, suc, ◌+◌, ◌<◌, List, ◌∷◌, ◌++◌, map, drop, length, get_or, Option, refl, sym, ap, ◌∙◌, arith, add-one}
use Rattle.std.proofs.lemmas.List.{drop_more}
use Rattle.sql_lex.specs.declared.token.Kind.{Kind}
use Rattle.sql_grammar.specs.declared.ast.Join.{Join}
use Rattle.sql_print.specs.Said.{Bare, fixed, between, each_after, said_join, said_joins}
use Rattle.sql_print.specs.Spelling.{writes}
use Rattle.sql_print.proofs.Writing.{writes_append}
use Rattle.sql_print.proofs.SaidLaws.{tail_said}

abbrev State : Type 0
State = List ℕ × Option Kind

tail_next : (kind : Kind) (i : ℕ) (ts : List (List Bare)) → tail_said kind (i + 1) ts ≡ each_after kind ts
tail_next kind i ts = rw add-one refl

tail_later : (kind : Kind) (i : ℕ) (ts : List (List Bare)) → 0 < i → tail_said kind i ts ≡ each_after kind ts
tail_later kind zero ts h = absurd (omega arith)
tail_later kind (suc i) ts h = refl

module _ {A : Type 0} (kind : Kind) (f : A → List Bare) (page : State) (xs : List A) (i : ℕ) (x : A) (within : i < length xs) (is : x ≡ get_or xs i x) where
  opened : map f (drop i xs) ≡ f x ∷ map f (drop (i + 1) xs)
  opened = ap (map f) (drop_more xs i x within) ∙ ap (λ y. f y ∷ map f (drop (i + 1) xs)) (sym is)

  pub turn_first : (new : State) → i ≡ 0 → new ≡ writes page (f x) → writes new (tail_said kind (i + 1) (map f (drop (i + 1) xs))) ≡ writes page (tail_said kind i (map f (drop i xs)))
  turn_first new e h =
      ap (writes new) (tail_next kind i (map f (drop (i + 1) xs))) ∙ ap (λ p. writes p (each_after kind (map f (drop (i + 1) xs)))) h
      ∙ sym (writes_append page (f x) (each_after kind (map f (drop (i + 1) xs))))
      ∙ ap (λ ts. writes page (between kind ts)) (sym opened) ∙ ap (λ n. writes page (tail_said kind n (map f (drop i xs)))) (sym e)

  pub turn_more : (mid new : State) → 0 < i → mid ≡ writes page (fixed kind) → new ≡ writes mid (f x) → writes new (tail_said kind (i + 1) (map f (drop (i + 1) xs))) ≡ writes page (tail_said kind i (map f (drop i xs)))
  turn_more mid new e g h =
      let rest = each_after kind (map f (drop (i + 1) xs)) in
      ap (writes new) (tail_next kind i (map f (drop (i + 1) xs))) ∙ ap (λ p. writes p rest) (h ∙ ap (λ p. writes p (f x)) g ∙ sym (writes_append page (fixed kind) (f x)))
      ∙ sym (writes_append page (fixed kind ++ f x) rest)
      ∙ ap (λ ts. writes page (each_after kind ts)) (sym opened) ∙ ap (writes page) (sym (tail_later kind i (map f (drop i xs)) e))

pub join_turn : (page new : State) (xs : List Join) (i : ℕ) (x : Join) → i < length xs → x ≡ get_or xs i x → new ≡ writes page (said_join x) → writes new (said_joins (drop (i + 1) xs)) ≡ writes page (said_joins (drop i xs))
join_turn page new xs i x within is h =
    ap (λ p. writes p (said_joins (drop (i + 1) xs))) h ∙ sym (writes_append page (said_join x) (said_joins (drop (i + 1) xs)))
    ∙ ap (λ ys. writes page (said_joins ys)) (sym (drop_more xs i x within ∙ ap (λ y. y ∷ drop (i + 1) xs) (sym is)))
