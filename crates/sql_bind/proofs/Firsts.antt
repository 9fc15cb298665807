-- The first answer of two lists in a row.
use Rattle.std.proofs.Common.{◌≡◌, ℕ, ◌+◌, ◌<◌, List, [], ◌∷◌, ◌++◌, drop, take, get_or, length, refl, sym, ap, ◌∙◌}
use Rattle.std.specs.Prelude.{Option, Some, None}
use Rattle.std.specs.Option.{option_or}
use Rattle.std.proofs.lemmas.List.{drop_more}
use Rattle.sql_bind.specs.First.{first_of}
use Rattle.sql_bind.specs.Parts.{Opens, condition_parts, source_parts}
use Rattle.sql_bind.specs.Refusals.{broken}
use Rattle.sql_bind.specs.Sources.{Seen}
use Rattle.sql_bind.specs.declared.judging.NameRule.{NameRule}

pub or_assoc : {B : Type 0} (a b d : Option B) → option_or (option_or a b) d ≡ option_or a (option_or b d)
or_assoc None b d = refl
or_assoc (Some x) b d = refl

pub first_of_append : {A B : Type 0} (f : A → Option B) (xs ys : List A) → first_of f (xs ++ ys) ≡ option_or (first_of f xs) (first_of f ys)
first_of_append f [] ys = refl
first_of_append f (x ∷ xs) ys = rw (first_of_append f xs ys, or_assoc (f x) (first_of f xs) (first_of f ys)) refl

-- the rest of a list from a place in it
pub rest_is : {A : Type 0} (xs : List A) (n : ℕ) (x : A) → n < length xs → x ≡ get_or xs n x → drop n xs ≡ x ∷ drop (n + 1) xs
rest_is xs n x within is = drop_more xs n x within ∙ ap (λ y. y ∷ drop (n + 1) xs) (sym is)

abbrev pub first_in_source : NameRule → List Seen → ℕ → Seen → Option ℕ
first_in_source rule all n s = option_or (broken rule (Opens (take n all) s.source)) (first_of (broken rule) (condition_parts (take (n + 1) all) s.on))

abbrev pub first_in_sources : NameRule → List Seen → ℕ → List Seen → Option ℕ
first_in_sources rule all n ss = first_of (broken rule) (source_parts all n ss)

-- the first of a source's parts, else of the sources after it
pub one_source : (rule : NameRule) (all : List Seen) (n : ℕ) (s : Seen) (ss : List Seen)
    → first_in_sources rule all n (s ∷ ss) ≡ option_or (first_in_source rule all n s) (first_in_sources rule all (n + 1) ss)
one_source rule all n s ss =
    ap (option_or (broken rule (Opens (take n all) s.source))) (first_of_append (broken rule) (condition_parts (take (n + 1) all) s.on) (source_parts all (n + 1) ss))
    ∙ sym (or_assoc (broken rule (Opens (take n all) s.source)) (first_of (broken rule) (condition_parts (take (n + 1) all) s.on)) (first_in_sources rule all (n + 1) ss))

pub sources_turn : (rule : NameRule) (all : List Seen) (n : ℕ) (s : Seen) → n < length all → s ≡ get_or all n s
    → first_in_sources rule all n (drop n all) ≡ option_or (first_in_source rule all n s) (first_in_sources rule all (n + 1) (drop (n + 1) all))
sources_turn rule all n s within is = ap (first_in_sources rule all n) (rest_is all n s within is) ∙ one_source rule all n s (drop (n + 1) all)
