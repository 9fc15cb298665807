-- Names and values, and their pairs.
use Rattle.std.proofs.Common.{◌≡◌, ◌<◌, ℕ, zero, suc, false, get_or, drop, bytes_eq, List, [], ◌∷◌, length, refl, sym, ap, ◌∙◌, arith}
use Rattle.std.specs.List.{zip}
use Rattle.sp_value.specs.Names.{names_of, values_of, value_under}

pub names_of_zip : {X : Type 0} (ns : List (List ℕ)) (vs : List X) → length vs ≡ length ns → names_of (zip ns vs) ≡ ns
names_of_zip [] vs e = refl
names_of_zip (n ∷ ns) [] e = absurd (omega arith)
names_of_zip (n ∷ ns) (v ∷ vs) e = ap (λ l. n ∷ l) (names_of_zip ns vs (omega arith))

pub values_of_zip : {X : Type 0} (ns : List (List ℕ)) (vs : List X) → length vs ≡ length ns → values_of (zip ns vs) ≡ vs
values_of_zip [] [] e = refl
values_of_zip [] (v ∷ vs) e = absurd (omega arith)
values_of_zip (n ∷ ns) [] e = absurd (omega arith)
values_of_zip (n ∷ ns) (v ∷ vs) e = ap (λ l. v ∷ l) (values_of_zip ns vs (omega arith))

pub zip_parts : {X : Type 0} (ms : List (List ℕ × X)) → zip (names_of ms) (values_of ms) ≡ ms
zip_parts [] = refl
zip_parts (m ∷ ms) = ap (λ l. m ∷ l) (zip_parts ms)

-- members are the same where their names and their values are
pub same_parts : {X : Type 0} (a b : List (List ℕ × X)) → names_of a ≡ names_of b → values_of a ≡ values_of b → a ≡ b
same_parts a b n v = sym (zip_parts a) ∙ ap (λ ns. zip ns (values_of a)) n ∙ ap (λ vs. zip (names_of b) vs) v ∙ zip_parts b

pub length_parts : {X : Type 0} (ms : List (List ℕ × X)) → length (values_of ms) ≡ length (names_of ms)
length_parts [] = refl
length_parts (m ∷ ms) = omega (arith, length_parts ms)

pub length_of_zip : {X : Type 0} (ns : List (List ℕ)) (vs : List X) → length vs ≡ length ns → length (zip ns vs) ≡ length vs
length_of_zip [] [] e = refl
length_of_zip [] (v ∷ vs) e = absurd (omega arith)
length_of_zip (n ∷ ns) [] e = absurd (omega arith)
length_of_zip (n ∷ ns) (v ∷ vs) e = ap suc (length_of_zip ns vs (omega arith))

-- a name that is not the one looked for is passed over
pub value_past : {X : Type 0} (name : List ℕ) (ns : List (List ℕ)) (vs : List X) (i : ℕ) (d : List ℕ) → length vs ≡ length ns → i < length ns → bytes_eq (get_or ns i d) name ≡ false
    → value_under name (zip (drop (suc i) ns) (drop (suc i) vs)) ≡ value_under name (zip (drop i ns) (drop i vs))
value_past name [] vs i d e h other = absurd (omega arith)
value_past name (n ∷ ns) [] i d e h other = absurd (omega arith)
value_past name (n ∷ ns) (v ∷ vs) zero d e h other = rw other refl
value_past name (n ∷ ns) (v ∷ vs) (suc i) d e h other = value_past name ns vs i d (omega arith) (omega arith) other

pub length_values : {X : Type 0} (ms : List (List ℕ × X)) → length (values_of ms) ≡ length ms
length_values [] = refl
length_values (m ∷ ms) = ap suc (length_values ms)
