-- What holds of each table where no table is refused.
use Rattle.std.proofs.Common.{◌≡◌, ℕ, zero, suc, ◌<◌, Bool, true, false, cond, ◌||◌, List, [], ◌∷◌, ◌++◌, length, get_or, Option, Some, None, inl, inr, refl, ap, ◌∙◌, arith}
use Rattle.std.proofs.lemmas.Bool.{or_parts}
use Rattle.std.specs.List.{list_any}
use Rattle.sp_model.specs.declared.declaration.TableDecl.{TableDecl}
use Rattle.sp_model.specs.Hydration.{names_of_functions}
use Rattle.sp_model.specs.Names.{has_name}
use Rattle.decl_words.specs.Refusals.{first_table, duplicate_table, repeats, has_repeat, has_unknown, depends_on_unknown, column_is_unknown}
use Rattle.decl_words.proofs.Lists.{In}

some-none : {X : Type 0} (b : Bool) (x : X) (o : Option X) → cond b (Some x) o ≡ None → (b ≡ false) × (o ≡ None)
some-none true x o h = absurd (cc)
some-none false x o h = (refl, h)

pub get_or-In : {X : Type 0} (xs : List X) (i : ℕ) (d : X) → i < length xs → In (get_or xs i d) xs
get_or-In [] i d h = absurd (omega (arith, h))
get_or-In (x ∷ xs) zero d h = inl refl
get_or-In (x ∷ xs) (suc i) d h = inr (get_or-In xs i d (omega (arith, h)))

pub none-refused : (test : TableDecl → Bool) (number : ℕ) (tables : List TableDecl) → first_table test number tables ≡ None → (t : TableDecl) → In t tables → test t ≡ false
none-refused test number [] none t h = absurd h
none-refused test number (x ∷ xs) none t (inl h) = ap test h ∙ (some-none (test x) number (first_table test (suc number) xs) none).0
none-refused test number (x ∷ xs) none t (inr h) = none-refused test (suc number) xs (some-none (test x) number (first_table test (suc number) xs) none).1 t h

pub none-repeats : (before : List (List ℕ)) (number : ℕ) (tables : List TableDecl) → duplicate_table before number tables ≡ None → (t : TableDecl) → In t tables → has_repeat t ≡ false
none-repeats before number [] none t h = absurd h
none-repeats before number (x ∷ xs) none t (inl h) =
    ap has_repeat h ∙ (or_parts (has_name before x.name) (has_repeat x) (some-none (has_name before x.name || has_repeat x) number (duplicate_table (before ++ x.name ∷ []) (suc number) xs) none).0).1
none-repeats before number (x ∷ xs) none t (inr h) =
    none-repeats (before ++ x.name ∷ []) (suc number) xs (some-none (has_name before x.name || has_repeat x) number (duplicate_table (before ++ x.name ∷ []) (suc number) xs) none).1 t h

pub functions-distinct : (tables : List TableDecl) → duplicate_table [] 1 tables ≡ None → (t : TableDecl) → In t tables → repeats [] (names_of_functions t.functions) ≡ false
functions-distinct tables none t h = (or_parts _ _ (or_parts _ _ (or_parts _ _ (none-repeats [] 1 tables none t h)).0).0).1

pub dependencies-declared : (t : TableDecl) → has_unknown t ≡ false → list_any (depends_on_unknown (names_of_functions t.functions)) t.functions ≡ false
dependencies-declared t h = (or_parts (list_any (column_is_unknown (names_of_functions t.functions)) t.columns) (list_any (depends_on_unknown (names_of_functions t.functions)) t.functions) h).1
