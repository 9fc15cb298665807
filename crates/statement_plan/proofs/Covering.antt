-- The columns that conditions and lists name are among those that the source's rows have.
use Rattle.std.proofs.Common.{◌≡◌, ℕ, zero, suc, Bool, true, false, ◌||◌, List, [], ◌∷◌, ◌++◌, cond, Some, slice_get, bytes_eq, refl, sym, ap, ◌∙◌}
use Rattle.std.proofs.lemmas.List.{append_assoc, map-append}
use Rattle.std.proofs.lemmas.List.Elements.{filter-append}
use Rattle.std.proofs.lemmas.Slice.Eq.{bytes_eq-Decides}
use Rattle.sp_model.proofs.PlainLists.{any_there}
use Rattle.sp_model.specs.Names.{has_name}
use Rattle.sp_model.specs.RowOf.{names_of_columns, columns_named}
use Rattle.sp_model.specs.declared.declaration.ColumnDecl.{ColumnDecl}
use Rattle.model_laws.proofs.FewerColumns.{bytes_itself}

-- ---- columns among columns

keeps : List (List ℕ) → ColumnDecl → Bool
keeps names c = has_name names c.name

apart_by : (names : List (List ℕ)) (x : List ℕ) (c : ColumnDecl) (cs : List ColumnDecl) (b : Bool) → has_name names c.name ≡ b → has_name names x ≡ false
    → has_name (names_of_columns (columns_named names cs)) x ≡ false
    → has_name (names_of_columns (cond b (c ∷ columns_named names cs) (columns_named names cs))) x ≡ false
apart_by names x c cs false e h k = k
apart_by names x c cs true e h k = differ (bytes_eq x c.name) refl
  where
    differ : (d : Bool) → bytes_eq x c.name ≡ d → has_name (c.name ∷ names_of_columns (columns_named names cs)) x ≡ false
    differ false f = ap (λ t. t || has_name (names_of_columns (columns_named names cs)) x) f ∙ k
    differ true f =
        let same : x ≡ c.name = (bytes_eq-Decides x c.name).0 f in
        absurd (cc (h, e, ap (has_name names) same))

-- a name that isn't wanted isn't there
apart : (names : List (List ℕ)) (x : List ℕ) (cs : List ColumnDecl) → has_name names x ≡ false → has_name (names_of_columns (columns_named names cs)) x ≡ false
apart names x [] h = refl
apart names x (c ∷ cs) h = apart_by names x c cs (has_name names c.name) refl h (apart names x cs h)

front_by : (names : List (List ℕ)) (c : ColumnDecl) (cs : List ColumnDecl) (b : Bool) → has_name names c.name ≡ b → b ≡ true
    → cond b (c ∷ columns_named names cs) (columns_named names cs) ≡ c ∷ columns_named names cs
front_by names c cs true e h = refl
front_by names c cs false e h = cc

-- a name that is wanted, of a column that there is, is there
there : (names : List (List ℕ)) (before : List ColumnDecl) (c : ColumnDecl) (after : List ColumnDecl) → has_name names c.name ≡ true
    → has_name (names_of_columns (columns_named names (before ++ c ∷ after))) c.name ≡ true
there names before c after h =
    let kept : columns_named names (before ++ c ∷ after) ≡ columns_named names before ++ c ∷ columns_named names after =
    filter-append (λ (d : ColumnDecl). has_name names d.name) before (c ∷ after) ∙ ap (λ l. columns_named names before ++ l) (front_by names c after (has_name names c.name) refl h) in
    ap (λ cs. has_name (names_of_columns cs) c.name) kept
    ∙ ap (λ ns. has_name ns c.name) (map-append (λ (d : ColumnDecl). d.name) (columns_named names before) (c ∷ columns_named names after))
    ∙ any_there (bytes_eq c.name) (names_of_columns (columns_named names before)) c.name (names_of_columns (columns_named names after)) (bytes_itself c.name)

same_by : (names all_names : List (List ℕ)) (c : ColumnDecl) (cs ds : List ColumnDecl) → has_name all_names c.name ≡ has_name names c.name → columns_named all_names cs ≡ columns_named names cs
    → columns_named all_names (c ∷ cs) ≡ columns_named names (c ∷ cs)
same_by names all_names c cs ds e h =
    ap (λ b. cond b (c ∷ columns_named all_names cs) (columns_named all_names cs)) e ∙ ap (λ l. cond (has_name names c.name) (c ∷ l) l) h

same_test : (names : List (List ℕ)) (before : List ColumnDecl) (c : ColumnDecl) (after : List ColumnDecl) (b : Bool) → has_name names c.name ≡ b
    → has_name (names_of_columns (columns_named names (before ++ c ∷ after))) c.name ≡ b
same_test names before c after true e = there names before c after e
same_test names before c after false e = apart names c.name (before ++ c ∷ after) e

again_from : (names : List (List ℕ)) (all before cs : List ColumnDecl) → all ≡ before ++ cs
    → columns_named (names_of_columns (columns_named names all)) cs ≡ columns_named names cs
again_from names all before [] e = refl
again_from names all before (c ∷ cs) e =
    same_by names (names_of_columns (columns_named names all)) c cs []
    (ap (λ l. has_name (names_of_columns (columns_named names l)) c.name) e ∙ same_test names before c cs (has_name names c.name) refl)
    (again_from names all (before ++ c ∷ []) cs (e ∙ sym (append_assoc before (c ∷ []) cs)))

-- the columns of the names of the columns of some names are those
pub again : (names : List (List ℕ)) (cs : List ColumnDecl) → names_of_columns (columns_named (names_of_columns (columns_named names cs)) cs) ≡ names_of_columns (columns_named names cs)
again names cs = ap names_of_columns (again_from names cs [] cs refl)

-- ---- a column by its number

split_there : {X : Type 0} (P : X → Type 0) (xs before : List X) (n : ℕ) (x : X) → slice_get xs n ≡ Some x → ((front back : List X) → before ++ xs ≡ front ++ x ∷ back → P x) → P x
split_there P [] before n x e f = absurd (cc)
split_there P (y ∷ ys) before zero x e f = f before ys (let same : y ≡ x = cc in ap (λ z. before ++ z ∷ ys) same)
split_there P (y ∷ ys) before (suc n) x e f = split_there P ys (before ++ y ∷ []) n x e (λ front back q. f front back (sym (append_assoc before (y ∷ []) ys) ∙ q))

pub column_there : (names : List (List ℕ)) (cs : List ColumnDecl) (n : ℕ) (c : ColumnDecl) → slice_get cs n ≡ Some c → has_name names c.name ≡ true
    → has_name (names_of_columns (columns_named names cs)) c.name ≡ true
column_there names cs n c e h =
    split_there (λ d. has_name names d.name ≡ true → has_name (names_of_columns (columns_named names cs)) d.name ≡ true) cs [] n c e
    (λ front back q k. ap (λ l. has_name (names_of_columns (columns_named names l)) c.name) q ∙ there names front c back k) h
