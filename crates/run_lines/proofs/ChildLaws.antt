-- Children in the order of their connections.
use Rattle.std.proofs.Common.{◌≡◌, ℕ, zero, suc, ◌+◌, ◌<◌, inl, inr, Bool, true, false, cond, List, [], ◌∷◌, ◌++◌, length, map, take, get_or, Some, None, refl, sym, subst, ap, ◌∙◌, arith}
use Rattle.std.specs.Prelude.{not, slice_get, bytes_eq, drop, IsTrue}
use Rattle.std.specs.List.{AllByRecursion}
use Rattle.std.proofs.lemmas.List.{append-nil, append_assoc, length-map, map-append, take_all, take_more}
use Rattle.sp_model.specs.declared.settings.Connection.{Connection}
use Rattle.sql_bind.proofs.Declared.{split}
use Rattle.sql_bind.specs.Known.{Known, nothing_declared, declared_for, declaration_of}
use Rattle.sp_model.specs.declared.declaration.Declaration.{Declaration}
use Rattle.sp_model.specs.declared.settings.Settings.{Settings}
use Rattle.sp_outside.specs.declared.child.Child.{Ghosts as Child}
use Rattle.sp_world.specs.declared.world.World.{Ghosts as World}
use Rattle.child_link.specs.Heard.{HeardLawfully}
use Rattle.run_lines.specs.Blocks.{with_child, AllHeardLawfully}

abbrev pub names : List Connection → List (List ℕ)
names cs = map (λ (c : Connection). c.name) cs

pub map_map : {K X Y : Type 0} (f : K → X) (g : X → Y) (xs : List K) → map g (map f xs) ≡ map (λ x. g (f x)) xs
map_map f g [] = refl
map_map f g (x ∷ xs) = ap (λ ys. g (f x) ∷ ys) (map_map f g xs)

more : (cs : List Connection) (c : Connection) → with_child (cs ++ c ∷ []) ≡ with_child cs ++ with_child (c ∷ [])
more [] c = refl
more (d ∷ ds) c = by (more ds c) d.aggregator
  where
    by : with_child (ds ++ c ∷ []) ≡ with_child ds ++ with_child (c ∷ []) → (b : Bool) → cond (not b) (d ∷ with_child (ds ++ c ∷ [])) (with_child (ds ++ c ∷ [])) ≡ cond (not b) (d ∷ with_child ds) (with_child ds) ++ with_child (c ∷ [])
    by rest true = rest
    by rest false = ap (λ xs. d ∷ xs) rest

-- the children of the connections up to one, and its own where it is no aggregator
pub one_child : (cs : List Connection) (i : ℕ) (c : Connection) → i < length cs → c ≡ get_or cs i c → c.aggregator ≡ false → names (with_child (take (i + 1) cs)) ≡ names (with_child (take i cs)) ++ c.name ∷ []
one_child cs i c within is plain =
    ap (λ xs. names (with_child xs)) (take_more cs i c within ∙ ap (λ x. take i cs ++ x ∷ []) (sym is))
    ∙ ap names (more (take i cs) c) ∙ map-append (λ (d : Connection). d.name) (with_child (take i cs)) (with_child (c ∷ [])) ∙ ap (λ xs. names (with_child (take i cs)) ++ xs) own
  where
    own : names (with_child (c ∷ [])) ≡ c.name ∷ []
    own = ap (λ b. names (cond (not b) (c ∷ []) [])) plain

pub no_child : (cs : List Connection) (i : ℕ) (c : Connection) → i < length cs → c ≡ get_or cs i c → c.aggregator ≡ true → names (with_child (take (i + 1) cs)) ≡ names (with_child (take i cs))
no_child cs i c within is aggregator =
    ap (λ xs. names (with_child xs)) (take_more cs i c within ∙ ap (λ x. take i cs ++ x ∷ []) (sym is))
    ∙ ap names (more (take i cs) c) ∙ map-append (λ (d : Connection). d.name) (with_child (take i cs)) (with_child (c ∷ [])) ∙ ap (λ xs. names (with_child (take i cs)) ++ xs) none ∙ append-nil (names (with_child (take i cs)))
  where
    none : names (with_child (c ∷ [])) ≡ []
    none = ap (λ b. names (cond (not b) (c ∷ []) [])) aggregator

-- those of the first connections are the first of all
first_of : (cs : List Connection) (i : ℕ) → with_child (take i cs) ≡ take (length (with_child (take i cs))) (with_child cs)
first_of [] zero = refl
first_of [] (suc i) = refl
first_of (c ∷ cs) zero = refl
first_of (c ∷ cs) (suc i) = by (first_of cs i) c.aggregator
  where
    by : with_child (take i cs) ≡ take (length (with_child (take i cs))) (with_child cs) → (b : Bool) → cond (not b) (c ∷ with_child (take i cs)) (with_child (take i cs)) ≡ take (length (cond (not b) (c ∷ with_child (take i cs)) (with_child (take i cs)))) (cond (not b) (c ∷ with_child cs) (with_child cs))
    by rest true = rest
    by rest false = ap (λ xs. c ∷ xs) rest

pub first_names : {K : Type 0} (own : K → List ℕ) (ks : List K) (cs : List Connection) (i : ℕ) → map own ks ≡ names (with_child (take i cs)) → map own ks ≡ names (take (length ks) (with_child cs))
first_names own ks cs i e = e ∙ ap names (first_of cs i) ∙ ap (λ n. names (take n (with_child cs))) (sym count)
  where
    count : length ks ≡ length (with_child (take i cs))
    count = sym (length-map ks own) ∙ ap length e ∙ length-map (with_child (take i cs)) (λ (c : Connection). c.name)

pub all_names : {K : Type 0} (own : K → List ℕ) (ks : List K) (ds : List Connection) → map own ks ≡ names ds → map own ks ≡ names (take (length ks) ds)
all_names own ks ds e = e ∙ ap names (sym (take_all (length ks) ds (omega (arith, count))))
  where
    count : length ks ≡ length ds
    count = sym (length-map ks own) ∙ ap length e ∙ length-map ds (λ (c : Connection). c.name)

-- ---- the children of slots

module _ {S K : Type 0} (child : S → K) (own : K → List ℕ) (slots : List S) (ds : List Connection) where
  -- those of the first connections
  pub first_children : (cs : List Connection) → cs ≡ ds → map (λ s. own (child s)) slots ≡ names (take (length slots) (with_child cs))
      → map own (map child slots) ≡ names (take (length (map child slots)) (with_child ds))
  first_children cs same e =
      map_map child own slots ∙ e ∙ ap (λ n. names (take n (with_child cs))) (sym (length-map slots child)) ∙ ap (λ (xs : List Connection). names (take (length (map child slots)) (with_child xs))) same

  -- those of all
  pub all_children : map (λ s. own (child s)) slots ≡ names (with_child ds) → map own (map child slots) ≡ names (take (length (map child slots)) (with_child ds))
  all_children e = all_names own (map child slots) (with_child ds) (map_map child own slots ∙ e)

-- as many as were made
pub as_many : {S : Type 0} (own : S → List ℕ) (made slots : List S) (cs ds : List Connection) → cs ≡ ds → map own made ≡ names (with_child cs) → map own slots ≡ names (with_child ds) → length slots ≡ length made
as_many own made slots cs ds same e h =
    sym (length-map slots own) ∙ ap length (h ∙ ap (λ (xs : List Connection). names (with_child xs)) (sym same) ∙ sym e) ∙ length-map made own

-- the connection of a name at a place
pub named_at : (ds : List Connection) (place : ℕ) (name : List ℕ) → slice_get (names ds) place ≡ Some name → (c : Connection) × (slice_get ds place ≡ Some c) × (c.name ≡ name)
named_at [] place name e = absurd (cc)
named_at (d ∷ ds) zero name e = (d, refl, some e)
  where
    some : Some d.name ≡ Some name → d.name ≡ name
    some h = cc
named_at (d ∷ ds) (suc place) name e = named_at ds place name e

pub mapped_at : {K X : Type 0} (f : K → X) (ks : List K) (place : ℕ) (k : K) → slice_get ks place ≡ Some k → slice_get (map f ks) place ≡ Some (f k)
mapped_at f [] place k e = absurd (cc)
mapped_at f (x ∷ xs) zero k e = let same : x ≡ k = cc in ap (λ y. Some (f y)) same
mapped_at f (x ∷ xs) (suc place) k e = mapped_at f xs place k e

-- ---- nothing is declared at first

nowhere : (cs : List Connection) (name : List ℕ) → declared_for cs (map (λ _. None) cs) name ≡ None
nowhere [] name = refl
nowhere (c ∷ cs) name = elim (split (bytes_eq c.name name)) [
  | inl is ↦ rw is refl
  | inr apart ↦ rw apart (nowhere cs name)
]

pub none_declared : (settings : Settings) (known : Known) → known ≡ nothing_declared settings → (name : List ℕ) (d : Declaration) → declaration_of known name ≡ Some d → ⊥
none_declared settings known same name d found =
    let none : declaration_of known name ≡ None = ap (λ (k : Known). declaration_of k name) same ∙ nowhere settings.connections name in
    cc

-- ---- what children heard

module _ {Kid W : Type 0} (kid : Child Kid W) (world : World W) where
  abbrev IsLawful : Kid → Type 0
  IsLawful child = HeardLawfully world.tells world.book (kid.connection child) (kid.log child)

  -- those that came back since heard only lawful requests
  pub record CameLawfully (back back_after : List Kid) : Type 0 where
    pub children : List Kid
    pub after : back_after ≡ back ++ children
    pub heard : IsTrue world.tells → AllByRecursion IsLawful children

  pub none_came : (back : List Kid) → CameLawfully back back
  none_came back = record { children = []; after = sym (append-nil back); heard = λ tells. tt }

  one_came : (children : List Kid) (child : Kid) → AllByRecursion IsLawful children → IsLawful child → AllByRecursion IsLawful (children ++ child ∷ [])
  one_came [] child all h = (h, tt)
  one_came (k ∷ ks) child all h = (all.0, one_came ks child all.1 h)

  pub one_came_back : (back between : List Kid) (child : Kid) (after : List Kid) → CameLawfully back between → after ≡ between ++ child ∷ [] → (IsTrue world.tells → IsLawful child) → CameLawfully back after
  one_came_back back between child after came is lawful = record {
    children = came.children ++ child ∷ [];
    after = is ∙ ap (λ ks. ks ++ child ∷ []) came.after ∙ append_assoc back came.children (child ∷ []);
    heard = λ tells. one_came came.children child (came.heard tells) (lawful tells);
  }

  same_rest : (back xs ys : List Kid) → back ++ xs ≡ back ++ ys → xs ≡ ys
  same_rest [] xs ys e = e
  same_rest (k ∷ ks) xs ys e = same_rest ks xs ys (ap (drop 1) e)

  pub came_all : (back after children : List Kid) → CameLawfully back after → after ≡ back ++ children → AllHeardLawfully kid world children
  came_all back after children came is = λ tells. subst (λ ks. AllByRecursion IsLawful ks) (same_rest back came.children children (sym came.after ∙ is)) (came.heard tells)

  -- a child of which nothing happened
  pub nothing_heard : (child : Kid) → kid.log child ≡ [] → IsLawful child
  nothing_heard child none = subst (HeardLawfully world.tells world.book (kid.connection child)) (sym none) tt
