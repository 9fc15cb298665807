-- A catalog with one declaration more.
use Rattle.std.proofs.Common.{◌≡◌, ℕ, Bool, true, false, ◌||◌, List, [], ◌∷◌, map, Option, Some, None, Ok, ◌⊎◌, inl, inr, refl, sym, ap, subst, ◌∙◌}
use Rattle.std.specs.Prelude.{bytes_eq, filter, is_some, not}
use Rattle.std.specs.List.{list_any}
use Rattle.std.proofs.lemmas.Slice.Eq.{bytes_eq-Decides}
use Rattle.sp_model.specs.Book.{Book}
use Rattle.sp_model.specs.Names.{has_name}
use Rattle.sp_model.specs.declared.declaration.Declaration.{Declaration}
use Rattle.sp_model.specs.declared.settings.Connection.{Connection}
use Rattle.sp_model.specs.declared.settings.Settings.{Settings}
use Rattle.decl_words.specs.BookTables.{book_declaration}
use Rattle.sql_bind.proofs.Declared.{split}
use Rattle.sql_bind.specs.Known.{Known, is_connection, declaration_of}
use Rattle.statement_words.specs.Runs.{plain_names}
use Rattle.declaration_run.specs.Declaring.{IsTold, IsRead, AreRead, StayDeclared}

-- what is set of one name, and stays of the others
abbrev pub IsSet : Known → Known → List ℕ → Declaration → Type 0
IsSet before after connection d =
    (declaration_of after connection ≡ Some d) × ((name : List ℕ) → bytes_eq connection name ≡ false → declaration_of after name ≡ declaration_of before name)

same_name : (a b : List ℕ) → bytes_eq a b ≡ true → a ≡ b
same_name a b e = (bytes_eq-Decides a b).0 e

-- whatever holds of each declaration holds of each still
still : (P : List ℕ → Declaration → Type 0) (before after : Known) (connection : List ℕ) (d : Declaration) → IsSet before after connection d → P connection d
    → ((name : List ℕ) (e : Declaration) → declaration_of before name ≡ Some e → P name e)
    → (name : List ℕ) (e : Declaration) → declaration_of after name ≡ Some e → P name e
still P before after connection d set own all name e is = elim (split (bytes_eq connection name)) [
  | inl same ↦ of_own (same_name connection name same)
  | inr other ↦ all name e (sym (set.1 name other) ∙ is)
]
  where
    some_same : (a b : Declaration) → Some a ≡ Some b → a ≡ b
    some_same a b e = cc

    of_own : connection ≡ name → P name e
    of_own same = subst (λ (n : List ℕ). P n e) same (subst (λ (x : Declaration). P connection x) (some_same d e (sym set.0 ∙ (ap (declaration_of after) same ∙ is))) own)

pub told_still : (book : Book) (before after : Known) (connection : List ℕ) (d : Declaration) → declaration_of after connection ≡ Some d
    → ((name : List ℕ) → bytes_eq connection name ≡ false → declaration_of after name ≡ declaration_of before name)
    → book_declaration book connection ≡ Ok d → IsTold book before → IsTold book after
told_still book before after connection d here others own told = still (λ n e. book_declaration book n ≡ Ok e) before after connection d (here, others) own told

pub read_still : (before after : Known) (connection : List ℕ) (d : Declaration) → declaration_of after connection ≡ Some d
    → ((name : List ℕ) → bytes_eq connection name ≡ false → declaration_of after name ≡ declaration_of before name)
    → IsRead d → AreRead before → AreRead after
read_still before after connection d here others own read = still (λ n e. IsRead e) before after connection d (here, others) own read

pub none_there : (o : Option Declaration) → is_some o ≡ false → o ≡ None
none_there (Some d) h = absurd (cc)
none_there None h = refl

-- one that had none has one now, and the others what they had
pub stays_declared : (before after : Known) (connection : List ℕ) → declaration_of before connection ≡ None
    → ((name : List ℕ) → bytes_eq connection name ≡ false → declaration_of after name ≡ declaration_of before name)
    → StayDeclared before after
stays_declared before after connection none others name d had = elim (split (bytes_eq connection name)) [
  | inl same ↦ let never : None ≡ Some d = sym none ∙ (ap (declaration_of before) (same_name connection name same) ∙ had) in absurd (cc)
  | inr other ↦ others name other ∙ had
]

pub stays_then : (first second third : Known) → StayDeclared first second → StayDeclared second third → StayDeclared first third
stays_then first second third here later name d had = later name d (here name d had)

either_true : (a b : Bool) → (a || b) ≡ true → (a ≡ true) ⊎ (b ≡ true)
either_true true b h = inl refl
either_true false b h = inr h

or_left : (a b : Bool) → a ≡ true → (a || b) ≡ true
or_left a b h = ap (λ x. x || b) h

or_right : (a : Bool) {b : Bool} → b ≡ true → (a || b) ≡ true
or_right true h = refl
or_right false h = h

-- a plain connection of the settings is one of them
pub plain_is_known : (settings : Settings) (name : List ℕ) → has_name (plain_names settings.connections) name ≡ true → is_connection settings name ≡ true
unfolding plain_names
plain_is_known settings name h = known settings.connections h
  where
    known : (cs : List Connection) → has_name (map (λ (c : Connection). c.name) (filter (λ (c : Connection). not c.aggregator) cs)) name ≡ true → list_any (λ (c : Connection). bytes_eq c.name name) cs ≡ true
    known [] h = h
    known (c ∷ cs) h = elim (split c.aggregator) [
      | inl aggregator ↦ or_right (bytes_eq c.name name) (known cs (rw aggregator at h))
      | inr plain ↦ elim (either_true (bytes_eq name c.name) (has_name (map (λ (x : Connection). x.name) (filter (λ (x : Connection). not x.aggregator) cs)) name) (rw plain at h)) [
        | inl is ↦ or_left (bytes_eq c.name name) (list_any (λ (x : Connection). bytes_eq x.name name) cs) ((bytes_eq-Decides c.name name).1 (sym (same_name name c.name is)))
        | inr later ↦ or_right (bytes_eq c.name name) (known cs later)
      ]
    ]
