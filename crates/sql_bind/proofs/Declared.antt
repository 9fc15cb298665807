-- Where a declaration is set, and what is found there.
use Rattle.std.proofs.Common.{◌≡◌, ℕ, zero, suc, ◌+◌, ◌≤◌, List, [], ◌∷◌, length, ◌⊎◌, inl, inr, refl, arith}
use Rattle.std.specs.Prelude.{Bool, true, false, Option, Some, None, bytes_eq, slice_get, slice_set}
use Rattle.std.specs.List.{list_any, position_from}
use Rattle.std.proofs.lemmas.Slice.Eq.{bytes_eq-Decides}
use Rattle.sp_model.specs.declared.declaration.Declaration.{Declaration}
use Rattle.sp_model.specs.declared.settings.Connection.{Connection}
use Rattle.sql_bind.specs.Known.{declared_for}

pub split : (b : Bool) → (b ≡ true) ⊎ (b ≡ false)
split true = inl refl
split false = inr refl

abbrev pub named : List ℕ → Connection → Bool
named name c = bytes_eq c.name name

some_is : (a b : ℕ) → Some a ≡ Some b → a ≡ b
some_is a b e = cc

-- a place is not before the start
pub from_start : (cs : List Connection) (name : List ℕ) (i place : ℕ) → position_from (named name) i cs ≡ Some place → i ≤ place
from_start [] name i place e = absurd (cc)
from_start (c ∷ cs) name i place e = elim (split (named name c)) [
  | inl is ↦ let same : i ≡ place = some_is i place (rw is at e) in omega arith
  | inr is ↦ let more : i + 1 ≤ place = from_start cs name (i + 1) place (rw is at e) in omega arith
]

-- the j-th declaration is the connection's, where its place is the j-th
pub declared_at : (cs : List Connection) (ds : List (Option Declaration)) (name : List ℕ) (i j place : ℕ)
    → position_from (named name) i cs ≡ Some place → place ≡ i + j → length ds ≡ length cs
    → slice_get ds j ≡ Some (declared_for cs ds name)
declared_at [] ds name i j place e at same = absurd (cc)
declared_at (c ∷ cs) [] name i j place e at same = absurd (omega arith)
declared_at (c ∷ cs) (d ∷ ds) name i zero place e at same = elim (split (named name c)) [
  | inl is ↦ rw is refl
  | inr is ↦ let more : i + 1 ≤ place = from_start cs name (i + 1) place (rw is at e) in absurd (omega arith)
]
declared_at (c ∷ cs) (d ∷ ds) name i (suc j) place e at same = elim (split (named name c)) [
  | inl is ↦ let here : i ≡ place = some_is i place (rw is at e) in absurd (omega arith)
  | inr is ↦ rw is (declared_at cs ds name (i + 1) j place (rw is at e) (omega arith) (omega arith))
]

pub declared_nowhere : (cs : List Connection) (ds : List (Option Declaration)) (name : List ℕ) (i : ℕ)
    → position_from (named name) i cs ≡ None
    → declared_for cs ds name ≡ None
declared_nowhere [] ds name i e = refl
declared_nowhere (c ∷ cs) [] name i e = refl
declared_nowhere (c ∷ cs) (d ∷ ds) name i e = elim (split (named name c)) [
  | inl is ↦ let here : Some i ≡ None = rw is at e in absurd (cc)
  | inr is ↦ rw is (declared_nowhere cs ds name (i + 1) (rw is at e))
]

-- a connection of the settings has a place
pub has_place : (cs : List Connection) (name : List ℕ) (i : ℕ) → list_any (named name) cs ≡ true → position_from (named name) i cs ≡ None → ⊥
has_place [] name i any e = cc
has_place (c ∷ cs) name i any e = elim (split (named name c)) [
  | inl is ↦ let here : Some i ≡ None = rw is at e in cc
  | inr is ↦ has_place cs name (i + 1) (rw is at any) (rw is at e)
]

-- what is set at a connection's place is its declaration
pub set_here : (cs : List Connection) (ds : List (Option Declaration)) (name : List ℕ) (x : Option Declaration) (i j place : ℕ)
    → position_from (named name) i cs ≡ Some place → place ≡ i + j → length ds ≡ length cs
    → declared_for cs (slice_set ds j x) name ≡ x
set_here [] ds name x i j place e at same = absurd (cc)
set_here (c ∷ cs) [] name x i j place e at same = absurd (omega arith)
set_here (c ∷ cs) (d ∷ ds) name x i zero place e at same = elim (split (named name c)) [
  | inl is ↦ rw is refl
  | inr is ↦ let more : i + 1 ≤ place = from_start cs name (i + 1) place (rw is at e) in absurd (omega arith)
]
set_here (c ∷ cs) (d ∷ ds) name x i (suc j) place e at same = elim (split (named name c)) [
  | inl is ↦ let here : i ≡ place = some_is i place (rw is at e) in absurd (omega arith)
  | inr is ↦ rw is (set_here cs ds name x (i + 1) j place (rw is at e) (omega arith) (omega arith))
]

same_name : (a b d : List ℕ) → bytes_eq a b ≡ true → bytes_eq b d ≡ false → bytes_eq a d ≡ false
same_name a b d e f = let is : a ≡ b = (bytes_eq-Decides a b).0 e in rw is f

-- and that of no other
pub set_other : (cs : List Connection) (ds : List (Option Declaration)) (name other : List ℕ) (x : Option Declaration) (i j place : ℕ)
    → position_from (named name) i cs ≡ Some place → place ≡ i + j → length ds ≡ length cs → bytes_eq name other ≡ false
    → declared_for cs (slice_set ds j x) other ≡ declared_for cs ds other
set_other [] ds name other x i j place e at same f = absurd (cc)
set_other (c ∷ cs) [] name other x i j place e at same f = absurd (omega arith)
set_other (c ∷ cs) (d ∷ ds) name other x i zero place e at same f = elim (split (named name c)) [
  | inl is ↦ let not_it : bytes_eq c.name other ≡ false = same_name c.name name other is f in rw not_it refl
  | inr is ↦ let more : i + 1 ≤ place = from_start cs name (i + 1) place (rw is at e) in absurd (omega arith)
]
set_other (c ∷ cs) (d ∷ ds) name other x i (suc j) place e at same f = elim (split (named name c)) [
  | inl is ↦ let here : i ≡ place = some_is i place (rw is at e) in absurd (omega arith)
  | inr is ↦ elim (split (named other c)) [
    | inl it ↦ rw it refl
    | inr it ↦ rw it (set_other cs ds name other x (i + 1) j place (rw is at e) (omega arith) (omega arith) f)
  ]
]
