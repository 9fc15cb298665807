-- `Members` as a type that may hold the type that holds it, by its values.
use Rattle.std.specs.Prelude.{ℕ, Bool, true, List, [], ◌∷◌, length, map}
use Rattle.std.specs.List.{zip}
use mathlib.Core.Path.{◌≡◌, refl, sym, ap, ◌∙◌}
use mathlib.Core.HLevel.{×_prop}
use mathlib.Core.Former.{Former, one_more, this, const, pair, list, via, children}
use native.Mathlib.Nat.{ℕ_set}
use native.Mathlib.Omega.{arith}
use lib.ListN.{length-map}
use base.Stored.{Coded-set, coded_list, coded×, coded_ℕ, coded_bool, code_map, gcons}
use denote.RattleType.{RattleType}
use denote.HoleLaws.{Alike}
use denote.HolePlaces.{Recodes, struct_places, laid}
use denote.Hole.Carrier.{listed}
use denote.Hole.Fix.{over}
use denote.Param.Weighed.{Weighed, most}
use denote.Model.Placed.{held, view_places_where}
use Rattle.std_collections.specs.Map.{values_of}
use Rattle.std_collections.specs.Layout.Former.{entry, on_value, entries_puts, values_listed}
use Rattle.sqlite_items.specs.formers.items.Items as items
use Rattle.sp_value.specs.declared.members.Members.TheInside.{Inside}
use Rattle.sp_value.specs.declared.members.Members.TheView.{view, invariant}
use Rattle.sp_value.specs.contracts.members.Members as C
use Rattle.sp_value.specs.contracts.members.Members.TheInside as I

abbrev pub the_former : Former {0} → Former {0}
the_former g = list (entry g (List ℕ))

abbrev pub the_weighed : {g : Former {0}} → Weighed g → Weighed (the_former g)
the_weighed w = record { weight = λ X μ m. most (w.weight X μ) (values_of m); puts = λ X μ m. entries_puts w (List ℕ) X μ m }

pub the_empty : List (List ℕ × ⊥)
the_empty = []

abbrev pub the_items : (X : Type 0) → List (List ℕ × X) → List X
the_items X m = values_of m

pub the_items_listed : (X : Type 0) (m : List (List ℕ × X)) → listed _ (children (the_former this) X m) ≡ the_items X m
the_items_listed X m = values_listed (List ℕ) X m

abbrev fields : Former {0}
fields = via (pair (const (List (List ℕ))) (list this)) (λ X. Inside X) (λ X a. (a.names, a.values)) (λ X v. record { names = v.0; values = v.1 }) (λ X a. refl) (λ X v. refl)

zip-map : {K X Y : Type 0} (h : X → Y) (ks : List K) (vs : List X) → zip ks (map h vs) ≡ map (on_value h) (zip ks vs)
zip-map h [] vs = refl
zip-map h (k ∷ ks) [] = refl
zip-map h (k ∷ ks) (v ∷ vs) = ap (λ l. (k, h v) ∷ l) (zip-map h ks vs)

zip-held : (K X : Type 0) (ks : List K) (vs : List X) → length vs ≡ length ks → held (list (entry this K)) X (zip ks vs) ≡ held (list this) X vs
zip-held K X [] [] e = refl
zip-held K X [] (v ∷ vs) e = absurd (omega arith)
zip-held K X (k ∷ ks) [] e = absurd (omega arith)
zip-held K X (k ∷ ks) (v ∷ vs) e = λ i. (one_more (zip-held K X ks vs (omega arith) i).0, (v, (zip-held K X ks vs (omega arith) i).1))

module _ (R R' : RattleType) (h : R.Denot → R'.Denot) where
  sound_prop : (m n : ℕ) (b : Bool) → IsProp ((m ≡ n) × (b ≡ true))
  sound_prop m n b = ×_prop (ℕ_set _ _) (Coded-set coded_bool _ _)

  pub the_places : Alike R R' h → Alike (C.the_row R) (C.the_row R') ((the_former this).map R.Denot R'.Denot h)
  the_places a = view_places_where fields (the_former this) (λ X. view X)
      (λ X Y k u. zip-map k u.names u.values)
      (λ X u. length u.values ≡ length u.names) (λ X Y k u e. sym (length-map u.values k) ∙ e) (λ X u e. zip-held (List ℕ) X u.names u.values e)
      R.Denot R'.Denot h (C.the_row R).coded (C.the_row R').coded
      (invariant R.Denot) (invariant R'.Denot) (λ u. sound_prop _ _ _) (λ u. sound_prop _ _ _)
      (λ u e. (length-map u.values h ∙ e.0, e.1)) (λ u e. (sym (length-map u.values h) ∙ e.0, e.1)) (λ u e. e.0)
      (over (I.the_row R)) (over (I.the_row R'))
      (struct_places (I.the_type R) (I.the_type R') (λ n. n, (map h, tt)) _ (λ d. refl) refl
      ((refl, (λ n. refl, λ n. refl)), (laid _ _ _ (items.the_places R R' h a), tt)))

  pub the_codes_placed : Recodes R R' h → Recodes (C.the_row R) (C.the_row R') ((the_former this).map R.Denot R'.Denot h)
  the_codes_placed e m = sym (code_map (coded× (coded_list coded_ℕ) R.coded).code (coded× (coded_list coded_ℕ) R'.coded).code (on_value h) (λ x i. gcons ((coded_list coded_ℕ).code x.0) (sym (e x.1) i)) m)
