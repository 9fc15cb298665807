-- One entry of a map is written, and the others stay.
use Rattle.std.proofs.Common.{◌≡◌, ℕ, Bool, true, false, List, refl, sym, ◌∙◌}
use Rattle.std.proofs.lemmas.Cmp.{nat_list_eq_equiv}
use Rattle.std.specs.Prelude.{nat_eq}
use Rattle.std.specs.Cmp.Lexicographic.{pointwise, same_text}
use Rattle.std.specs.HashMap.{HashMap, get_by, UpdatesBy}
use Rattle.std.specs.Map.{lookup, IsKeyTest, AreApart, KeepsOthers}
use Rattle.std.specs.Prelude.{Option}

other_entries : {K X : Type 0} (eq : K → K → Bool) (test : K → Bool) (old new : List (K × X)) → KeepsOthers eq test old new → (other : K → Bool) → IsKeyTest eq other → AreApart test other
    → lookup other new ≡ lookup other old
unfolding KeepsOthers
other_entries eq test old new h = h

not_true : (b : Bool) → (b ≡ true → ⊥) → b ≡ false
not_true true h = absurd (h refl)
not_true false h = refl

pub others_stay : {K X S : Type 0} (items : K → List ℕ) (bs : List ℕ) (m n : HashMap K X S) (w : Option X) → UpdatesBy (λ x y. pointwise nat_eq (items x) (items y)) (λ k. pointwise nat_eq bs (items k)) m n w
    → (cs : List ℕ) → (cs ≡ bs → ⊥) → get_by (λ k. pointwise nat_eq cs (items k)) n ≡ get_by (λ k. pointwise nat_eq cs (items k)) m
others_stay items bs m n w h cs apart =
    other_entries _ _ m.entries n.entries h.3 (λ k. pointwise nat_eq cs (items k)) (λ x y. nat_list_eq_equiv.congr cs (items x) (items y))
    (λ k t. not_true (pointwise nat_eq cs (items k)) (λ u. apart (same_text cs (items k) (sym u) ∙ sym (same_text bs (items k) (sym t)))))
