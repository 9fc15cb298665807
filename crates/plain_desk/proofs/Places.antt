-- Places of plain connections.
use Rattle.std.proofs.Common.{◌≡◌, ℕ, zero, suc, ◌+◌, ◌<◌, List, [], ◌∷◌, Some, false, get_or, drop, length, slice_get, refl, sym, ap, ◌∙◌, arith, add-one}
use Rattle.sp_model.specs.declared.settings.Connection.{Connection}
use Rattle.plain_desk.specs.Slots.{plain_names}

drop_suc : {X : Type 0} (xs : List X) (i : ℕ) (x : X) → i < length xs → x ≡ get_or xs i x → drop i xs ≡ x ∷ drop (suc i) xs
drop_suc [] i x lt e = absurd (omega arith)
drop_suc {X} (y ∷ ys) zero x lt e = ap (λ (z : X). z ∷ ys) (sym e)
drop_suc (y ∷ ys) (suc i) x lt e = drop_suc ys i x (omega arith) e

drop_at : {X : Type 0} (xs : List X) (i : ℕ) (x : X) → i < length xs → x ≡ get_or xs i x → drop i xs ≡ x ∷ drop (i + 1) xs
drop_at {X} xs i x lt e = rw add-one (drop_suc xs i x lt e)

names_next : (c : Connection) (cs : List Connection) → c.aggregator ≡ false → plain_names (c ∷ cs) ≡ c.name ∷ plain_names cs
names_next c cs e = rw e refl

-- a plain connection is passed
pub place_next : (cs : List Connection) (i : ℕ) (c : Connection) (n : ℕ) → i < length cs → c ≡ get_or cs i c → c.aggregator ≡ false → slice_get (plain_names (drop i cs)) (suc n) ≡ slice_get (plain_names (drop (i + 1) cs)) n
place_next cs i c n lt e on =
    ap (λ (xs : List Connection). slice_get (plain_names xs) (suc n)) (drop_at cs i c lt e) ∙ ap (λ (ns : List (List ℕ)). slice_get ns (suc n)) (names_next c (drop (i + 1) cs) on)

-- it is the first of the rest
pub place_here : (cs : List Connection) (i : ℕ) (c : Connection) → i < length cs → c ≡ get_or cs i c → c.aggregator ≡ false → slice_get (plain_names (drop i cs)) 0 ≡ Some c.name
place_here cs i c lt e on =
    ap (λ (xs : List Connection). slice_get (plain_names xs) 0) (drop_at cs i c lt e) ∙ ap (λ (ns : List (List ℕ)). slice_get ns 0) (names_next c (drop (i + 1) cs) on)
