-- A function of a list is found there by its name.
use Rattle.std.proofs.Common.{◌≡◌, ◌<◌, ℕ, zero, suc, Bool, true, false, cond, List, [], ◌∷◌, length, get_or, Option, Some, None, IsSome, refl, sym, ap, arith}
use Rattle.std.specs.Prelude.{bytes_eq}
use Rattle.std.proofs.lemmas.Slice.Eq.{bytes_eq-Decides}
use Rattle.sp_model.specs.Hydration.{find_function}
use Rattle.sp_model.specs.declared.declaration.FunctionDecl.{FunctionDecl}

pub some_of : {X : Type 0} (o : Option X) → IsSome o → (x : X) × (o ≡ Some x)
some_of None h = absurd (cc)
some_of (Some x) h = (x, refl)

found_by : (f g : FunctionDecl) (fs : List FunctionDecl) (b : Bool) → (b ≡ false → IsSome (find_function f.name fs)) → IsSome (cond b (Some g) (find_function f.name fs))
found_by f g fs true later = refl
found_by f g fs false later = later refl

pub found : (fs : List FunctionDecl) (i : ℕ) (f : FunctionDecl) → i < length fs → f ≡ get_or fs i f → IsSome (find_function f.name fs)
found [] i f within is = absurd (omega arith)
found (g ∷ gs) zero f within is = found_by f g gs (bytes_eq g.name f.name) (λ apart. absurd (apart_not g f is apart))
  where
    apart_not : (g f : FunctionDecl) → f ≡ g → bytes_eq g.name f.name ≡ false → ⊥
    apart_not g f is apart = let same : bytes_eq g.name f.name ≡ true = (bytes_eq-Decides g.name f.name).1 (ap (λ (x : FunctionDecl). x.name) (sym is)) in cc
found (g ∷ gs) (suc i) f within is = found_by f g gs (bytes_eq g.name f.name) (λ apart. found gs i f (omega arith) is)
