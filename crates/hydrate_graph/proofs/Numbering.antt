-- Functions by name and by number.
use Rattle.std.proofs.Common.{◌≡◌, ℕ, suc, Bool, true, false, List, [], ◌∷◌, Option, Some, if◌then◌else◌, bytes_eq, refl, sym, ap, ◌∙◌}
use Rattle.std.specs.Prelude.{slice_get}
use Rattle.sp_model.proofs.Lawful.{found_name}
use Rattle.sp_model.specs.Hydration.{find_function}
use Rattle.sp_model.specs.declared.declaration.FunctionDecl.{FunctionDecl}
use Rattle.hydrate_graph.specs.Numbers.{number_of, name_at, name_of}

find_if : (g : FunctionDecl) (gs : List FunctionDecl) (n : ℕ) (b : Bool) (rest : Option FunctionDecl) → rest ≡ slice_get gs n → (if b then Some g else rest) ≡ slice_get (g ∷ gs) (if b then 0 else suc n)
find_if g gs n true rest e = refl
find_if g gs n false rest e = e

-- the function of a name is that of the name's number
pub found_at : (name : List ℕ) (fs : List FunctionDecl) → find_function name fs ≡ slice_get fs (number_of fs name)
found_at name [] = refl
found_at name (g ∷ gs) = find_if g gs (number_of gs name) (bytes_eq g.name name) (find_function name gs) (found_at name gs)

-- the name of its number is the name, where it is declared
pub named_at : (name : List ℕ) (fs : List FunctionDecl) (f : FunctionDecl) → find_function name fs ≡ Some f → name_at fs (number_of fs name) ≡ name
named_at name fs f h = ap name_of (sym (found_at name fs) ∙ h) ∙ found_name name fs f h
