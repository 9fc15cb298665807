-- Functions under their names.
use Rattle.std.proofs.Common.{◌≡◌, ℕ, Bool, true, false, ◌||◌, List, [], ◌∷◌, bytes_eq, inl, inr, refl, sym, ap, ◌∙◌, true≢false}
use Rattle.std.specs.List.{list_any}
use Rattle.std.proofs.Math.Bool.{or-true}
use Rattle.std.proofs.lemmas.Slice.Eq.{bytes_eq-Decides}
use Rattle.sp_model.specs.declared.declaration.FunctionDecl.{FunctionDecl}
use Rattle.sp_model.specs.Hydration.{names_of_functions}
use Rattle.sp_model.specs.Names.{has_name}
use Rattle.decl_words.specs.Refusals.{is_unknown, depends_on_unknown}
use Rattle.decl_words.proofs.Lists.{In, In-none, not-false-is}

pub named : (functions : List FunctionDecl) (name : List ℕ) → has_name (names_of_functions functions) name ≡ true
    → (g : FunctionDecl) × (In g functions × (g.name ≡ name))
named [] name h = absurd (true≢false (sym h))
named (f ∷ fs) name h = by (named fs name) (bytes_eq name f.name) refl h
  where
    by : (has_name (names_of_functions fs) name ≡ true → (g : FunctionDecl) × (In g fs × (g.name ≡ name))) → (b : Bool) → bytes_eq name f.name ≡ b → (b || has_name (names_of_functions fs) name) ≡ true → (g : FunctionDecl) × (In g (f ∷ fs) × (g.name ≡ name))
    by rest true e h = (f, (inl refl, sym ((bytes_eq-Decides name f.name).0 e)))
    by rest false e h = let r = rest h in (r.0, (inr r.1.0, r.1.1))

pub has_name-In : (functions : List FunctionDecl) (g : FunctionDecl) → In g functions → has_name (names_of_functions functions) g.name ≡ true
has_name-In [] g h = absurd h
has_name-In (f ∷ fs) g (inl h) = ap (λ b. b || has_name (names_of_functions fs) g.name) ((bytes_eq-Decides g.name f.name).1 (ap (λ x. x.name) h))
has_name-In (f ∷ fs) g (inr h) = ap (λ b. bytes_eq g.name f.name || b) (has_name-In fs g h) ∙ or-true (bytes_eq g.name f.name)

-- each dependency of a function is declared
pub dependency-known : (functions : List FunctionDecl) → list_any (depends_on_unknown (names_of_functions functions)) functions ≡ false
    → (g : FunctionDecl) → In g functions → (d : List ℕ) → In d g.depends → has_name (names_of_functions functions) d ≡ true
dependency-known functions known g there d at =
    not-false-is (has_name (names_of_functions functions) d) (In-none (is_unknown (names_of_functions functions)) g.depends d (In-none (depends_on_unknown (names_of_functions functions)) functions g known there) at)
