-- A list that is read one by one.
use Rattle.std.proofs.Common.{◌≡◌, List, [], ◌∷◌, ◌++◌, Option, Some, None, option_map, sym, ap, ◌∙◌}
use Rattle.std.proofs.lemmas.List.{append_assoc}
use Rattle.decl_words.specs.Members.{cons_some}

-- one thing read, and then the rest, after those before
pub one_more : {T : Type 0} (xs : List T) (x : T) (o : Option T) (rest : Option (List T)) → o ≡ Some x
    → option_map (λ ys. xs ++ ys) (cons_some o rest) ≡ option_map (λ ys. (xs ++ x ∷ []) ++ ys) rest
one_more xs x o None e = ap (λ p. option_map (λ ys. xs ++ ys) (cons_some p None)) e
one_more xs x o (Some ys) e = ap (λ p. option_map (λ zs. xs ++ zs) (cons_some p (Some ys))) e ∙ ap Some (sym (append_assoc xs (x ∷ []) ys))
