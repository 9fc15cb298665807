-- A line that is appended part by part.
use Rattle.std.proofs.Common.{◌≡◌, ℕ, List, ◌++◌, ap, ◌∙◌, append_assoc}

pub six_parts : (before a b c d e f at_a at_b at_c at_d at_e at_f : List ℕ) → at_a ≡ before ++ a → at_b ≡ at_a ++ b → at_c ≡ at_b ++ c → at_d ≡ at_c ++ d → at_e ≡ at_d ++ e
    → at_f ≡ at_e ++ f → at_f ≡ before ++ (a ++ (b ++ (c ++ (d ++ (e ++ f)))))
six_parts before a b c d e f at_a at_b at_c at_d at_e at_f is_a is_b is_c is_d is_e is_f =
    is_f ∙ ap (λ (x : List ℕ). x ++ f) (is_e ∙ ap (λ (x : List ℕ). x ++ e) (is_d ∙ ap (λ (x : List ℕ). x ++ d) (is_c ∙ ap (λ (x : List ℕ). x ++ c)
    (is_b ∙ ap (λ (x : List ℕ). x ++ b) is_a)))) ∙ simp append_assoc
