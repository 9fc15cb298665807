-- The lines of sources and their plans, one after another.
use Rattle.std.proofs.Common.{◌≡◌, ◌<◌, ℕ, ◌+◌, List, ◌∷◌, ◌++◌, length, drop, get_or, Some, sym, ap, ◌∙◌, append_assoc}
use Rattle.std.proofs.lemmas.List.{drop_more}
use Rattle.std.proofs.lemmas.Option.{slice_get_within, get_or_from_slice_get}
use Rattle.std.specs.Prelude.{slice_get}
use Rattle.source_scans.specs.declared.source.PlanSource.{PlanSource}
use Rattle.sql_bind.specs.declared.bound.BoundSource.{BoundSource}
use Rattle.explain_text.specs.Lines.{line_of, lines_from}

module _ (ss : List BoundSource) (ps : List PlanSource) where
  line_more : (n : ℕ) (sources : List BoundSource) (plans : List PlanSource) (i : ℕ) (s : BoundSource) (p : PlanSource) → i < length sources → s ≡ get_or sources i s
      → slice_get plans i ≡ Some p
      → lines_from ss ps n (drop i sources) (drop i plans) ≡ line_of ss ps n s p ++ lines_from ss ps (n + 1) (drop (i + 1) sources) (drop (i + 1) plans)
  line_more n sources plans i s p within is at =
      ap (λ (x : List BoundSource). lines_from ss ps n x (drop i plans)) (drop_more sources i s within ∙ ap (λ (x : BoundSource). x ∷ drop (i + 1) sources) (sym is))
      ∙ ap (λ (x : List PlanSource). lines_from ss ps n (s ∷ drop (i + 1) sources) x)
      (drop_more plans i p (slice_get_within plans i p at) ∙ ap (λ (x : PlanSource). x ∷ drop (i + 1) plans) (get_or_from_slice_get plans i p p at))

  pub lines_more : (n : ℕ) (sources : List BoundSource) (plans : List PlanSource) (i : ℕ) (s : BoundSource) (p : PlanSource) (before after whole : List ℕ)
      → i < length sources → s ≡ get_or sources i s → slice_get plans i ≡ Some p → after ≡ before ++ line_of ss ps n s p
      → before ++ lines_from ss ps n (drop i sources) (drop i plans) ≡ whole
      → after ++ lines_from ss ps (n + 1) (drop (i + 1) sources) (drop (i + 1) plans) ≡ whole
  lines_more n sources plans i s p before after whole within is at more so_far =
      ap (λ (x : List ℕ). x ++ lines_from ss ps (n + 1) (drop (i + 1) sources) (drop (i + 1) plans)) more
      ∙ append_assoc before (line_of ss ps n s p) (lines_from ss ps (n + 1) (drop (i + 1) sources) (drop (i + 1) plans))
      ∙ ap (λ (x : List ℕ). before ++ x) (sym (line_more n sources plans i s p within is at)) ∙ so_far
