-- A function's call, once the results of its dependencies are known.
use Rattle.std.proofs.Common.{◌≡◌, ◌-◌, ◌<◌, ◌≤◌, ℕ, zero, suc, List, drop, length, Option, Some, ap, ◌∙◌, arith}
use Rattle.sp_value.specs.declared.cell.Cell.{Cell}
use Rattle.sp_model.specs.Hydration.{results_of, with_results, find_function, called, hydrated_in}
use Rattle.sp_model.specs.declared.declaration.FunctionDecl.{FunctionDecl}
use Rattle.sp_model.specs.declared.outcome.Outcome.{Outcome}
use Rattle.sp_model.specs.declared.outcome.Results.{Results}

module _ (functions : List FunctionDecl) (call : FunctionDecl → List (List ℕ × Cell) → Option Outcome) (name : List ℕ) (f : FunctionDecl) where
  called_so : (n : ℕ) → Some f ≡ find_function name functions → with_results (results_of (hydrated_in n functions call) f.depends) (call f) ≡ hydrated_in (suc n) functions call name
  called_so n found = ap (λ g. called call (hydrated_in n functions call) g) found

  pub hydrated_step : (depth : ℕ) (known : List FunctionDecl) (depends : List (List ℕ)) (index : ℕ) (results : Results) (o : Option Outcome) → 0 < depth → Some f ≡ find_function name known → known ≡ functions
      → depends ≡ f.depends → length depends ≤ index → results ≡ results_of (hydrated_in (depth - 1) functions call) (drop (length depends - index) depends) → o ≡ with_results results (call f)
      → o ≡ hydrated_in depth functions call name
  hydrated_step zero known depends index results o h found same depends_are past all is = absurd (omega arith)
  hydrated_step (suc n) known depends index results o h found same depends_are past all is =
      let none : length depends - index ≡ 0 = omega arith in
      let fuel : suc n - 1 ≡ n = omega arith in
      let whole : results ≡ results_of (hydrated_in n functions call) f.depends =
      all ∙ ap (λ m. results_of (hydrated_in m functions call) (drop (length depends - index) depends)) fuel ∙ ap (λ m. results_of (hydrated_in n functions call) (drop m depends)) none
      ∙ ap (λ ds. results_of (hydrated_in n functions call) ds) depends_are in
      is ∙ ap (λ r. with_results r (call f)) whole ∙ called_so n (found ∙ ap (find_function name) same)
