-- Sources that are planned one after another.
use Rattle.std.proofs.Common.{◌≡◌, ℕ, ◌+◌, List, [], ◌∷◌, ◌++◌, Some, length, sym, ap, ◌∙◌, subst, arith}
use Rattle.source_scans.specs.declared.source.PlanSource.{PlanSource}
use Rattle.sql_bind.specs.declared.bound.Bound.{Bound}
use Rattle.sql_bind.specs.declared.bound.BoundSource.{BoundSource}
use Rattle.statement_plan.specs.Plans.{AreSourcesOf, missing_or, missing_from, IsMissingIn, IsMissingFrom}
use Rattle.statement_plan.specs.Sources.{IsSourceOf}
use Rattle.statement_plan.specs.declared.plan.PlanFault.{PlanFault}
use Rattle.statement_plan.specs.declared.plan.PlanFault.TheVariants as fault

-- one more at the end
pub one_more : (b : Bound) (k n : ℕ) (ss : List BoundSource) (ps : List PlanSource) (s : BoundSource) (p : PlanSource) → n ≡ k + length ss
    → AreSourcesOf b k ss ps → IsSourceOf b n s p → AreSourcesOf b k (ss ++ s ∷ []) (ps ++ p ∷ [])
one_more b k n [] [] s p e h here = (subst (λ m. IsSourceOf b m s p) (e ∙ omega arith) here, tt)
one_more b k n [] (q ∷ ps) s p e h here = absurd h
one_more b k n (r ∷ ss) [] s p e h here = absurd h
one_more b k n (r ∷ ss) (q ∷ ps) s p e h here = (h.0, one_more b (k + 1) n ss ps s p (e ∙ omega arith) h.1 here)

-- a source that lacks nothing is passed
pub passed : (b : Bound) (k : ℕ) (s : BoundSource) (p : PlanSource) (ss : List BoundSource) → IsSourceOf b k s p → missing_from b k (s ∷ ss) ≡ missing_from b (k + 1) ss
passed b k s p ss h = ap (λ r. missing_or (k + 1) r (missing_from b (k + 1) ss)) h.access

-- the first that lacks something
pub stopped : (b : Bound) (k : ℕ) (s : BoundSource) (ss : List BoundSource) (f : PlanFault) → IsMissingIn b k s f → IsMissingFrom b k (s ∷ ss) f
stopped b k s ss (fault.MissingKeys source columns) h =
    ap (λ r. missing_or (k + 1) r (missing_from b (k + 1) ss)) h.1 ∙ ap (λ n. Some (n, columns)) (sym h.0)
stopped b k s ss fault.Memory h = tt

pub from_start : (b : Bound) (k : ℕ) (ss all : List BoundSource) (f : PlanFault) → missing_from b k ss ≡ missing_from b 0 all → IsMissingFrom b k ss f → IsMissingFrom b 0 all f
from_start b k ss all (fault.MissingKeys source columns) e h = sym e ∙ h
from_start b k ss all fault.Memory e h = tt
