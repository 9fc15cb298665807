-- The lines of a plan.
use Rattle.std.specs.Prelude.{ℕ, ◌+◌, List, [], ◌∷◌, ◌++◌, codes, Option, Some, None}
use Rattle.std.specs.Fmt.{decimal}
use Rattle.sp_model.specs.declared.scan.Access.{Access}
use Rattle.sql_bind.specs.declared.bound.Bound.{Bound}
use Rattle.sql_bind.specs.declared.bound.BoundSource.{BoundSource}
use Rattle.source_scans.specs.declared.source.PlanSource.{PlanSource}
use Rattle.statement_plan.specs.declared.plan.Plan.{Plan}
use Rattle.answer_text.specs.Notes.{access_word}
use Rattle.explain_text.specs.Words.{dotted, names_text}
use Rattle.explain_text.specs.Conditions.{conditions_text}
use Rattle.explain_text.specs.Functions.{functions_for}

-- the source's number, its table, and how its items are asked for
abbrev pub head_text : ℕ → BoundSource → Access → List ℕ
head_text number s access = (codes "scan " ++ (decimal number ++ codes ": ")) ++ (dotted s.connection s.table.name ++ (codes " " ++ access_word access))

abbrev pub limit_word : Option ℕ → List ℕ
limit_word None = codes "none"
limit_word (Some limit) = decimal limit

abbrev pub part_text : List ℕ → List ℕ → List ℕ
part_text name words = name ++ words

-- the line of one of these sources
abbrev pub line_of : List BoundSource → List PlanSource → ℕ → BoundSource → PlanSource → List ℕ
line_of ss ps number s p =
    head_text number s p.access
    ++ (part_text (codes " conditions ") (conditions_text ss ps p)
    ++ (part_text (codes " columns ") (names_text p.columns)
    ++ (part_text (codes " functions ") (names_text (functions_for p))
    ++ (part_text (codes " limit ") (limit_word p.limit)
    ++ codes "\n"))))

abbrev pub lines_from : List BoundSource → List PlanSource → ℕ → List BoundSource → List PlanSource → List ℕ
lines_from ss ps number [] plans = []
lines_from ss ps number (s ∷ sources) [] = []
lines_from ss ps number (s ∷ sources) (p ∷ plans) = line_of ss ps number s p ++ lines_from ss ps (number + 1) sources plans

-- a line for each source, which count from 1
abbrev pub plan_text : Bound → Plan → List ℕ
plan_text b plan = lines_from b.sources plan.sources 1 b.sources plan.sources
