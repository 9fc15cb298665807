-- The conditions that a source's calls are sent with.
use Rattle.std.specs.Prelude.{ℕ, List, [], ◌∷◌, ◌++◌, map, length, codes, Option, Some, None}
use Rattle.std.specs.Fmt.{decimal}
use Rattle.std.specs.List.{filter_map}
use Rattle.sp_model.specs.Keys.{canonical}
use Rattle.sp_model.specs.declared.call.Condition.{Condition}
use Rattle.sp_world.specs.RequestLines.{operator_text}
use Rattle.sql_bind.specs.declared.bound.BoundSource.{BoundSource}
use Rattle.source_scans.specs.declared.source.Fan.{Fan}
use Rattle.source_scans.specs.declared.source.PlanCondition.{PlanCondition}
use Rattle.source_scans.specs.declared.source.PlanOperand.{PlanOperand}
use Rattle.source_scans.specs.declared.source.PlanOperand.TheVariants as operand
use Rattle.source_scans.specs.declared.source.PlanSource.{PlanSource}
use Rattle.answer_text.specs.Columns.{escaped}
use Rattle.explain_text.specs.Words.{literal_text, cell_text, listed_or_none}
use Rattle.explain_text.specs.declared.conditions.Sent.{Sent}
use Rattle.explain_text.specs.declared.conditions.Sent.TheVariants as sent

abbrev pub value_by : PlanCondition → PlanOperand → Option Condition
value_by c (operand.Literal x) = Some (record { column = c.column; operator = c.operator; value = x })
value_by c (operand.Left place) = None

-- a condition that compares with a value
abbrev pub value_of : PlanCondition → Option Condition
value_of c = value_by c c.operand

abbrev pub cell_by : PlanCondition → PlanOperand → Option Sent
cell_by c (operand.Literal x) = None
cell_by c (operand.Left place) = Some (sent.Cell c.column place)

-- a condition that compares with a cell of an earlier source
abbrev pub cell_of : PlanCondition → Option Sent
cell_of c = cell_by c c.operand

abbrev pub fanned : Option Fan → List Sent
fanned None = []
fanned (Some fan) = sent.Values fan.column (length fan.values) ∷ []

-- those with values, in canonical order and each once; those with earlier cells, in the order of the text; the list that is fanned out
abbrev pub sent_of : PlanSource → List Sent
sent_of p = map sent.Value (canonical (filter_map value_of p.conditions)) ++ (filter_map cell_of p.conditions ++ fanned p.fan)

abbrev pub value_text : Condition → List ℕ
value_text c = escaped c.column ++ (codes " " ++ (operator_text c.operator ++ (codes " " ++ literal_text c.value)))

abbrev pub sent_text : List BoundSource → List PlanSource → Sent → List ℕ
sent_text ss ps (sent.Value c) = value_text c
sent_text ss ps (sent.Cell column place) = escaped column ++ (codes " = " ++ cell_text ss ps place)
sent_text ss ps (sent.Values column count) = escaped column ++ (codes " in " ++ (decimal count ++ codes " values"))

abbrev pub conditions_text : List BoundSource → List PlanSource → PlanSource → List ℕ
conditions_text ss ps p = listed_or_none (map (sent_text ss ps) (sent_of p))
