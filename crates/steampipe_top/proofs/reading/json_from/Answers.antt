-- Bytes that are no text, and the JSON of a text.
use Rattle.std.proofs.Common.{◌∙◌}
use Rattle.steampipe_top.proofs.Endings.{by_json}
use Rattle.steampipe_top.proofs.JsonTexts.{no_text, as_text}
use Rattle.steampipe_top.proofs.reading.json_from.Goals as goal

pub returns-in_default-clause-end : goal.returns-in_default-clause-end
returns-in_default-clause-end c = by_json c.args.bytes.now c.refused.result (no_text _ c.in_default.ensures.cases.0) c.refused.ensures

pub returns-in-Ok-from_str-clause-ok : goal.returns-in-Ok-from_str-clause-ok
returns-in-Ok-from_str-clause-ok c = as_text _ _ c.in-Ok.ensures.cases.0 c.in-Ok.ensures.cases.1 ∙ c.in-Ok-from_str.ensures.ok
