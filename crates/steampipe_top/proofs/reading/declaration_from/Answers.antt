-- A refusal of the JSON, by its words.
use Rattle.serde_json.specs.View.{view}
use Rattle.steampipe_top.proofs.Endings.{by_declaration}
use Rattle.steampipe_top.proofs.reading.declaration_from.Goals as goal

pub returns-clause-end : goal.returns-clause-end
returns-clause-end c =
    by_declaration c.args.bytes.now c.refused_declaration.result (view c.in-Ok.value) c.in-Ok.ensures.ok
    c.read_declaration.result c.in-Err-read_declaration.fault c.in-Err-read_declaration.is c.read_declaration.ensures.answer c.refused_declaration.ensures
