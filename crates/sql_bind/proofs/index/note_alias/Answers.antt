use Rattle.std.proofs.Common.{ap, ◌∙◌}
use Rattle.sql_bind.specs.Sources.{alias_of}
use Rattle.sql_bind.proofs.Keeping.{source_named}
use Rattle.sql_bind.proofs.index.note_alias.Goals as goal

pub returns : goal.returns
returns c =
    source_named c.args.aliases.now c.insert.new.self c.args.all.now c.args.n c.index-all-n.result c.as_str.result.now c.requires.within c.index-all-n.is
    (c.as_str.ensures ∙ c.alias_of.ensures ∙ ap alias_of c.source.ensures) c.in_ok-insert.ensures.updates c.requires.later
