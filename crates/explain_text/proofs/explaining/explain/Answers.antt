use Rattle.sql_bind.specs.Known.{declaration_of}
use Rattle.explain_text.proofs.Sounds.{bound_sound}
use Rattle.explain_text.proofs.explaining.explain.Goals as goal

pub lines-requires : goal.lines-requires
lines-requires c =
    bound_sound c.args.catalog.now.settings (declaration_of c.args.catalog.now) c.in_ok-statement.statement c.in_ok-bound.bound c.requires.sound c.in_ok-bound.ensures.ok
