use Rattle.one_scan.proofs.Begun.{sound_rests, sound_few}
use Rattle.one_scan.proofs.beginning.plan_of.Goals as goal

pub of-requires-clause-few : goal.of-requires-clause-few
of-requires-clause-few c = (sound_few c.args.table.now c.requires).0

pub of-requires-clause-rest : goal.of-requires-clause-rest
of-requires-clause-rest c = sound_rests c.args.table.now c.args.columns.now c.requires
