use Rattle.sql_bind.proofs.Agreeing.{binds_by_its_connections}
use Rattle.sql_bind.proofs.laws.binds_by_its_connections.Goals as goal

pub returns : goal.returns
returns c = binds_by_its_connections
