use Rattle.sp_world.proofs.Rounds.{round_of}
use Rattle.sp_world.proofs.parts.text_of.Goals as goal

pub returns-clause-round : goal.returns-clause-round
returns-clause-round c = λ whole nests. round_of _ _ c.in_ok-text.ensures.order whole nests (c.in_ok-text.ensures.reads_back nests)
