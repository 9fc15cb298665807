use Rattle.std.proofs.Common.{arith}
use Rattle.std.proofs.lemmas.Grind.{common_steps}
use Rattle.std.proofs.lemmas.Int.{ints, to_z-of_z}
use Rattle.load_gen.proofs.More.{sum_more}
use Rattle.load_gen.proofs.totals.sum_of.Goals as goal

pub loop-row-preserved : goal.loop-row-preserved
loop-row-preserved c =
    (grind (arith, ints, to_z-of_z, sum_more), omega (arith, ints), omega (arith, ints))
