-- Other lengths than two.
use Rattle.std.proofs.Common.{arith}
use Rattle.settings_text.proofs.Pairs.{pair_in-short, pair_in-long}
use Rattle.settings_text.proofs.from_toml.pair_in.Goals as goal

pub returns-in-empty : goal.returns-in-empty
returns-in-empty c = pair_in-short c.args.parts.now (omega (arith, c.in-empty.len_below))

pub returns-in-len3-up : goal.returns-in-len3-up
returns-in-len3-up c = pair_in-long c.args.parts.now (omega (arith, c.in-len3-up.len_at_least))
