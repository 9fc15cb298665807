use Rattle.std.proofs.Common.{refl, arith}
use Rattle.rate_bucket.proofs.Bucket.try_take.Goals as goal

pub returns-clause-exact : goal.returns-clause-exact
returns-clause-exact c = λ gs h. (λ _. ((c.next_token-next.ensures.law gs h).exact c.args.tick (omega arith)).0 (omega arith), λ _. refl)
