use Rattle.std.proofs.Common.{[], refl, sym, subst}
use Rattle.std.specs.Prelude.{Option}
use Rattle.rate_gate.specs.declared.instance.Instance.{Instance}
use Rattle.rate_gate.specs.Keys.{by_key}
use Rattle.rate_gate.specs.Limits.{IsLimiter}
use Rattle.rate_gate.specs.Instances.{Stands}
use Rattle.rate_gate.proofs.Standing.{no_entries}
use Rattle.rate_gate.proofs.limited.Limited.new.Goals as goal

pub returns-clause-fits : goal.returns-clause-fits
returns-clause-fits c =
    let l = c.in_ok-limiter.limiter in
    record {
      limiter = subst IsLimiter (sym c.in_ok-limiter.ensures) c.requires;
      places = λ key. no_entries l.max_concurrency (by_key l key);
      stands = λ key. subst (λ (o : Option Instance). Stands l [] 0 0 o) (sym (c.none.ensures key)) (refl, refl);
      room = tt;
    }
