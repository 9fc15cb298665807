use Rattle.std.proofs.Common.{◌≡◌, None, ℕ, List, refl, sym, ap, subst, ◌∙◌, arith}
use Rattle.std.specs.Prelude.{Option, IsSome}
use Rattle.rate_gate.specs.declared.instance.Instance.{Instance}
use Rattle.rate_gate.specs.Held.{held}
use Rattle.rate_gate.proofs.Standing.{stands_made}
use Rattle.rate_gate.proofs.limited.Limited.fill.Goals as goal

pub returns-clause-kept : goal.returns-clause-kept
returns-clause-kept c =
    let at = c.as_slice.result.now in
    let none : held c.args.self.now.instances at ≡ None = ap (λ (k : List ℕ). held c.args.self.now.instances k) c.as_slice.ensures.value ∙ c.requires.none in
    record {
      limiter = refl;
      room = omega arith;
      instances = λ key last ticks count ok st.
          stands_made c.args.self.now.limiter c.args.self.now.instances c.add.new.self at c.fresh-instance.result none c.in_ok-add.ensures.here c.in_ok-add.ensures.others c.fresh-instance.ensures key last ticks count st;
    }

pub returns-clause-made : goal.returns-clause-made
returns-clause-made c =
    subst (λ (k : List ℕ). IsSome (held c.add.new.self k)) c.as_slice.ensures.value (subst (λ (o : Option Instance). IsSome o) (sym c.in_ok-add.ensures.here) refl)
