use Rattle.std.proofs.Common.{◌≡◌, ◌+◌, ◌*◌, ◌≤◌, ◌-◌, ap, subst, sym, refl, arith}
use Rattle.rate_bucket.specs.Windows.{Meter, HasToken, IsHistory}
use Rattle.rate_bucket.proofs.Excess.{granted, law_at}
use Rattle.rate_bucket.proofs.Bucket.take.Goals as goal

pub invariant_of-self : goal.invariant_of-self
invariant_of-self c =
    let token : c.self.inside.debt - c.self.inside.fill * (c.args.tick - c.self.inside.last) + c.self.inside.per ≤ c.self.inside.size * c.self.inside.per =
    subst (λ (m : Meter). HasToken m c.args.tick) (sym c.self.view_is) c.requires.token in
    let debt : c.debt_after.result ≡ c.self.inside.debt - c.self.inside.fill * (c.args.tick - c.self.inside.last) = rw (c.from-fill.ensures) at c.debt_after.ensures in
    (c.self.invariant.0, c.self.invariant.1, c.self.invariant.2, rw (debt, c.from.ensures) token, c.requires.range)

pub returns-clause-history : goal.returns-clause-history
returns-clause-history c =
    λ gs h.
    let last : c.self.inside.last ≡ c.args.self.now.last = ap (λ (m : Meter). m.last) c.self.view_is in
    let since : c.self.inside.last ≤ c.args.tick = omega arith in
    let debt : c.debt_after.result ≡ c.self.inside.debt - c.self.inside.fill * (c.args.tick - c.self.inside.last) = rw (c.from-fill.ensures) at c.debt_after.ensures in
    let token = subst (λ (m : Meter). HasToken m c.args.tick) (sym c.self.view_is) c.requires.token in
    let b : Meter = record { rate = record { size = c.self.inside.size; fill = c.self.inside.fill; per = c.self.inside.per }; debt = c.self.inside.debt; last = c.self.inside.last } in
    let h' : IsHistory b gs = rw (c.self.view_is) h in
    granted b gs c.args.tick _ h' since c.self.invariant.2 ((law_at b gs c.args.tick h' since c.self.invariant.0 c.self.invariant.2).1 token) (rw (debt, c.from.ensures) refl)
