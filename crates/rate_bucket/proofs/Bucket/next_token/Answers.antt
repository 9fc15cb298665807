use Rattle.std.proofs.Common.{◌≡◌, ◌*◌, ◌≤◌, ◌-◌, ap, arith}
use Rattle.rate_bucket.specs.Windows.{Meter}
use Rattle.rate_bucket.proofs.Excess.{token_now, token_later, token_is_law, one_token, next_is}
use Rattle.rate_bucket.proofs.Bucket.next_token.Goals as goal

pub returns-then-self-room : goal.returns-then-self-room
returns-then-self-room c =
    let last : c.self.inside.last ≡ c.args.self.now.last = ap (λ (m : Meter). m.last) c.self.view_is in
    let room : c.self.inside.debt ≤ c.self.inside.size * c.self.inside.per - c.self.inside.per = rw (c.from.ensures, c.from-2.ensures, c.from-3.ensures) at c.if-self-room.true in
    let one = one_token c.self.inside.per c.self.inside.size c.self.invariant.0 in
    let first = token_now (record { rate = record { size = c.self.inside.size; fill = c.self.inside.fill; per = c.self.inside.per }; debt = c.self.inside.debt; last = c.self.inside.last }) c.args.tick (omega arith) in
    rw (← c.self.view_is) (record { token = first; law = λ gs h. token_is_law _ gs c.args.tick _ h (omega arith) c.self.invariant.0 c.self.invariant.2 first })

pub returns : goal.returns
returns c =
    let last : c.self.inside.last ≡ c.args.self.now.last = ap (λ (m : Meter). m.last) c.self.view_is in
    let since : c.self.inside.last ≤ c.args.tick = omega arith in
    let b : Meter = record { rate = record { size = c.self.inside.size; fill = c.self.inside.fill; per = c.self.inside.per }; debt = c.self.inside.debt; last = c.self.inside.last } in
    let is = next_is b c.args.tick c.max.result _ _ _ _ c.from.ensures c.from-2.ensures c.from-3.ensures c.from-fill.ensures c.max.ensures in
    let first = token_later b c.args.tick since c.self.invariant.0 c.self.invariant.1 in
    rw (← c.self.view_is) (rw is (record { token = first; law = λ gs h. token_is_law b gs c.args.tick _ h since c.self.invariant.0 c.self.invariant.2 first }))
