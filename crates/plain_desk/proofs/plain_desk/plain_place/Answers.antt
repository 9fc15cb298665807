use Rattle.std.proofs.Common.{◌≡◌, ◌+◌, ◌∙◌, Some, suc, ap, sym, arith}
use Rattle.std.specs.Prelude.{slice_get}
use Rattle.std.proofs.lemmas.Slice.Eq.{bytes_eq-Decides}
use Rattle.plain_desk.specs.Slots.{plain_names}
use Rattle.plain_desk.proofs.Places.{place_next, place_here}
use Rattle.plain_desk.proofs.plain_desk.plain_place.Goals as goal

pub returns-then-eq : goal.returns-then-eq
returns-then-eq c =
    let l = c.loop-connection in
    let here : l.place ≡ l.place + 0 = omega arith in
    ap (λ n. slice_get (plain_names c.args.connections.now) n) here
    ∙ l.invariant.rest 0 ∙ place_here c.args.connections.now l.connection-index c.connection-item.result c.loop-connection-test.true c.connection-item.is c.if-connection.false
    ∙ ap Some ((bytes_eq-Decides c.connection-item.result.name c.args.name.now).0 (sym c.eq.ensures ∙ c.if-eq.true))

pub loop-connection-preserved : goal.loop-connection-preserved
loop-connection-preserved c =
    let l = c.loop-connection in
    let more : c.saturating_add-place.result ≡ l.place + 1 = omega (arith, c.saturating_add-place.ensures, c.loop-connection-test.true, l.invariant.within) in
    record {
      rest = λ n.
          let on : c.saturating_add-place.result + n ≡ l.place + suc n = omega (arith, more) in
          ap (λ m. slice_get (plain_names c.args.connections.now) m) on
          ∙ l.invariant.rest (suc n) ∙ place_next c.args.connections.now l.connection-index c.connection-item.result n c.loop-connection-test.true c.connection-item.is c.if-connection.false;
      within = omega (arith, more, l.invariant.within);
    }
