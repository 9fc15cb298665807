use Rattle.std.proofs.Common.{◌≡◌, rules, true, false, refl, sym, ◌∙◌}
use Rattle.sp_model.specs.declared.call.Asked.TheVariants as asks
use Rattle.scan_core.proofs.Seats.{some_same, unchanged}
use Rattle.scan_core.proofs.course.Course.hear_items_at.Goals as goal

pub hear_items-requires-clause-asked : goal.hear_items-requires-clause-asked
hear_items-requires-clause-asked g c = λ x is.
    let on : c.items_at.result ≡ true = search rules in
    let a = c.items_at.ensures.0 on in
    some_same c.args.self.now.items a.0 x (λ z. c.args.piece.0 ≡ asks.Call z.call.stream.call) a.1 is (sym c.asked.ensures.value ∙ a.2.call)

pub returns-clause-used : goal.returns-clause-used
returns-clause-used g c = λ e.
    let on : c.items_at.result ≡ true = search rules in
    let a = c.items_at.ensures.0 on in
    let n = c.hear_items.ensures.next e a.0 a.1 in (
      (a.0, a.1, record { at = record { slot_is = a.2.slot_is; generation = a.2.generation; call = sym c.asked.ensures.value ∙ a.2.call }; listed = n.0; next = n.1 }),
      c.hear_items.ensures.used e,
      c.hear_items.ensures.rest.0,
    )

pub returns-clause-late : goal.returns-clause-late
returns-clause-late g c = λ e. (λ w. w.2.next (c.hear_items.ensures.exact e w.0 w.1 w.2.listed), c.hear_items.ensures.late e)

pub returns-clause-kept : goal.returns-clause-kept
returns-clause-kept g c = λ n. record { state = c.hear_items.ensures.kept n; flight = c.hear_items.ensures.rest.0; end = c.hear_items.ensures.rest.1 }

pub returns-then-not-items_at-clause-late : goal.returns-then-not-items_at-clause-late
returns-then-not-items_at-clause-late g c = λ e. (
  λ w.
      let off : c.items_at.result ≡ false = search rules in
      let on : c.items_at.result ≡ true = c.items_at.ensures.1 (w.0, w.1, record { slot_is = w.2.at.slot_is; generation = w.2.at.generation; call = c.asked.ensures.value ∙ w.2.at.call }) in
      let bad : true ≡ false = sym on ∙ off in
      absurd (cc),
  unchanged c.args.self.now,
)

pub returns-then-not-items_at-clause-kept : goal.returns-then-not-items_at-clause-kept
returns-then-not-items_at-clause-kept g c = λ n. record { state = refl; flight = refl; end = refl }
