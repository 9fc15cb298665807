use Rattle.std.proofs.Common.{◌∙◌, Some, refl, sym, ap, subst, ◌<◌}
use Rattle.std.specs.Arc.{arc_value}
use Rattle.std.specs.Prelude.{slice_get, length}
use Rattle.child_link.specs.Open.{calls_of}
use Rattle.sp_world.specs.ReplyLines.{seen}
use Rattle.child_link.proofs.Taking.{fit_within, told_here, within_here, small_here, item_calls, end_calls, arrived_item, arrived_end}
use Rattle.child_link.proofs.receiving.arrive.Goals as goal

pub flight_at-flight-requires : goal.flight_at-flight-requires
flight_at-flight-requires g c =
    subst (λ xs. c.args.at < length xs) (sym c.deref.ensures.value) (fit_within c.args.flights.now.items c.requires.fit.0 c.args.at (arc_value c.args.asked) (seen c.args.line) c.requires.fit.1)

pub tell-told-requires-clause-next : goal.tell-told-requires-clause-next
tell-told-requires-clause-next g c = λ tells.
    let fs = c.args.flights.now.items in
    let there = ap (λ xs. slice_get xs c.args.at) (sym c.deref.ensures.value) ∙ c.flight_at-flight.ensures in
    told_here g.W.World.book fs c.requires.fit.0 c.args.at (arc_value c.args.asked) (seen c.args.line) c.flight_at-flight.result.now c.requires.fit.1 there (c.requires.next tells)

pub tell-told-requires-clause-within : goal.tell-told-requires-clause-within
tell-told-requires-clause-within g c = λ tells.
    let fs = c.args.flights.now.items in
    let there = ap (λ xs. slice_get xs c.args.at) (sym c.deref.ensures.value) ∙ c.flight_at-flight.ensures in
    within_here g.W.World.book fs c.requires.fit.0 c.args.at (arc_value c.args.asked) (seen c.args.line) c.flight_at-flight.result.now c.requires.fit.1 there (c.requires.within tells)

pub count_item-requires-clause-within : goal.count_item-requires-clause-within
count_item-requires-clause-within g c = fit_within c.args.flights.now.items c.requires.fit.0 c.args.at (arc_value c.args.asked) (seen c.args.line) c.requires.fit.1

pub count_item-requires-clause-small : goal.count_item-requires-clause-small
count_item-requires-clause-small g c = small_here c.args.flights.now.items c.requires.fit.0 c.args.at (arc_value c.args.asked) (seen c.args.line) c.requires.fit.1 (sym c.is_item-more.ensures ∙ c.if-more.true)

pub returns-then-more-clause-calls : goal.returns-then-more-clause-calls
returns-then-more-clause-calls g c =
    let fs = c.args.flights.now.items in
    let there = ap (λ xs. slice_get xs c.args.at) (sym c.deref.ensures.value) ∙ c.flight_at-flight.ensures in
    ap calls_of (c.count_item.ensures.items c.flight_at-flight.result.now there)
    ∙ item_calls fs c.requires.fit.0 c.args.at (arc_value c.args.asked) (seen c.args.line) c.flight_at-flight.result.now c.requires.fit.1 there (sym c.is_item-more.ensures ∙ c.if-more.true)

pub returns-then-more-clause-arrival : goal.returns-then-more-clause-arrival
returns-then-more-clause-arrival g c = λ bytes fit.
    let fs = c.args.flights.now.items in
    let there = ap (λ xs. slice_get xs c.args.at) (sym c.deref.ensures.value) ∙ c.flight_at-flight.ensures in
    arrived_item fs c.count_item.new.flights.items bytes c.args.at (arc_value c.args.asked) (seen c.args.line) c.flight_at-flight.result.now _ fit there (sym c.is_item-more.ensures ∙ c.if-more.true)
    c.tell-told.ensures.asked c.tell-told.ensures.told refl refl refl (c.count_item.ensures.items c.flight_at-flight.result.now there)

pub close-used-requires : goal.close-used-requires
close-used-requires g c = fit_within c.args.flights.now.items c.requires.fit.0 c.args.at (arc_value c.args.asked) (seen c.args.line) c.requires.fit.1

pub returns-clause-calls : goal.returns-clause-calls
returns-clause-calls g c =
    ap calls_of c.close-used.ensures.items ∙ end_calls c.args.flights.now.items c.requires.fit.0 c.args.at (arc_value c.args.asked) (seen c.args.line) c.requires.fit.1 (sym c.is_item-more.ensures ∙ c.if-more.false)

pub returns-clause-arrival : goal.returns-clause-arrival
returns-clause-arrival g c = λ bytes fit.
    let fs = c.args.flights.now.items in
    let there = ap (λ xs. slice_get xs c.args.at) (sym c.deref.ensures.value) ∙ c.flight_at-flight.ensures in
    arrived_end fs c.close-used.new.flights.items bytes c.args.at (arc_value c.args.asked) (seen c.args.line) c.flight_at-flight.result.now _ fit there (sym c.is_item-more.ensures ∙ c.if-more.false)
    c.tell-told.ensures.asked c.tell-told.ensures.told refl refl (ap Some (c.close-used.ensures.used c.flight_at-flight.result.now there)) c.close-used.ensures.items
