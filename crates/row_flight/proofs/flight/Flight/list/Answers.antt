use Rattle.std.specs.Arc.{arc_value}
use Rattle.row_flight.proofs.ListedCalls.{within_get}
use Rattle.row_flight.proofs.ListedRows.{flight_shows}
use Rattle.row_flight.proofs.Pooling.{seated_shows}
use Rattle.row_flight.proofs.flight.Flight.list.Goals as goal

pub list_all-requires : goal.list_all-requires
list_all-requires c = flight_shows (arc_value c.self.inside.plan) c.self.inside.window c.self.inside.drawn c.self.inside.pool c.self.inside.order.items c.self.invariant.0

pub invariant_of-self : goal.invariant_of-self
invariant_of-self c = ((c.list_all.ensures.lists (arc_value c.self.inside.plan) c.self.inside.window c.self.inside.drawn c.self.invariant.0).0, c.self.invariant.1, c.self.invariant.2)

pub invariant_of-self-2 : goal.invariant_of-self-2
invariant_of-self-2 c = ((c.list_all.ensures.lists (arc_value c.self.inside.plan) c.self.inside.window c.self.inside.drawn c.self.invariant.0).0, c.self.invariant.1, c.self.invariant.2)

pub returns-clause-all : goal.returns-clause-all
returns-clause-all c = λ place s at.
    let p = c.list_all.new.pool in
    let items = c.self.inside.order.items in
    let g = (c.list_all.ensures.lists (arc_value c.self.inside.plan) c.self.inside.window c.self.inside.drawn c.self.invariant.0).0 in
    let is = seated_shows p items place s at in
    let among = g.all s.key s.row is in
    c.in_ok-list_all.ensures.all among.0 s.key s.row (within_get items among.0 s.key among.1) among.1 is
