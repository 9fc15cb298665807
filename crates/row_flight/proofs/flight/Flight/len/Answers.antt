use Rattle.std.proofs.Common.{sym, ◌∙◌}
use Rattle.row_flight.proofs.Pooling.{seated_length}
use Rattle.row_flight.proofs.flight.Flight.len.Goals as goal

pub returns : goal.returns
returns c = rw (← c.self.view_is) (c.len.ensures ∙ c.self.inside.order.ok.0 ∙ sym (seated_length c.self.inside.pool c.self.inside.order.items c.self.invariant.0.shows))
