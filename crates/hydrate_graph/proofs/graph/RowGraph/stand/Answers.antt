use Rattle.hydrate_graph.proofs.graph.RowGraph.stand.Goals as goal

pub returns : goal.returns
returns c = rw (← c.self.view_is) (rw (c.deref.ensures, c.as_slice.ensures) at c.stand.ensures)
