use Rattle.std.proofs.Common.{map, ap, ◌∙◌}
use Rattle.run_lines.proofs.ChildLaws.{first_names}
use Rattle.run_lines.proofs.children.make_all.Goals as goal

pub returns-in_err-make_one-clause-names : goal.returns-in_err-make_one-clause-names
returns-in_err-make_one-clause-names g c =
    first_names (λ s. g.M.Kid.Child.connection s.link.child) c.make_one.new.slots.items c.args.connections.now c.loop-connection.connection-index
    (ap (map (λ s. g.M.Kid.Child.connection s.link.child)) c.in_err-make_one.ensures.err ∙ c.loop-connection.invariant.names)
