use Rattle.std.proofs.Common.{◌++◌, length, map, ap, ◌∙◌, arith}
use Rattle.std.proofs.lemmas.List.{length-append, length-map}
use Rattle.run_lines.specs.Calls.{calls_of}
use Rattle.run_lines.proofs.BlockLaws.{ok_maps, on_ok}
use Rattle.run_lines.proofs.CallLaws.{of_children}
use Rattle.run_lines.proofs.ChildLaws.{map_map, first_children, all_children, as_many}
use Rattle.run_lines.proofs.run.run_counted.Goals as goal

pub returns-in_default-clause-children : goal.returns-in_default-clause-children
returns-in_default-clause-children g c =
    let slots = c.make_all.new.slots.items in
    let children = map (λ s. s.link.child) slots in (
      children,
      record {
        after = c.give_back.ensures.back ∙ ap (λ b. b ++ children) c.make_all.ensures.back;
        of_first = first_children (λ s. s.link.child) g.M.Kid.Child.connection slots c.args.settings.now.connections c.as_slice-connections.result.now c.as_slice-connections.ensures c.make_all.ensures.names;
        heard = c.give_back.ensures.heard;
      },
    )

pub give_back-requires-2 : goal.give_back-requires-2
give_back-requires-2 g c =
    let alike =
    as_many (λ s. g.M.Kid.Child.connection s.link.child) c.make_all.new.slots.items c.run_over-blocks.result.slots.items c.as_slice-connections.result.now c.args.settings.now.connections
    c.as_slice-connections.ensures c.in-Ok.ensures.ok c.run_over-blocks.ensures.own
    in
    omega (arith, alike, c.make_all.ensures.made, ap length c.make_all.ensures.back, c.requires.all_back)

pub returns-clause-over : goal.returns-clause-over
returns-clause-over g c =
    let slots = c.run_over-blocks.result.slots.items in
    let children = map (λ s. s.link.child) slots in
    ok_maps c.run_over-blocks.result.blocks _ _
    (λ blocks lost. record {
      children = children;
      after = c.give_back-2.ensures.back ∙ ap (λ b. b ++ children) c.make_all.ensures.back;
      of_all = map_map (λ s. s.link.child) g.M.Kid.Child.connection slots ∙ c.run_over-blocks.ensures.own;
      lost = lost;
    })
    c.run_over-blocks.ensures.lost

pub returns-clause-calls : goal.returns-clause-calls
returns-clause-calls g c =
    let slots = c.run_over-blocks.result.slots.items in
    let children = map (λ s. s.link.child) slots in
    on_ok c.run_over-blocks.result.blocks (record {
      children = children;
      after = c.give_back-2.ensures.back ∙ ap (λ b. b ++ children) c.make_all.ensures.back;
      counted = c.calls_of-calls.ensures ∙ ap (calls_of (λ s. g.M.Kid.Child.sends s.link.child)) c.as_slice.ensures.value ∙ of_children (λ s. s.link.child) g.M.Kid.Child.sends slots;
    })

pub returns-clause-children : goal.returns-clause-children
returns-clause-children g c =
    let slots = c.run_over-blocks.result.slots.items in
    let children = map (λ s. s.link.child) slots in (
      children,
      record {
        after = c.give_back-2.ensures.back ∙ ap (λ b. b ++ children) c.make_all.ensures.back;
        of_first = all_children (λ s. s.link.child) g.M.Kid.Child.connection slots c.args.settings.now.connections c.run_over-blocks.ensures.own;
        heard = c.give_back-2.ensures.heard;
      },
    )

pub returns-clause-back : goal.returns-clause-back
returns-clause-back g c =
    let slots = c.run_over-blocks.result.slots.items in
    let alike =
    as_many (λ s. g.M.Kid.Child.connection s.link.child) c.make_all.new.slots.items slots c.as_slice-connections.result.now c.args.settings.now.connections c.as_slice-connections.ensures
    c.in-Ok.ensures.ok c.run_over-blocks.ensures.own
    in
    ap length c.give_back-2.ensures.back
    ∙ omega (arith, alike, length-append (g.M.Nursery.back c.make_all.new.nursery) (map (λ s. s.link.child) slots), length-map slots (λ s. s.link.child), c.make_all.ensures.made, ap length c.make_all.ensures.back, c.requires.all_back, c.give_back-2.ensures.made)
