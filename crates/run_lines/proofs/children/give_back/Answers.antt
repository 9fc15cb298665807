use Rattle.std.proofs.Common.{rules, ◌≡◌, ◌++◌, [], map, reverse, refl, sym, ap, ◌∙◌, arith}
use Rattle.std.proofs.lemmas.Grind.{common_steps}
use Rattle.std.proofs.lemmas.List.{append-nil, nil_from_length}
use Rattle.run_lines.proofs.ChildLaws.{none_came, one_came_back, came_all}
use Rattle.run_lines.proofs.children.give_back.Goals as goal

pub loop-init : goal.loop-init
loop-init g c = record {
  back = grind (arith, common_steps);
  heard = none_came g.M.Kid.Child g.W.World (g.M.Nursery.back c.args.nursery.now);
  made = refl;
  left = Prim.search rules;
  room = Prim.search rules;
}

pub loop-preserved : goal.loop-preserved
loop-preserved g c = record {
  back = grind (arith, common_steps);
  heard = one_came_back g.M.Kid.Child g.W.World (g.M.Nursery.back c.args.nursery.now) (g.M.Nursery.back c.loop.nursery) c.into_child.result (g.M.Nursery.back c.take_back.new.self) c.loop.invariant.heard c.take_back.ensures.back c.into_child.ensures.heard;
  made = Prim.search rules;
  left = Prim.search rules;
  room = grind (arith, common_steps);
}

pub returns-clause-heard : goal.returns-clause-heard
returns-clause-heard g c =
    let back = g.M.Nursery.back c.loop.nursery in
    let none : c.loop.slots.items ≡ [] = nil_from_length c.loop.slots.items (omega (arith, c.loop.invariant.left, c.loop-test.false, c.len-end.ensures, c.loop.auto.counter-end)) in
    let all = sym (append-nil back) ∙ ap (λ ss. back ++ map (λ s. s.link.child) (reverse ss)) (sym none) ∙ c.loop.invariant.back in
    came_all g.M.Kid.Child g.W.World (g.M.Nursery.back c.args.nursery.now) back (map (λ s. s.link.child) c.args.slots.items) c.loop.invariant.heard all
