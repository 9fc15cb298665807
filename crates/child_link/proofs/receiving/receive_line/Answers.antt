use Rattle.std.proofs.Common.{[], sym, ap, ◌∙◌, subst}
use Rattle.child_link.specs.Arrived.{GrewByGiven}
use Rattle.child_link.specs.Open.{calls_of, ahead}
use Rattle.child_link.specs.Ledger.{Moves}
use Rattle.child_link.proofs.Given.{settle_moves, no_misfit}
use Rattle.child_link.proofs.Looks.{looked_then}
use Rattle.child_link.proofs.receiving.receive_line.Goals as goal

pub returns-in-Ok-clause-counted : goal.returns-in-Ok-clause-counted
returns-in-Ok-clause-counted g c = c.settle.ensures.counted _ _

pub returns-in-Err-clause-misfit : goal.returns-in-Err-clause-misfit
returns-in-Err-clause-misfit g c = c.in-Err.ensures.fault _ _

pub returns-in-Ok-clause-ledger : goal.returns-in-Ok-clause-ledger
returns-in-Ok-clause-ledger g c = λ tells none memory.
    let old = c.args.parts.now in
    let mid = c.fill.new.parts in
    let new = c.settle.new.parts in
    let before = c.requires.holds.stands c.requires.up tells ∙ ap (λ k. ahead k (calls_of old.flights.items)) none ∙ sym (ap (λ o. calls_of o.items) c.fill.ensures.same) in
    let moved = settle_moves g.W.World.tells g.W.World.book (g.C.Child.log old.child) (g.C.Child.log mid.child) (g.C.Child.last mid.child) (g.C.Child.gives mid.child) mid.kept mid.up mid.flights.items new.flights.items c.settle.result
    tells before c.fill.ensures.holds c.in-Ok.ensures.up c.in-Ok.ensures.waits (c.in-Ok.ensures.grew tells none) c.settle.ensures.calls c.settle.ensures.err c.settle.ensures.misfit (c.settle.ensures.counted 1 0) memory in
    subst (λ o. Moves (g.C.Child.log old.child) (calls_of o.items) (g.C.Child.log new.child) (calls_of new.flights.items) [] []) c.fill.ensures.same
    (subst (λ k. Moves (g.C.Child.log old.child) (calls_of mid.flights.items) (g.C.Child.log k) (calls_of new.flights.items) [] []) (sym c.settle.ensures.child) moved)

pub returns-in-Ok-clause-honest : goal.returns-in-Ok-clause-honest
returns-in-Ok-clause-honest g c = λ tells keeps.
    let mid = c.fill.new.parts in
    no_misfit g.W.World.tells g.W.World.book (g.C.Child.log mid.child) (g.C.Child.last mid.child) (g.C.Child.gives mid.child) mid.kept mid.up mid.flights.items c.settle.result
    tells keeps c.fill.ensures.holds c.in-Ok.ensures.up c.in-Ok.ensures.waits c.settle.ensures.misfit

pub returns-in-Ok-clause-looked : goal.returns-in-Ok-clause-looked
returns-in-Ok-clause-looked g c = looked_then c.settle.result _ _ _ c.fill.ensures.looked c.settle.ensures.looked

pub returns-in-Ok-clause-log : goal.returns-in-Ok-clause-log
returns-in-Ok-clause-log g c = λ tells. subst (λ k. GrewByGiven (g.C.Child.log c.args.parts.now.child) (g.C.Child.log k)) (sym c.settle.ensures.child) (c.fill.ensures.log tells)
