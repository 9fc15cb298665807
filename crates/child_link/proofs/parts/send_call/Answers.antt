use Rattle.std.proofs.Common.{◌+◌, ◌<◌, ◌^◌, ◌∙◌, false, refl, sym, ap, subst, arith}
use Rattle.call_jobs.specs.Jobs.{function_by}
use Rattle.sp_world.specs.RequestLines.{request_of}
use Rattle.child_link.specs.Open.{calls_of}
use Rattle.child_link.specs.Holds.{Holds}
use Rattle.child_link.proofs.Sending.{sent, not_sent}
use Rattle.child_link.specs.declared.flight.Flight.{Flight}
use Rattle.child_link.proofs.parts.send_call.Goals as goal

pub returns-in-Ok-clause-holds : goal.returns-in-Ok-clause-holds
returns-in-Ok-clause-holds g c =
    let p = c.args.parts.now in
    let q = c.args.prepared in
    let id = c.sent-id.result + 1 in
    let small : id < 2 ^ 63 = omega (arith, c.requires.small, c.sent-id.ensures) in
    let f : Flight = record { id = id; job = q.job; taken = 0; used = c.into_used.result; length = q.length } in
    let child = c.send-sent.new.self in
    subst (λ fs. Holds g.W.World.tells g.W.World.book (g.C.Child.log child) (g.C.Child.last child) (g.C.Child.gives child) p.kept p.up (calls_of fs)) (sym c.push_reserved.ensures.items)
    (sent g.W.World.tells g.W.World.book (g.C.Child.log p.child) (g.C.Child.last p.child) (g.C.Child.gives p.child) p.kept p.up p.flights.items c.requires.holds
    (g.C.Child.log child) (g.C.Child.last child) (g.C.Child.gives child) c.deref.result.now f (function_by q.job) refl
    (ap request_of (c.deref.ensures.value ∙ c.fill-line.ensures) ∙ q.reads id small)
    c.in-Ok.ensures.log c.send-sent.ensures.kept.2 c.send-sent.ensures.kept.1)

pub returns-clause-holds : goal.returns-clause-holds
returns-clause-holds g c =
    let p = c.args.parts.now in
    let q = c.args.prepared in
    let f : Flight = record { id = c.sent-id.result + 1; job = q.job; taken = 0; used = c.into_used.result; length = q.length } in
    let child = c.send-sent.new.self in
    subst (λ fs. Holds g.W.World.tells g.W.World.book (g.C.Child.log child) (g.C.Child.last child) (g.C.Child.gives child) p.kept false (calls_of fs)) (sym c.push_reserved.ensures.items)
    (not_sent g.W.World.tells g.W.World.book (g.C.Child.log p.child) (g.C.Child.last p.child) (g.C.Child.gives p.child) p.kept p.up p.flights.items c.requires.holds
    (g.C.Child.log child) (g.C.Child.last child) (g.C.Child.gives child) f refl c.send-sent.ensures.kept.2 c.send-sent.ensures.kept.1)
