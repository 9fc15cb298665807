use Rattle.std.proofs.Common.{◌≡◌, ◌+◌, List, sym, ap, subst, ◌∙◌}
use Rattle.std.specs.List.{slice_get, remove}
use Rattle.call_jobs.specs.declared.job.Job.{Job}
use Rattle.call_queue.specs.Lines.{LineView, in_line, not_due}
use Rattle.call_queue.specs.Order.{IsByDue, first_tick}
use Rattle.call_queue.specs.Picking.{sooner}
use Rattle.call_queue.specs.Turns.{IsTurn, AreHeld}
use Rattle.call_queue.proofs.Picks.{picked, none_ready, line_is}
use Rattle.call_queue.proofs.line.Line.pick.Goals as goal

pub returns-in-Granted : goal.returns-in-Granted
returns-in-Granted c =
    let ready : c.join_due.new.ready.items ≡ in_line c.args.tick c.args.self.now = c.join_due.ensures.ready ∙ ap (in_line c.args.tick) c.self.view_is in
    let waiting : c.join_due.new.waiting.items ≡ not_due c.args.tick c.args.self.now = c.join_due.ensures.waiting ∙ ap (not_due c.args.tick) c.self.view_is in
    let room : c.self.inside.room + 1 ≡ c.args.self.now.room + 1 = ap (λ (l : LineView). l.room + 1) c.self.view_is in
    picked c.args.gate.now c.args.tick c.args.self.now _ c.in-Granted.place c.take_out-job.result c.in-Granted.permit c.ask_in_turn.new.gate
    (subst (λ (jobs : List Job). IsTurn c.args.gate.now c.args.tick jobs c.in-Granted.place c.in-Granted.permit c.ask_in_turn.new.gate) ready c.in-Granted.ensures.turned)
    (ap (λ (jobs : List Job). slice_get jobs c.in-Granted.place) (sym ready) ∙ c.take_out-job.ensures.job)
    (line_is _ _ _ _ _ _ (c.take_out-job.ensures.items ∙ ap (λ (jobs : List Job). remove jobs c.in-Granted.place) ready) waiting room)

pub returns-in-Held : goal.returns-in-Held
returns-in-Held c =
    let ready : c.join_due.new.ready.items ≡ in_line c.args.tick c.args.self.now = c.join_due.ensures.ready ∙ ap (in_line c.args.tick) c.self.view_is in
    let waiting : c.join_due.new.waiting.items ≡ not_due c.args.tick c.args.self.now = c.join_due.ensures.waiting ∙ ap (not_due c.args.tick) c.self.view_is in
    let room : c.self.inside.room ≡ c.args.self.now.room = ap (λ (l : LineView). l.room) c.self.view_is in
    none_ready c.args.gate.now c.args.tick c.args.self.now _ c.sooner.result c.in-Held.next c.ask_in_turn.new.gate
    (subst IsByDue waiting c.join_due.ensures.order)
    (subst (λ (jobs : List Job). AreHeld c.args.gate.now c.args.tick jobs c.in-Held.next) ready c.in-Held.ensures.turned.0)
    c.in-Held.ensures.turned.1
    (c.sooner.ensures ∙ ap (sooner c.in-Held.next) (c.first_tick.ensures ∙ ap first_tick waiting))
    (line_is _ _ _ _ _ _ ready waiting room)
