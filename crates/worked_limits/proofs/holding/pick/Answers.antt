use Rattle.std.proofs.Common.{◌≡◌, List, [], ◌∷◌, ◌++◌, Option, Some, ap, sym, subst}
use Rattle.rate_gate.specs.Asking.{IsGranted}
use Rattle.rate_gate.specs.Journal.{IsOrdered, count_grants}
use Rattle.rate_gate.specs.Limits.{GateView}
use Rattle.rate_gate.specs.declared.entry.Entry.TheVariants.{Grant}
use Rattle.rate_gate.specs.declared.permit.Used.{Used}
use Rattle.worked_limits.specs.Held.{AreHeld}
use Rattle.worked_limits.proofs.Places.{granted}
use Rattle.worked_limits.proofs.holding.pick.Goals as goal

pub returns-in-Job : goal.returns-in-Job
returns-in-Job c =
    let g : IsGranted c.args.gate.now c.in-Job.job.tags c.args.tick c.pick.new.gate c.in-Job.permit = c.in-Job.ensures.picked.granted in
    let noted : c.pick.new.gate.journal ≡ c.args.gate.now.journal ++ Grant c.in-Job.permit.number c.in-Job.permit.tags c.args.tick ∷ [] = ap (λ (v : GateView). v.journal) g.after in
    let is : c.pick.new.gate.journal ≡ c.args.gate.now.journal ++ Grant c.into_used.result.number c.into_used.result.tags c.args.tick ∷ [] = cc in
    let number : c.into_used.result.number ≡ count_grants c.args.gate.now.journal = cc (g.number) in
    let ordered : IsOrdered c.args.gate.now.journal = subst IsOrdered c.journal.ensures.journal c.entries.ensures.ordered in
    let items : c.push_reserved.new.self.items ≡ c.args.held.now.items ++ Some c.into_used.result ∷ [] = cc in
    subst (λ (held : List (Option Used)). AreHeld c.pick.new.gate.journal held) (sym items) (granted _ _ _ _ _ ordered c.requires.held c.requires.range number is)
