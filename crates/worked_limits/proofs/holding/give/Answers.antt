use Rattle.std.proofs.Common.{◌≡◌, List, [], ◌∷◌, ◌++◌, Option, Some, true, ap, sym, subst}
use Rattle.std.specs.Prelude.{slice_get}
use Rattle.rate_gate.specs.Limits.{GateView}
use Rattle.rate_gate.specs.declared.entry.Entry.TheVariants.{Return}
use Rattle.rate_gate.specs.declared.permit.Used.{Used}
use Rattle.worked_limits.specs.Held.{AreHeld}
use Rattle.worked_limits.proofs.Places.{given_back}
use Rattle.worked_limits.proofs.holding.give.Goals as goal

pub returns-in-Some : goal.returns-in-Some
returns-in-Some c =
    let noted : c.give_back.new.self.journal ≡ c.args.gate.now.journal ++ Return c.in-Some.used.number c.args.tick true ∷ [] = ap (λ (v : GateView). v.journal) c.give_back.ensures in
    let there : slice_get c.args.held.now.items c.args.number ≡ Some (Some c.in-Some.used) = c.in-Some.ensures.there in
    subst (λ (held : List (Option Used)). AreHeld c.give_back.new.self.journal held) (sym c.take_at.ensures.left) (given_back _ _ _ _ _ _ c.requires.held there c.requires.range noted)
