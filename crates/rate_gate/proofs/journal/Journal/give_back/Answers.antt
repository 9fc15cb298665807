use Rattle.std.proofs.Common.{◌-◌, ◌≤◌, List, subst, sym, arith}
use Rattle.std.specs.Prelude.{IsSome}
use Rattle.rate_gate.specs.declared.entry.Entry.{Entry}
use Rattle.rate_gate.specs.Journal.{IsNoted, open_grants, tags_under, last_tick}
use Rattle.rate_gate.proofs.Journals.{noted_return, opened_some}
use Rattle.rate_gate.proofs.journal.Journal.give_back.Goals as goal

pub invariant_of-self : goal.invariant_of-self
invariant_of-self c =
    let j = c.self.inside.entries.items in
    let some : IsSome (tags_under c.args.number (open_grants j)) = subst (λ (x : List Entry). IsSome (tags_under c.args.number (open_grants x))) (sym c.self.view_is) c.requires.open in
    let since : last_tick j ≤ c.args.tick = subst (λ (x : List Entry). last_tick x ≤ c.args.tick) (sym c.self.view_is) c.requires.since in
    let pos = opened_some j c.self.inside.granted c.self.inside.opened c.self.inside.last c.args.number c.self.invariant.0 some in
    let fits = c.self.invariant.1 in
    let len = c.push_reserved.ensures.len in
    let cap = c.push_reserved.ensures.capacity in (
      subst (λ (x : List Entry). IsNoted x c.self.inside.granted (c.self.inside.opened - 1) c.args.tick) (sym c.push_reserved.ensures.items)
          (noted_return j c.self.inside.granted c.self.inside.opened c.self.inside.last c.args.number c.args.tick c.args.sent c.self.invariant.0 since some),
      omega arith,
    )
