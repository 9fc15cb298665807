use Rattle.std.proofs.Common.{ℕ, ◌+◌, ◌≤◌, List, [], ◌∷◌, ◌++◌, subst, sym, ap, ◌∙◌, arith}
use Rattle.rate_gate.specs.declared.entry.Entry.{Entry}
use Rattle.rate_gate.specs.declared.entry.Entry.TheVariants.{Grant}
use Rattle.rate_gate.specs.Journal.{IsNoted, last_tick}
use Rattle.rate_gate.proofs.Journals.{noted_grant}
use Rattle.rate_gate.proofs.journal.Journal.grant.Goals as goal

pub invariant_of-self-2 : goal.invariant_of-self-2
invariant_of-self-2 c =
    let j = c.self.inside.entries.items in
    let g = c.self.inside.granted in
    let e : Entry = Grant g c.args.tags c.args.tick in
    let since : last_tick j ≤ c.args.tick = subst (λ (x : List Entry). last_tick x ≤ c.args.tick) (sym c.self.view_is) c.requires in
    let granted = c.in-Some.ensures.1 in
    let opened = c.in-Some-checked_add.ensures.1 in
    let room = c.in-Some-checked_add-2.ensures.1 in
    let ok = c.in_ok-reserve.ensures.ok in
    let len = c.push_reserved.ensures.len in
    let cap = c.push_reserved.ensures.capacity in (
      subst (λ (x : List Entry). IsNoted x c.in-Some.granted c.in-Some-checked_add.opened c.args.tick)
          (sym (c.push_reserved.ensures.items ∙ ap (λ (x : List Entry). x ++ e ∷ []) c.in_ok-reserve.ensures.items))
          (subst (λ (n : ℕ). IsNoted (j ++ e ∷ []) n c.in-Some-checked_add.opened c.args.tick) (sym granted)
          (subst (λ (n : ℕ). IsNoted (j ++ e ∷ []) (g + 1) n c.args.tick) (sym opened)
          (noted_grant j g c.self.inside.opened c.self.inside.last c.args.tick c.args.tags c.self.invariant.0 since))),
      omega arith,
    )
