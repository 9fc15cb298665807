use Rattle.std.proofs.Common.{◌≡◌, Some, refl, subst, ◌∙◌}
use Rattle.row_flight.specs.Jobs.{RowLists}
use Rattle.row_flight.proofs.flight.list_at.Goals as goal

pub returns : goal.returns
returns c = λ row is.
    let e : Some c.in-Some.row.now ≡ Some row = c.in-Some.ensures.value ∙ is in
    let same : c.in-Some.row.now ≡ row = cc in (
      c.list.new.self,
      record { changes = c.in-Some.ensures.shows c.list.new.self; used = c.in-Some.ensures.taken c.list.new.self; room = refl; last = refl },
      subst (λ r. RowLists c.args.frame.now c.args.scan c.args.key.now r c.list.new.self c.args.into.now c.list.new.into) same c.list.ensures.lists,
      c.list.ensures.all,
    )
