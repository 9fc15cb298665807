use Rattle.std.proofs.Common.{◌≡◌, false, get_or, bytes_eq, ◌∙◌, sym, ap, add-one}
use Rattle.sp_value.proofs.Zips.{value_past}
use Rattle.sp_value.proofs.members.find.Goals as goal

pub loop-index-preserved : goal.loop-index-preserved
loop-index-preserved g c =
    let known = c.index-names-index.result in
    let name = c.args.name.now in
    let other : bytes_eq (get_or c.args.names.now c.loop-index.index known) name ≡ false = ap (λ n. bytes_eq n name) (sym c.index-names-index.is ∙ sym c.as_str.ensures) ∙ sym c.eq.ensures ∙ c.if-eq.false in
    rw add-one (value_past name c.args.names.now c.args.values.now c.loop-index.index known c.requires c.loop-index-test.true other ∙ c.loop-index.invariant)
