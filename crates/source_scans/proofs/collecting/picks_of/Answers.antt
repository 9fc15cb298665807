use Rattle.std.proofs.Common.{◌≡◌, ◌++◌, ◌∷◌, ◌+◌, List, map, drop, arith, sym, ap, ◌∙◌}
use Rattle.std.proofs.lemmas.Grind.{common_steps}
use Rattle.std.specs.List.{flat_map}
use Rattle.sp_value.specs.declared.cell.Cell.{Cell}
use Rattle.source_scans.specs.Asking.{each_once, units_at, units_of, place_of, picks_of}
use Rattle.source_scans.proofs.Places.{rest_is, row_turn, each_once_append}
use Rattle.source_scans.proofs.collecting.picks_of.Goals as goal

pub loop-row-init : goal.loop-row-init
unfolding units_of
loop-row-init c = record {
  found = ap (λ keys. each_once keys (flat_map (units_at c.args.source.now) c.args.left.now)) c.requires.empty;
  picks = ap (λ picks. picks ++ map (λ row. map (place_of (units_of c.args.source.now c.args.left.now)) (units_at c.args.source.now row)) c.args.left.now) c.new-picks.ensures;
}

pub loop-row-preserved : goal.loop-row-preserved
loop-row-preserved c =
    let s = c.args.source.now in
    let left = c.args.left.now in
    let n = c.loop-row.row-index in
    let row = c.row-item.result in
    let found = c.loop-row.found.keys in
    let all = units_of s left in
    let later = flat_map (units_at s) (drop (n + 1) left) in
    let pick = λ (r : List Cell). map (place_of all) (units_at s r) in
    let rest : drop n left ≡ row ∷ drop (n + 1) left = rest_is left n row c.loop-row-test.true c.row-item.is in
    let is : each_once found (units_at s row ++ later) ≡ all = ap (λ rows. each_once found (flat_map (units_at s) rows)) (sym rest) ∙ c.loop-row.invariant.found in
    let units : c.as_slice-in-loop-row.result.now ≡ units_at s row = c.as_slice-in-loop-row.ensures ∙ c.in_ok-units.ensures ∙ ap (units_at s) c.as_slice.ensures in
    record {
      found = ap (λ keys. each_once keys later) (c.in_ok-places.ensures.found ∙ ap (each_once found) units) ∙ sym (each_once_append found (units_at s row) later) ∙ is;
      picks = ap (λ picks. picks ++ map pick (drop (n + 1) left)) c.in-Ok.ensures.ok
          ∙ row_turn all found (units_at s row) later c.in_ok-places.places c.loop-row.picks (map pick (drop (n + 1) left)) (map pick left) is
          (c.in_ok-places.ensures.places ∙ ap (λ keys. map (place_of keys) c.as_slice-in-loop-row.result.now) c.in_ok-places.ensures.found ∙ ap (λ us. map (place_of (each_once found us)) us) units)
          (ap (λ rows. c.loop-row.picks ++ map pick rows) (sym rest) ∙ c.loop-row.invariant.picks);
    }

pub returns-clause-picks : goal.returns-clause-picks
unfolding picks_of
returns-clause-picks c = grind (arith, common_steps)
