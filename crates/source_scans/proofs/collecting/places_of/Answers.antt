use Rattle.std.proofs.Common.{◌≡◌, ◌++◌, ◌∷◌, ◌+◌, map, drop, sym, ap, ◌∙◌}
use Rattle.source_scans.specs.Asking.{each_once, place_of}
use Rattle.source_scans.proofs.Places.{rest_is, place_turn}
use Rattle.source_scans.proofs.collecting.places_of.Goals as goal

pub loop-unit-preserved : goal.loop-unit-preserved
loop-unit-preserved c =
    let units = c.args.units.now in
    let n = c.loop-unit.unit-index in
    let u = c.unit-item.result in
    let found = c.loop-unit.found.keys in
    let all = each_once c.args.found.now.keys units in
    let left : drop n units ≡ u ∷ drop (n + 1) units = rest_is units n u c.loop-unit-test.true c.unit-item.is in
    let is : each_once found (u ∷ drop (n + 1) units) ≡ all = ap (each_once found) (sym left) ∙ c.loop-unit.invariant.found in
    record {
      found = ap (λ keys. each_once keys (drop (n + 1) units)) c.in_ok-place.ensures.found ∙ is;
      places = ap (λ places. places ++ map (place_of all) (drop (n + 1) units)) c.in-Ok.ensures.ok
          ∙ place_turn all found (drop (n + 1) units) u c.loop-unit.places (map (place_of all) units) c.in_ok-place.place is c.in_ok-place.ensures.place
          (ap (λ us. c.loop-unit.places ++ map (place_of all) us) (sym left) ∙ c.loop-unit.invariant.places);
    }
