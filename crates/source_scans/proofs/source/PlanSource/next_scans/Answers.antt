use Rattle.std.proofs.Common.{◌≡◌, All, map, subst, sym, ap, ◌∙◌}
use Rattle.source_scans.specs.Asking.{request_of, requests_of, units_of}
use Rattle.source_scans.specs.Planned.{IsMadeBy}
use Rattle.source_scans.proofs.Made.{requests_are_made}
use Rattle.source_scans.proofs.source.PlanSource.next_scans.Goals as goal

pub returns-clause-made : goal.returns-clause-made
unfolding requests_of
returns-clause-made c =
    let s = c.args.self.now in
    let is : c.in_ok-requests.requests ≡ requests_of s c.args.left.now =
    c.in_ok-requests.ensures ∙ ap (map (request_of s)) (c.as_slice-2.ensures.keys ∙ c.in_ok-picks.ensures.found ∙ ap (units_of s) c.as_slice.ensures) in
    subst (All (IsMadeBy s)) (sym is) (requests_are_made s c.requires.planned c.args.left.now)
