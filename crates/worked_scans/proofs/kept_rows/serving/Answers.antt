use Rattle.worked_scans.proofs.Kept.{found_covers}
use Rattle.worked_scans.proofs.kept_rows.serving.Goals as goal

pub returns-in-Ok : goal.returns-in-Ok
returns-in-Ok c = found_covers c.args.request.now 0 c.args.cache.now.ttl c.args.cache.now.entries c.in-Ok.found c.in-Ok.ensures.found
