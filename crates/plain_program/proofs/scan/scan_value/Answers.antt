use Rattle.plain_program.proofs.Versions.{at_version, at_bad_version}
use Rattle.plain_program.proofs.scan.scan_value.Goals as goal

pub returns-in_ok-walk-in-Is : goal.returns-in_ok-walk-in-Is
returns-in_ok-walk-in-Is g c = λ book are.
    at_version book c.args.table.now c.args.request.now c.args.version.now (g.R.Replies.answers c.args.replies.now) c.in-Is.field-0 c.in_ok-walk-in-Is.walk c.walk_value.result c.in-Is.is are
    c.in_ok-walk-in-Is.ensures c.walk_value.ensures

pub returns-in_ok-copy-in-Bad : goal.returns-in_ok-copy-in-Bad
returns-in_ok-copy-in-Bad g c = λ book are.
    at_bad_version book c.args.table.now c.args.request.now c.args.version.now c.in-Bad.text c.in_ok-copy-in-Bad.field-0 c.in-Bad.is c.in_ok-copy-in-Bad.ensures
