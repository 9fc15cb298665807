use Rattle.std.proofs.Common.{◌≡◌, ◌+◌, arith}
use Rattle.sp_model.specs.declared.outcome.Row.TheVariants.{Broken}
use Rattle.scan_core.proofs.Moving.{failed_so}
use Rattle.scan_core.proofs.course.Course.fail_row.Goals as goal

pub returns-clause-state : goal.returns-clause-state
returns-clause-state g c =
    let number : c.in-Some.row ≡ c.args.self.now.walk.items + 1 = omega (arith, c.in-Some.ensures) in
    record {
      row = c.requires.first.row;
      rows = c.requires.first.rows;
      first = c.requires.first.first;
      seen = Broken c.args.column c.args.cause;
      known = c.requires.seen c.requires.first.row c.requires.first.rows c.requires.first.first;
      stands = failed_so c.args.scope.now c.args.self.now c.requires.first.rows c.in-Some.row c.args.column c.args.cause number;
    }
