-- The digits are the count's, and other texts are none's.
use Rattle.std.proofs.Common.{◌∙◌, ◌<◌, ◌^◌, arith}
use Rattle.spelled_counts.proofs.Spelled.{not_first, spelled, unspelled}
use Rattle.spelled_counts.proofs.count.count_of.Goals as goal

pub returns-in-Ok : goal.returns-in-Ok
returns-in-Ok c =
    let text = c.args.digits.now in
    let zero = not_first 48 text _ c.starts_with.ensures.cases (omega arith) (omega arith) c.if-starts_with.false in
    let plus = not_first 43 text _ c.starts_with-else-starts_with.ensures.cases (omega arith) (omega arith) c.if-starts_with-2.false in
    c.within.ensures ∙ spelled (Unit {0}) c.args.most text c.in-Ok.count zero plus c.in-Ok.ensures.value.0

pub returns-in-Err : goal.returns-in-Err
returns-in-Err c =
    let text = c.args.digits.now in
    let plus = not_first 43 text _ c.starts_with-else-starts_with.ensures.cases (omega arith) (omega arith) c.if-starts_with-2.false in
    let small : c.args.most < 2 ^ 32 = omega (arith, c.ranges.most.fits) in
    unspelled _ c.args.most text c.in-Err.field-0 small plus c.in-Err.ensures.value.0
