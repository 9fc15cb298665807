use Rattle.std.proofs.Common.{refl}
use Rattle.sp_value.proofs.Computing.{cells}
use Rattle.sp_model.specs.Covers.{covers, rows_from}
use Rattle.sp_model.specs.Walk.{walk_at, scan_value}
use Rattle.worked_values.proofs.filtering.covered_scan.Goals as goal

pub returns-clause-kept_scan_is_such_a_scan : goal.returns-clause-kept_scan_is_such_a_scan
unfolding cells covers
returns-clause-kept_scan_is_such_a_scan c = (((refl, refl), (refl, refl)), ((refl, refl), (refl, refl)))

pub returns-clause-kept_rows_are_the_scans_own : goal.returns-clause-kept_rows_are_the_scans_own
unfolding cells rows_from walk_at scan_value
returns-clause-kept_rows_are_the_scans_own c = (refl, (refl, refl))

pub returns-clause-scan_drops_what_is_not_true : goal.returns-clause-scan_drops_what_is_not_true
unfolding cells walk_at scan_value
returns-clause-scan_drops_what_is_not_true c = refl
