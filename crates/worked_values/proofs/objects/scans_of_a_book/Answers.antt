use Rattle.std.proofs.Common.{refl}
use Rattle.sp_value.proofs.Computing.{cells}
use Rattle.sp_model.specs.Walk.{walk_at, scan_value}
use Rattle.worked_values.proofs.objects.scans_of_a_book.Goals as goal

pub returns-clause-book_has_a_scan_value : goal.returns-clause-book_has_a_scan_value
unfolding cells walk_at scan_value
returns-clause-book_has_a_scan_value c = refl

pub returns-clause-bad_version_fails_at_row_0 : goal.returns-clause-bad_version_fails_at_row_0
unfolding cells walk_at scan_value
returns-clause-bad_version_fails_at_row_0 c = refl
