use Rattle.std.proofs.Common.{refl}
use Rattle.sp_value.proofs.Computing.{cells}
use Rattle.sp_model.specs.Covers.{covers, rows_from}
use Rattle.worked_values.proofs.serving.kept_scans.Goals as goal

pub returns-clause-complete_scan_serves : goal.returns-clause-complete_scan_serves
unfolding cells covers rows_from
returns-clause-complete_scan_serves c = ((refl, refl), (refl, refl))

pub returns-clause-full_scan_serves_up_to_its_limit : goal.returns-clause-full_scan_serves_up_to_its_limit
unfolding cells covers rows_from
returns-clause-full_scan_serves_up_to_its_limit c = ((refl, refl), ((refl, refl), (refl, refl)))

pub returns-clause-subset_condition_is_served : goal.returns-clause-subset_condition_is_served
unfolding cells covers rows_from
returns-clause-subset_condition_is_served c = (refl, (refl, (refl, refl)))

pub returns-clause-narrower_scan_serves_no_wider : goal.returns-clause-narrower_scan_serves_no_wider
unfolding cells covers rows_from
returns-clause-narrower_scan_serves_no_wider c = (refl, (refl, refl))

pub returns-clause-exact_condition_is_not_served : goal.returns-clause-exact_condition_is_not_served
unfolding cells covers rows_from
returns-clause-exact_condition_is_not_served c = refl

pub returns-clause-get_serves_its_own_conditions : goal.returns-clause-get_serves_its_own_conditions
unfolding cells covers rows_from
returns-clause-get_serves_its_own_conditions c = (refl, refl)

pub returns-clause-other_scans_serve_not : goal.returns-clause-other_scans_serve_not
unfolding cells covers rows_from
returns-clause-other_scans_serve_not c = ((refl, refl), (refl, refl))
