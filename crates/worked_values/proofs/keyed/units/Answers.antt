use Rattle.std.proofs.Common.{refl}
use Rattle.sp_value.proofs.Computing.{cells}
use Rattle.sp_model.specs.Requests.{keys_for, fan_for, subset_for, are_sent}
use Rattle.worked_values.proofs.keyed.units.Goals as goal

pub returns-clause-fan_has_each_value_once : goal.returns-clause-fan_has_each_value_once
unfolding cells keys_for fan_for subset_for are_sent
returns-clause-fan_has_each_value_once c = (refl, refl)

pub returns-clause-two_values_of_one_key_make_no_scan : goal.returns-clause-two_values_of_one_key_make_no_scan
unfolding cells keys_for fan_for subset_for are_sent
returns-clause-two_values_of_one_key_make_no_scan c = (refl, refl)

pub returns-clause-only_sent_conditions_count : goal.returns-clause-only_sent_conditions_count
unfolding cells keys_for fan_for subset_for are_sent
returns-clause-only_sent_conditions_count c = (refl, refl)

pub returns-clause-each_member_has_its_units : goal.returns-clause-each_member_has_its_units
unfolding cells keys_for fan_for subset_for are_sent
returns-clause-each_member_has_its_units c = (refl, refl)

pub returns-clause-ten_of_fifty_are_missing : goal.returns-clause-ten_of_fifty_are_missing
unfolding cells keys_for fan_for subset_for are_sent
returns-clause-ten_of_fifty_are_missing c = (refl, refl)
