use Rattle.std.proofs.Common.{refl}
use Rattle.sp_value.proofs.Computing.{cells}
use Rattle.sp_model.specs.Requests.{keys_for, fan_for, subset_for, are_sent}
use Rattle.worked_values.proofs.keyed.access.Goals as goal

pub returns-clause-tag_is_listed_by_bucket : goal.returns-clause-tag_is_listed_by_bucket
unfolding cells keys_for fan_for subset_for are_sent
returns-clause-tag_is_listed_by_bucket c = (refl, (refl, (refl, refl)))

pub returns-clause-event_is_listed_by_either : goal.returns-clause-event_is_listed_by_either
unfolding cells keys_for fan_for subset_for are_sent
returns-clause-event_is_listed_by_either c = (refl, refl)

pub returns-clause-item_is_got_by_id : goal.returns-clause-item_is_got_by_id
unfolding cells keys_for fan_for subset_for are_sent
returns-clause-item_is_got_by_id c = (refl, (refl, refl))

pub returns-clause-object_is_listed_by_parents : goal.returns-clause-object_is_listed_by_parents
unfolding cells keys_for fan_for subset_for are_sent
returns-clause-object_is_listed_by_parents c = refl

pub returns-clause-without_a_list_the_gets_keys_are_missing : goal.returns-clause-without_a_list_the_gets_keys_are_missing
unfolding cells keys_for fan_for subset_for are_sent
returns-clause-without_a_list_the_gets_keys_are_missing c = refl

pub returns-clause-fan_is_of_the_chosen_access : goal.returns-clause-fan_is_of_the_chosen_access
unfolding cells keys_for fan_for subset_for are_sent
returns-clause-fan_is_of_the_chosen_access c = ((refl, refl), (refl, refl))
