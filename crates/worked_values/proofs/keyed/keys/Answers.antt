use Rattle.std.proofs.Common.{refl}
use Rattle.sp_value.proofs.Computing.{cells}
use Rattle.sp_model.specs.Requests.{keys_for, fan_for, subset_for, are_sent}
use Rattle.worked_values.proofs.keyed.keys.Goals as goal

pub returns-clause-only_keys_are_sent : goal.returns-clause-only_keys_are_sent
unfolding cells keys_for fan_for subset_for are_sent
returns-clause-only_keys_are_sent c = (refl, (refl, (refl, refl)))

pub returns-clause-sent_in_order : goal.returns-clause-sent_in_order
unfolding cells keys_for fan_for subset_for are_sent
returns-clause-sent_in_order c = refl

pub returns-clause-event_needs_region_or_zone : goal.returns-clause-event_needs_region_or_zone
unfolding cells keys_for fan_for subset_for are_sent
returns-clause-event_needs_region_or_zone c = (refl, (refl, refl))

pub returns-clause-tag_needs_bucket : goal.returns-clause-tag_needs_bucket
unfolding cells keys_for fan_for subset_for are_sent
returns-clause-tag_needs_bucket c = (refl, refl)
