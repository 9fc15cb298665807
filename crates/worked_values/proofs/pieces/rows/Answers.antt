use Rattle.std.proofs.Common.{refl}
use Rattle.sp_value.proofs.Computing.{cells}
use Rattle.worked_values.proofs.pieces.rows.Goals as goal

pub returns-clause-policy_needs_acl : goal.returns-clause-policy_needs_acl
unfolding cells
returns-clause-policy_needs_acl c = refl

pub returns-clause-policy_fails_as_acl : goal.returns-clause-policy_fails_as_acl
unfolding cells
returns-clause-policy_fails_as_acl c = refl

pub returns-clause-functions_in_a_circle_never_end : goal.returns-clause-functions_in_a_circle_never_end
unfolding cells
returns-clause-functions_in_a_circle_never_end c = ((refl, refl), (refl, (refl, refl)))

pub returns-clause-missing_field_is_null : goal.returns-clause-missing_field_is_null
unfolding cells
returns-clause-missing_field_is_null c = refl

pub returns-clause-other_kind_is_bad : goal.returns-clause-other_kind_is_bad
unfolding cells
returns-clause-other_kind_is_bad c = refl

pub returns-clause-failed_attempt_is_dropped : goal.returns-clause-failed_attempt_is_dropped
unfolding cells
returns-clause-failed_attempt_is_dropped c = refl

pub returns-clause-get_gives_one : goal.returns-clause-get_gives_one
unfolding cells
returns-clause-get_gives_one c = refl
