use Rattle.std.proofs.Common.{refl}
use Rattle.sp_value.proofs.Computing.{cells}
use Rattle.worked_values.proofs.buckets.functions_of_buckets.Goals as goal

pub returns-clause-acl_of_no_item_is_null : goal.returns-clause-acl_of_no_item_is_null
unfolding cells
returns-clause-acl_of_no_item_is_null c = (refl, (refl, refl))

pub returns-clause-policy_is_called_with_the_acl : goal.returns-clause-policy_is_called_with_the_acl
unfolding cells
returns-clause-policy_is_called_with_the_acl c = (refl, (refl, refl))

pub returns-clause-first_failing_row_counts : goal.returns-clause-first_failing_row_counts
unfolding cells
returns-clause-first_failing_row_counts c = (refl, (refl, refl))

pub returns-clause-policy_fails_with_its_acl : goal.returns-clause-policy_fails_with_its_acl
unfolding cells
returns-clause-policy_fails_with_its_acl c = (refl, (refl, refl))

pub returns-clause-first_failing_column_counts : goal.returns-clause-first_failing_column_counts
unfolding cells
returns-clause-first_failing_column_counts c = refl

pub returns-clause-third_attempt_is_taken : goal.returns-clause-third_attempt_is_taken
unfolding cells
returns-clause-third_attempt_is_taken c = (refl, (refl, refl))

pub returns-clause-third_attempt_is_the_last : goal.returns-clause-third_attempt_is_the_last
unfolding cells
returns-clause-third_attempt_is_the_last c = refl

pub returns-clause-two_acls_are_too_many : goal.returns-clause-two_acls_are_too_many
unfolding cells
returns-clause-two_acls_are_too_many c = refl

pub returns-clause-name_of_other_kind_is_bad : goal.returns-clause-name_of_other_kind_is_bad
unfolding cells
returns-clause-name_of_other_kind_is_bad c = refl
