use Rattle.std.proofs.Common.{refl}
use Rattle.sp_value.proofs.Computing.{cells}
use Rattle.worked_values.proofs.lawful.lawful_calls.Goals as goal

pub returns-clause-attempts_are_of_the_rule : goal.returns-clause-attempts_are_of_the_rule
unfolding cells
returns-clause-attempts_are_of_the_rule c = ((refl, refl), ((refl, refl), (refl, refl)))

pub returns-clause-list_has_its_keys : goal.returns-clause-list_has_its_keys
unfolding cells
returns-clause-list_has_its_keys c = ((refl, (refl, refl)), ((refl, (refl, refl)), (refl, refl)))

pub returns-clause-parent_is_declared : goal.returns-clause-parent_is_declared
unfolding cells
returns-clause-parent_is_declared c = ((refl, refl), (refl, refl))

pub returns-clause-get_has_its_keys : goal.returns-clause-get_has_its_keys
unfolding cells
returns-clause-get_has_its_keys c = (refl, (refl, (refl, refl)))

pub returns-clause-function_has_its_results : goal.returns-clause-function_has_its_results
unfolding cells
returns-clause-function_has_its_results c = ((refl, refl), ((refl, refl), refl))

pub returns-clause-table_is_declared : goal.returns-clause-table_is_declared
unfolding cells
returns-clause-table_is_declared c = refl

pub returns-clause-request_names_the_declared_function : goal.returns-clause-request_names_the_declared_function
unfolding cells
returns-clause-request_names_the_declared_function c = ((refl, (refl, refl)), ((refl, refl), (refl, refl)))
