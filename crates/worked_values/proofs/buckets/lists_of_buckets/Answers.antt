use Rattle.std.proofs.Common.{refl}
use Rattle.sp_value.proofs.Computing.{cells}
use Rattle.worked_values.proofs.buckets.lists_of_buckets.Goals as goal

pub returns-clause-list_gives_its_items : goal.returns-clause-list_gives_its_items
unfolding cells
returns-clause-list_gives_its_items c = (refl, ((refl, refl), refl))

pub returns-clause-limit_fills_the_walk : goal.returns-clause-limit_fills_the_walk
unfolding cells
returns-clause-limit_fills_the_walk c = (refl, (refl, refl))

pub returns-clause-unknown_answer_waits : goal.returns-clause-unknown_answer_waits
unfolding cells
returns-clause-unknown_answer_waits c = (refl, (refl, refl))

pub returns-clause-ignored_list_is_taken : goal.returns-clause-ignored_list_is_taken
unfolding cells
returns-clause-ignored_list_is_taken c = (refl, ((refl, refl), refl))

pub returns-clause-throttled_list_is_asked_again : goal.returns-clause-throttled_list_is_asked_again
unfolding cells
returns-clause-throttled_list_is_asked_again c = (refl, ((refl, refl), (refl, refl)))

pub returns-clause-dropped_rows_are_used : goal.returns-clause-dropped_rows_are_used
unfolding cells
returns-clause-dropped_rows_are_used c = (refl, (refl, refl))

pub returns-clause-limit_comes_before_the_ending : goal.returns-clause-limit_comes_before_the_ending
unfolding cells
returns-clause-limit_comes_before_the_ending c = (refl, (refl, refl))

pub returns-clause-other_error_fails_after_the_items : goal.returns-clause-other_error_fails_after_the_items
unfolding cells
returns-clause-other_error_fails_after_the_items c = refl
