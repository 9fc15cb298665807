use Rattle.std.proofs.Common.{refl}
use Rattle.sp_value.proofs.Computing.{cells}
use Rattle.worked_values.proofs.pieces.calls.Goals as goal

pub returns-clause-ignored_is_taken : goal.returns-clause-ignored_is_taken
unfolding cells
returns-clause-ignored_is_taken c = refl

pub returns-clause-third_is_taken : goal.returns-clause-third_is_taken
unfolding cells
returns-clause-third_is_taken c = refl

pub returns-clause-fourth_is_too_late : goal.returns-clause-fourth_is_too_late
unfolding cells
returns-clause-fourth_is_too_late c = refl

pub returns-clause-without_ending_it_waits : goal.returns-clause-without_ending_it_waits
unfolding cells
returns-clause-without_ending_it_waits c = refl

pub returns-clause-own_rule_counts : goal.returns-clause-own_rule_counts
unfolding cells
returns-clause-own_rule_counts c = (refl, refl)

pub returns-clause-delays_grow : goal.returns-clause-delays_grow
unfolding cells
returns-clause-delays_grow c = ((refl, refl), ((refl, (refl, refl)), (refl, (refl, refl))))

pub returns-clause-delay_is_at_most_the_cap : goal.returns-clause-delay_is_at_most_the_cap
unfolding cells
returns-clause-delay_is_at_most_the_cap c = (refl, refl)
