use Rattle.std.proofs.Common.{refl}
use Rattle.sp_value.proofs.Computing.{cells}
use Rattle.sp_model.specs.Walk.{walk_at, scan_value}
use Rattle.worked_values.proofs.objects.lists_by_parents.Goals as goal

pub returns-clause-each_owner_is_listed : goal.returns-clause-each_owner_is_listed
unfolding cells walk_at scan_value
returns-clause-each_owner_is_listed c = (refl, (refl, refl))

pub returns-clause-limit_ends_with_the_first_owner : goal.returns-clause-limit_ends_with_the_first_owner
unfolding cells walk_at scan_value
returns-clause-limit_ends_with_the_first_owner c = (refl, (refl, refl))
