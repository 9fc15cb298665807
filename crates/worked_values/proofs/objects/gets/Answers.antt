use Rattle.std.proofs.Common.{refl}
use Rattle.sp_value.proofs.Computing.{cells}
use Rattle.sp_model.specs.Walk.{walk_at, scan_value}
use Rattle.worked_values.proofs.objects.gets.Goals as goal

pub returns-clause-get_gives_its_item : goal.returns-clause-get_gives_its_item
unfolding cells walk_at scan_value
returns-clause-get_gives_its_item c = (refl, (refl, refl))

pub returns-clause-two_items_of_a_get_are_too_many : goal.returns-clause-two_items_of_a_get_are_too_many
unfolding cells walk_at scan_value
returns-clause-two_items_of_a_get_are_too_many c = refl

pub returns-clause-other_item_is_no_row : goal.returns-clause-other_item_is_no_row
unfolding cells walk_at scan_value
returns-clause-other_item_is_no_row c = refl
