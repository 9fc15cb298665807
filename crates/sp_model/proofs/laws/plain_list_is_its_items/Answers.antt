use Rattle.sp_model.proofs.PlainLists.{plain_list}
use Rattle.sp_model.proofs.laws.plain_list_is_its_items.Goals as goal

pub returns : goal.returns
returns c = plain_list
