use Rattle.std.proofs.Common.{subst, sym}
use Rattle.book_file.specs.Sayable.{AreItems}
use Rattle.book_file.proofs.Items.{items_push}
use Rattle.book_file.proofs.attempt.add_item.Goals as goal

pub returns-in-Ok-clause-items : goal.returns-in-Ok-clause-items
returns-in-Ok-clause-items c =
    subst AreItems (sym c.in-Ok.ensures.ok) (items_push c.args.items.now c.args.item c.requires.items c.requires.item)
