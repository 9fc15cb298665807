use Rattle.command_words.specs.Words.{words_of}
use Rattle.steampipe_top.proofs.Answered.{memory_is_free}
use Rattle.steampipe_top.proofs.Loads.{came_by_load}
use Rattle.steampipe_top.proofs.top.steampipe.Goals as goal

pub returns-clause-usage : goal.returns-clause-usage
returns-clause-usage g c = memory_is_free (words_of c.args.words.now)

pub returns-in-Load-clause-children : goal.returns-in-Load-clause-children
returns-in-Load-clause-children g c =
    came_by_load g.M.Kid.Child g.W.World c.args.words.now (g.F.Shelf.file c.args.files.now) (g.M.Nursery.back c.args.nursery.now) (g.M.Nursery.back c.load.new.nursery) c.in-Load.count c.in-Load.form c.in-Load.ensures
    c.load.ensures.children
