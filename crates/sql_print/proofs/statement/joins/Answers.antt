use Rattle.std.proofs.Common.{◌∙◌}
use Rattle.sql_print.specs.Page.{state}
use Rattle.sql_print.proofs.Turns.{join_turn}
use Rattle.sql_print.proofs.statement.joins.Goals as goal

pub more-preserved : goal.more-preserved
more-preserved c = join_turn (state c.more.page) (state c.join.new.page) c.args.list.now c.more.member-index c.member-item.result c.more-test.true c.member-item.is c.in_ok-join.ensures ∙ c.more.invariant
