use Rattle.std.proofs.Common.{◌≡◌, drop}
use Rattle.sql_print.specs.Said.{said_joins}
use Rattle.sql_print.specs.Spelling.{writes}
use Rattle.sql_print.specs.Page.{state}
use Rattle.sql_print.proofs.statement.joins.Given as goal

abbrev pub invariant-more : goal.invariant-more
invariant-more l = writes (state l.page) (said_joins (drop l.member-index l.list)) ≡ writes (state l.initial.page) (said_joins l.list)
