use Rattle.std.proofs.Common.{◌≡◌, [], length}
use Rattle.sql_grammar.specs.Reading.{many_at}
use Rattle.sql_grammar.specs.Parser.{with_front, join_at, joinings}
use Rattle.sql_grammar.proofs.sources.joins.Given as goal

-- what was found and what is to come is the whole
abbrev pub invariant-more : goal.invariant-more
invariant-more l = with_front l.found (many_at joinings (join_at l.levels) l.rest) ≡ with_front [] (many_at joinings (join_at l.levels) l.tokens)

abbrev pub decreases-more : goal.decreases-more
decreases-more l = length l.rest
