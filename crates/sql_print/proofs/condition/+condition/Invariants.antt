use Rattle.std.proofs.Common.{◌≡◌, drop, map}
use Rattle.sql_lex.specs.declared.token.Kind.TheVariants as k
use Rattle.sql_print.specs.Said.{between}
use Rattle.sql_print.specs.Spelling.{writes}
use Rattle.sql_print.specs.Page.{state}
use Rattle.sql_print.proofs.SaidLaws.{tail_said, or_said, and_said}
use Rattle.sql_print.proofs.condition.+condition.Given as goal

abbrev pub invariant-disjuncts-more : goal.invariant-disjuncts-more
invariant-disjuncts-more l = writes (state l.page) (tail_said k.Or l.i (map or_said (drop l.i l.members))) ≡ writes (state l.initial.page) (between k.Or (map or_said l.members))

abbrev pub invariant-conjuncts-more : goal.invariant-conjuncts-more
invariant-conjuncts-more l = writes (state l.page) (tail_said k.And l.i (map and_said (drop l.i l.members))) ≡ writes (state l.initial.page) (between k.And (map and_said l.members))
