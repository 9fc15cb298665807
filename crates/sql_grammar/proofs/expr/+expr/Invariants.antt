use Rattle.std.proofs.Common.{◌≡◌, [], ◌∷◌, ◌+◌, ◌*◌, length}
use Rattle.sql_grammar.specs.Parser as spec
use Rattle.sql_grammar.specs.Parser.{with_front}
use Rattle.sql_lex.specs.declared.token.Kind.TheVariants as Kind
use Rattle.sql_grammar.proofs.expr.+expr.Given as goal

-- each function calls those below it at its own depth, and any at a lesser one
abbrev pub decreases-single : goal.decreases-single
decreases-single l = 6 * l.levels

abbrev pub decreases-conjuncts : goal.decreases-conjuncts
decreases-conjuncts l = 6 * l.levels + 1

abbrev pub decreases-both : goal.decreases-both
decreases-both l = 6 * l.levels + 2

abbrev pub decreases-disjuncts : goal.decreases-disjuncts
decreases-disjuncts l = 6 * l.levels + 3

abbrev pub decreases-expr : goal.decreases-expr
decreases-expr l = 6 * l.levels + 4

abbrev pub decreases-nested : goal.decreases-nested
decreases-nested l = 6 * l.levels + 5

-- what was found and what is to come is what the first and all after it are
abbrev pub invariant-conjuncts-more : goal.invariant-conjuncts-more
invariant-conjuncts-more l = with_front l.found (spec.more_at Kind.And (spec.single_at l.levels) l.rest) ≡ with_front (l.fn.first ∷ []) (spec.more_at Kind.And (spec.single_at l.levels) l.tokens)

abbrev pub decreases-conjuncts-more : goal.decreases-conjuncts-more
decreases-conjuncts-more l = length l.rest

abbrev pub invariant-disjuncts-more : goal.invariant-disjuncts-more
invariant-disjuncts-more l = with_front l.found (spec.more_at Kind.Or (spec.both_at (spec.single_at l.levels)) l.rest) ≡ with_front (l.fn.first ∷ []) (spec.more_at Kind.Or (spec.both_at (spec.single_at l.levels)) l.tokens)

abbrev pub decreases-disjuncts-more : goal.decreases-disjuncts-more
decreases-disjuncts-more l = length l.rest
