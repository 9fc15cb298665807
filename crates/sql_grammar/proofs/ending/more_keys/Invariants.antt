use Rattle.std.proofs.Common.{◌≡◌, [], ◌∷◌, length}
use Rattle.sql_lex.specs.declared.token.Kind.TheVariants as Kind
use Rattle.sql_grammar.specs.Parser.{with_front, more_at, key_at}
use Rattle.sql_grammar.proofs.ending.more_keys.Given as goal

-- what was found and what is to come is what the first and all after it are
abbrev pub invariant-more : goal.invariant-more
invariant-more l = with_front l.found (more_at Kind.Comma key_at l.rest) ≡ with_front (l.fn.first ∷ []) (more_at Kind.Comma key_at l.tokens)

abbrev pub decreases-more : goal.decreases-more
decreases-more l = length l.rest
