use Rattle.std.proofs.Common.{◌≡◌, length, map}
use Rattle.sql_lex.specs.Lex.{lookup}
use Rattle.sql_lex.proofs.lexer.lookup.Given as goal

abbrev pub invariant-loop-words : goal.invariant-loop-words
invariant-loop-words l = lookup (map (λ k. (k.0.now, k.1)) l.words) l.word ≡ lookup (map (λ k. (k.0.now, k.1)) l.initial.words) l.word

abbrev pub decreases-loop-words : goal.decreases-loop-words
decreases-loop-words l = length l.words
