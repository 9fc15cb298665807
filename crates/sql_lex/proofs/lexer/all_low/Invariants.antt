use Rattle.std.proofs.Common.{◌≡◌, length}
use Rattle.sql_lex.specs.Lex.{all_pass, is_low_word}
use Rattle.sql_lex.proofs.lexer.all_low.Given as goal

abbrev pub invariant-more : goal.invariant-more
invariant-more l = all_pass is_low_word l.z ≡ all_pass is_low_word l.initial.z

abbrev pub decreases-more : goal.decreases-more
decreases-more l = length l.z
