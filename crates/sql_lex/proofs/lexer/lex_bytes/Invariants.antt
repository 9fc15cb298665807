use Rattle.std.proofs.Common.{◌≡◌, ◌++◌, ◌≤◌, ◌-◌, length, drop}
use Rattle.sql_lex.specs.Lex.{tokens_from}
use Rattle.sql_lex.proofs.lexer.lex_bytes.Given as goal

abbrev pub invariant-more : goal.invariant-more
invariant-more l = record {
  tokens : l.found.items ++ tokens_from 0 l.at (drop l.at l.bytes) ≡ tokens_from 0 0 l.bytes;
  within : l.at ≤ length l.bytes;
}

abbrev pub decreases-more : goal.decreases-more
decreases-more l = length l.bytes - l.at
