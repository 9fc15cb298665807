use Rattle.std.proofs.Common.{◌≡◌, ◌+◌, length, false}
use Rattle.sql_lex.specs.Quotes.{closed}
use Rattle.sql_lex.proofs.Lexing.{joined}
use Rattle.sql_lex.proofs.quotes.closed.Given as goal

abbrev pub invariant-more : goal.invariant-more
invariant-more l = record {
  text : joined l.content.items l.read (closed l.is_second l.quote l.z) ≡ closed false l.quote l.initial.z;
  count : l.read + length l.z ≡ length l.initial.z;
}

abbrev pub decreases-more : goal.decreases-more
decreases-more l = length l.z
