use Rattle.std.proofs.Common.{◌≡◌, ◌≤◌, ◌^◌, drop}
use Rattle.sql_lex.specs.Lex.{value_from}
use Rattle.sql_lex.proofs.lexer.value.Given as goal

abbrev pub invariant-loop-d : goal.invariant-loop-d
invariant-loop-d l = record {
  value : value_from l.value (drop l.d-index l.digits) ≡ value_from 0 l.digits;
  below : l.value ≤ 2 ^ 63;
}
