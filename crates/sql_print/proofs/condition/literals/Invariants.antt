use Rattle.std.proofs.Common.{◌≡◌, drop, map}
use Rattle.sql_lex.specs.declared.token.Kind.TheVariants as k
use Rattle.sql_print.specs.Said.{between, said_literal}
use Rattle.sql_print.specs.Spelling.{writes}
use Rattle.sql_print.specs.Page.{state}
use Rattle.sql_print.proofs.SaidLaws.{tail_said}
use Rattle.sql_print.proofs.condition.literals.Given as goal

abbrev pub invariant-more : goal.invariant-more
invariant-more l = writes (state l.page) (tail_said k.Comma l.i (map said_literal (drop l.i l.list))) ≡ writes (state l.initial.page) (between k.Comma (map said_literal l.list))
