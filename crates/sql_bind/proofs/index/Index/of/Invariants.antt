-- The sources from this one on are kept.
use Rattle.sql_bind.specs.Index.{NotesFrom, AliasesFrom}
use Rattle.sql_bind.proofs.index.Index.of.Given as goal

abbrev pub invariant-loop-n : goal.invariant-loop-n
invariant-loop-n l = NotesFrom l.notes l.n l.all × AliasesFrom l.aliases l.n l.all
