-- It agrees in the groups so far.
use Rattle.std.proofs.Common.{take}
use Rattle.sql_bind.specs.Known.{declaration_of}
use Rattle.declaration_run.specs.Declaring.{Agrees}
use Rattle.declaration_run.proofs.agreeing.agrees.Given as goal

abbrev pub invariant-loop-group : goal.invariant-loop-group
invariant-loop-group l = Agrees (declaration_of l.catalog) l.connections (take l.group-index l.groups) l.connection
