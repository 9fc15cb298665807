-- The connections so far are declared and agree; the settings and the desk's are the same.
use Rattle.std.proofs.Common.{◌≡◌, take, IsTrue}
use Rattle.statement_words.specs.Runs.{IsLater}
use Rattle.declaration_run.specs.Declaring.{IsTold, AreRead, StayDeclared, AreDone}
use Rattle.declaration_run.proofs.declaring.declare_all.Given as goal

abbrev pub invariant-loop-place : goal.invariant-loop-place
invariant-loop-place g l = record {
  settings : l.catalog.settings ≡ l.fn.catalog.settings;
  told : IsTrue g.W.World.tells → IsTold g.W.World.book l.catalog;
  read : AreRead l.catalog;
  stay : StayDeclared l.fn.catalog l.catalog;
  done : AreDone l.catalog l.groups (take l.place l.connections);
  state : IsLater (g.D.Desk.state l.fn.desk) (g.D.Desk.state l.desk);
}
