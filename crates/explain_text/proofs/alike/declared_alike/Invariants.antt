-- The connections so far declare it.
use Rattle.std.proofs.Common.{◌≡◌, take}
use Rattle.explain_text.proofs.Alikes.{AlikeIn}
use Rattle.explain_text.proofs.alike.declared_alike.Given as goal

abbrev pub invariant-loop-connection : goal.invariant-loop-connection
invariant-loop-connection l = record {
  settings : l.catalog.settings ≡ l.settings;
  declared : AlikeIn (take l.connection-index l.settings.connections) l.declaration l.catalog;
}
