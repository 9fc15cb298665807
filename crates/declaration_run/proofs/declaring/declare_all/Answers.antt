use Rattle.std.proofs.Common.{◌∙◌}
use Rattle.statement_words.proofs.Stops.{later_then}
use Rattle.declaration_run.proofs.Catalogs.{stays_then}
use Rattle.declaration_run.proofs.declaring.declare_all.Goals as goal

pub returns-in_err-declare_at-clause-stay : goal.returns-in_err-declare_at-clause-stay
returns-in_err-declare_at-clause-stay g c = stays_then c.args.catalog.now c.loop-place.catalog c.declare_at.new.catalog c.loop-place.invariant.stay c.declare_at.ensures.stay

pub loop-place-preserved : goal.loop-place-preserved
loop-place-preserved g c = record {
  settings = c.declare_at.ensures.settings ∙ c.loop-place.invariant.settings;
  told = c.declare_at.ensures.told;
  read = c.declare_at.ensures.read;
  stay = stays_then c.args.catalog.now c.loop-place.catalog c.declare_at.new.catalog c.loop-place.invariant.stay c.declare_at.ensures.stay;
  done = c.in_ok-declare_at.ensures.done;
  state = later_then _ _ _ c.loop-place.invariant.state c.declare_at.ensures.state;
}
