-- Whether a name that is left stands before it, or is seen, is whether one stands twice.
use Rattle.std.proofs.Common.{◌≡◌, [], drop, map}
use Rattle.decl_words.specs.Refusals.{repeats}
use Rattle.decl_core.proofs.repeats.repeats.Given as goal

abbrev pub invariant-loop-thing : goal.invariant-loop-thing
invariant-loop-thing g l = repeats l.seen (map g.T.Named.name_of (drop l.thing-index l.things)) ≡ repeats [] (map g.T.Named.name_of l.things)
