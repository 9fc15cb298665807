-- The greatest so far, and what is left to compare.
use Rattle.std.proofs.Common.{◌≡◌, drop, map}
use Rattle.std.specs.Prelude.{max, fold}
use Rattle.answer_text.specs.Columns.{escaped, characters}
use Rattle.answer_text.specs.Lines.{widest_of}
use Rattle.answer_text.proofs.line_text.widest_of.Given as goal

abbrev pub invariant-loop-name : goal.invariant-loop-name
invariant-loop-name l = fold max l.widest (map (λ name. characters (escaped name)) (drop l.name-index l.names)) ≡ widest_of l.names
