-- The blocks so far answer the lines so far.
use Rattle.std.proofs.Common.{◌≡◌, IsTrue, take}
use Rattle.declaration_run.specs.Declaring.{IsTold, AreRead}
use Rattle.scan_run.specs.Asked.{SubsetKeysFilter}
use Rattle.statement_words.specs.Runs.{IsGone, IsLater}
use Rattle.statement_words.specs.Turns.{AreInTurn}
use Rattle.run_lines.specs.Blocks.{AreAnswers, AreByText, AreTrulyNoted, AllSpent, block_ticks}
use Rattle.run_lines.proofs.lines.answer_lines.Given as goal

abbrev pub invariant-loop-line : goal.invariant-loop-line
invariant-loop-line g l = record {
  settings : l.catalog.settings ≡ l.initial.catalog.settings;
  catalog : IsTrue g.W.World.tells → IsTold g.W.World.book l.catalog;
  read : AreRead l.catalog;
  told : IsTrue g.W.World.tells → SubsetKeysFilter g.W.World.book → AreAnswers g.W.World.book l.initial.catalog.settings (take l.line-index l.lines) l.blocks;
  text : AreByText l.initial.catalog.settings (take l.line-index l.lines) l.blocks;
  notes : IsTrue g.W.World.tells → AreTrulyNoted g.W.World.book l.initial.catalog.settings.options l.blocks;
  turns : AreInTurn (g.D.Desk.state l.initial.desk).tick (g.D.Desk.state l.desk).tick (block_ticks (take l.line-index l.lines) l.blocks);
  spent : AllSpent (IsGone (g.D.Desk.state l.desk)) l.blocks;
  state : IsLater (g.D.Desk.state l.initial.desk) (g.D.Desk.state l.desk);
}
