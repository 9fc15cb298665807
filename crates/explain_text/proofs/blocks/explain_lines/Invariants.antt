-- The lines so far have their blocks.
use Rattle.std.proofs.Common.{take}
use Rattle.sql_bind.specs.Known.{declaration_of}
use Rattle.explain_text.specs.Blocks.{AreBlocks}
use Rattle.explain_text.proofs.blocks.explain_lines.Given as goal

abbrev pub invariant-loop-line : goal.invariant-loop-line
invariant-loop-line l = AreBlocks l.catalog.settings (declaration_of l.catalog) (take l.line-index l.lines) l.blocks.items
