-- The blocks of an input whose statements are explained.
use Rattle.std.specs.Prelude.{◌≡◌, ℕ, List, [], ◌∷◌, ◌++◌, codes, Option}
use Rattle.sp_model.specs.declared.declaration.Declaration.{Declaration}
use Rattle.sp_model.specs.declared.settings.Settings.{Settings}
use Rattle.answer_text.specs.Errors.{error_line, error_text}
use Rattle.answer_text.specs.declared.answer.ErrorLine.TheVariants as error
use Rattle.input_lines.specs.declared.line.Line.{Line}
use Rattle.input_lines.specs.declared.line.Line.TheVariants as line
use Rattle.sql_bind.specs.declared.fault.BindFault.{BindFault}
use Rattle.sql_bind.specs.declared.fault.BindFault.TheVariants as bind
use Rattle.sql_parser.specs.declared.fault.SqlFault.{SqlFault}
use Rattle.sql_parser.specs.declared.fault.SqlFault.TheVariants as sql
use Rattle.explain_text.specs.Explained.{IsExplained, IsRefused}
use Rattle.explain_text.specs.declared.blocks.Block.{Block}
use Rattle.explain_text.specs.declared.blocks.Block.TheVariants as block
use Rattle.explain_text.specs.declared.fault.ExplainFault.{ExplainFault}
use Rattle.explain_text.specs.declared.fault.ExplainFault.TheVariants as fault

-- ---- refusals

abbrev pub sql_block : SqlFault → Block
sql_block (sql.Syntax place) = block.Refused (error.Syntax place)
sql_block (sql.TooDeep place) = block.Refused (error.TooDeep place)
sql_block sql.Memory = block.Memory

abbrev pub bind_block : BindFault → Block
bind_block (bind.UnknownConnection place) = block.Refused (error.UnknownConnection place)
bind_block (bind.UnknownTable place) = block.Refused (error.UnknownTable place)
bind_block (bind.UnknownColumn place) = block.Refused (error.UnknownColumn place)
bind_block (bind.Ambiguous place) = block.Refused (error.Ambiguous place)
bind_block (bind.TypeMismatch place) = block.Refused (error.TypeMismatch place)
bind_block (bind.TooManyTables place) = block.Refused (error.TooManyTables place)
bind_block bind.Memory = block.Memory

-- the block of a refusal
abbrev pub refused_block : ExplainFault → Block
refused_block (fault.Sql f) = sql_block f
refused_block (fault.Bind f) = bind_block f
refused_block (fault.MissingKeys source columns) = block.Refused (error.MissingKeys source columns)
refused_block fault.Memory = block.Memory

-- ---- lines

-- what stands in a block: the lines of the statement's plan, or its refusal
abbrev pub IsTextBlock : Settings → (List ℕ → Option Declaration) → List ℕ → Block → Type 0
IsTextBlock settings declarations text (block.Lines lines) = IsExplained settings declarations text lines.items
IsTextBlock settings declarations text block.Cleared = ⊥
IsTextBlock settings declarations text block.Memory = Unit {0}
IsTextBlock settings declarations text (block.Refused e) = (f : ExplainFault) × IsRefused settings declarations text f × (refused_block f ≡ block.Refused e)

-- the block of a line of the input; sessions are passed over
abbrev pub IsBlock : Settings → (List ℕ → Option Declaration) → Line → Block → Type 0
IsBlock settings declarations (line.Statement session text) b = IsTextBlock settings declarations text b
IsBlock settings declarations (line.ClearCache session) b = b ≡ block.Cleared
IsBlock settings declarations line.BadForm b = b ≡ block.Refused error.LineForm

-- each line has its block
abbrev pub AreBlocks : Settings → (List ℕ → Option Declaration) → List Line → List Block → Type 0
AreBlocks settings declarations [] [] = Unit {0}
AreBlocks settings declarations (l ∷ ls) (b ∷ bs) = IsBlock settings declarations l b × AreBlocks settings declarations ls bs
AreBlocks settings declarations _ _ = ⊥

-- ---- texts

abbrev pub block_text : Block → List ℕ
block_text (block.Lines lines) = lines.items
block_text block.Cleared = codes "cache cleared\n"
block_text (block.Refused e) = error_text e
block_text block.Memory = error_line (codes "memory")

-- with an empty line between two of them
abbrev pub blocks_text : List Block → List ℕ
blocks_text [] = []
blocks_text (b ∷ []) = block_text b
blocks_text (b ∷ next ∷ bs) = block_text b ++ (codes "\n" ++ blocks_text (next ∷ bs))
