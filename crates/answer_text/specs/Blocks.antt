-- The text of an answer.
use Rattle.std.specs.Prelude.{ℕ, List, codes}
use Rattle.sp_value.specs.declared.cell.Cell.{Cell}
use Rattle.sp_value.specs.declared.kind.Kind.{Kind}
use Rattle.answer_text.specs.Csv.{csv_text}
use Rattle.answer_text.specs.Errors.{error_line, error_text}
use Rattle.answer_text.specs.JsonLines.{json_text}
use Rattle.answer_text.specs.Lines.{line_text}
use Rattle.answer_text.specs.Table.{table_text}
use Rattle.answer_text.specs.declared.answer.Answer.{Answer}
use Rattle.answer_text.specs.declared.answer.Form.{Form}
use Rattle.answer_text.specs.declared.answer.Form.TheVariants as form
use Rattle.answer_text.specs.declared.answer.ShownEnd.{ShownEnd}
use Rattle.answer_text.specs.declared.answer.ShownEnd.TheVariants as end

-- rows in a form
abbrev pub rows_text : Form → List (List ℕ) → List Kind → List (List Cell) → List ℕ
rows_text form.Line names kinds rows = line_text names kinds rows
rows_text form.Csv names kinds rows = csv_text names kinds rows
rows_text form.Json names kinds rows = json_text names rows
rows_text form.Table names kinds rows = table_text names kinds rows

-- rows in that form, everything else as one line
abbrev pub end_text : Form → List (List ℕ) → List Kind → ShownEnd → List ℕ
end_text form names kinds (end.Rows rows) = rows_text form names kinds rows
end_text form names kinds end.Cleared = codes "cache cleared\n"
end_text form names kinds (end.Error e) = error_text e
end_text form names kinds end.Memory = error_line (codes "memory")

abbrev pub block_text : Form → Answer → List ℕ
block_text form answer = end_text form answer.names answer.kinds answer.end
