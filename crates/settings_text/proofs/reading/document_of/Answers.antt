use Rattle.settings_text.proofs.Documents.{document_of-no_text, document_of-text}
use Rattle.settings_text.proofs.reading.document_of.Goals as goal

pub returns-in_default : goal.returns-in_default
returns-in_default c = document_of-no_text _ c.in_default.ensures.cases.0

pub returns-in-Ok-table_from_str : goal.returns-in-Ok-table_from_str
returns-in-Ok-table_from_str c =
    document_of-text _ _ c.in-Ok-table_from_str.table c.in-Ok.ensures.cases.0 c.in-Ok.ensures.cases.1 c.in-Ok-table_from_str.ensures.ok
