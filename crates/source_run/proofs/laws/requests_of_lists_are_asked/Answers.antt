use Rattle.std.specs.Arc.{arc_value}
use Rattle.scan_run.proofs.Serving.{asked_of_list}
use Rattle.statement_words.specs.Course.{lowered}
use Rattle.source_run.proofs.Choosing.{ready_of}
use Rattle.source_run.proofs.Steps.{scan_lowered}
use Rattle.source_run.proofs.laws.requests_of_lists_are_asked.Goals as goal

pub returns : goal.returns
returns c tells book connections s r missing d chosen made positive e other =
    asked_of_list (arc_value s.table) d (lowered missing r) e other (scan_lowered tells book connections s r missing (ready_of tells book connections s chosen) made positive)
