use Rattle.std.proofs.Common.{drop, List, [], IsTrue}
use Rattle.std.specs.Arc.{arc_value}
use Rattle.sp_value.specs.declared.cell.Cell.{Cell}
use Rattle.sp_model.specs.declared.call.Version.{Version}
use Rattle.scan_run.specs.Asked.{SubsetKeysFilter}
use Rattle.statement_words.specs.Advances.{Advances}
use Rattle.statement_words.specs.Answered.{IsAt}
use Rattle.statement_words.specs.Course.{Course, scan_all}
use Rattle.source_run.proofs.scans.run_scans.Given as goal

abbrev pub invariant-loop-request : goal.invariant-loop-request
invariant-loop-request g l =
    record {
      advances : Advances g.W.World.tells g.W.World.book l.settings (g.D.Desk.state l.fn.desk) (g.D.Desk.state l.desk) l.fn.notes l.notes;
      at : IsTrue g.W.World.tells → SubsetKeysFilter g.W.World.book → (whole : List Version → Course) (more : List (List (List Cell)) → List Version → Course)
          → IsAt whole l.fn.notes (λ vs. scan_all g.W.World.book (arc_value l.source.table) l.source.limit [] l.requests vs more)
          → IsAt whole l.notes (λ vs. scan_all g.W.World.book (arc_value l.source.table) l.missing l.lists.items (drop l.request-index l.requests) vs more);
    }
