use Rattle.std.proofs.Common.{drop, map, List, [], ◌∷◌, IsTrue}
use Rattle.sp_model.specs.declared.call.Version.{Version}
use Rattle.source_run.specs.Sources.{source_of}
use Rattle.scan_run.specs.Asked.{SubsetKeysFilter}
use Rattle.statement_words.specs.Advances.{Advances}
use Rattle.statement_words.specs.Answered.{IsAt}
use Rattle.statement_words.specs.Course.{Course, StatementPlan, from_sources}
use Rattle.source_run.proofs.sources.join_sources.Given as goal

abbrev pub invariant-loop-source : goal.invariant-loop-source
invariant-loop-source g l =
    record {
      advances : Advances g.W.World.tells g.W.World.book l.settings (g.D.Desk.state l.fn.desk) (g.D.Desk.state l.desk) l.fn.notes l.notes;
      at : IsTrue g.W.World.tells → SubsetKeysFilter g.W.World.book → (plan : StatementPlan) (whole : List Version → Course)
          → IsAt whole l.fn.notes (λ vs. from_sources g.W.World.book plan (map source_of l.sources) ([] ∷ []) vs)
          → IsAt whole l.notes (λ vs. from_sources g.W.World.book plan (map source_of (drop l.source-index l.sources)) l.left vs);
    }
