use Rattle.hydrate_graph.specs.Graphs.{row_so_far}
use Rattle.worked_scans.proofs.Rows.{broken}
use Rattle.worked_scans.proofs.graph_cases.end_words.Goals as goal

pub cause-requires : goal.cause-requires
cause-requires c =
    let failed = c.in-Some-Fails in
    broken c.args.graph.now.plan.columns (row_so_far c.args.graph.now) failed.field-0 failed.column failed.field-0-is failed.ensures.exact
