use Rattle.std.proofs.Common.{◌≡◌, length, ap, ◌∙◌}
use Rattle.std.specs.List.{list_any}
use Rattle.hydrate_graph.specs.Planning.{reach_in, source_flag}
use Rattle.hydrate_graph.proofs.Wanting.{flags_more}
use Rattle.hydrate_graph.proofs.planning.wanted_flags.Goals as goal

pub loop-function-preserved : goal.loop-function-preserved
loop-function-preserved c =
    let fs = c.args.functions.now in
    let flag : c.some_source.result ≡ list_any (source_flag (reach_in (length fs) fs c.function-item.result.name)) c.args.sources.now =
    c.some_source.ensures ∙ ap (λ fl. list_any (source_flag fl) c.args.sources.now) (c.as_slice.ensures ∙ c.in_ok-reaching.ensures) in
    c.in_ok-push.ensures.ok ∙ flags_more (λ f. list_any (source_flag (reach_in (length fs) fs f.name)) c.args.sources.now) fs c.loop-function.function-index c.function-item.result c.loop-function.flags c.some_source.result c.loop-function-test.true c.function-item.is c.loop-function.invariant flag
