use Rattle.std.proofs.Common.{sym, ◌∙◌}
use Rattle.std.proofs.lemmas.Result.{err_from_is_err_and}
use Rattle.sql_grammar.specs.Parser.{join_at, joinings}
use Rattle.sql_grammar.proofs.Loops.{run_goes, run_ends, run_stops}
use Rattle.sql_grammar.proofs.Nested.{joins_is, join_shrinks}
use Rattle.sql_grammar.proofs.sources.joins.Goals as goal

pub returns-in_err-next : goal.returns-in_err-next
returns-in_err-next c =
    let p = err_from_is_err_and c.from_residual.result c.from_residual.ensures.1 in
    rw (p.1, p.2) (run_stops joinings (join_at c.args.levels) (join_shrinks c.args.levels) c.more.found c.more.rest.now c.in_err-next.field-0.0 _ (sym c.next_joins.ensures ∙ c.more-test.true) c.in_err-next.ensures (c.more.invariant ∙ joins_is c.args.levels c.args.tokens.now))

pub more-smaller : goal.more-smaller
more-smaller c = join_shrinks c.args.levels c.more.rest.now c.in_ok-next.next c.in_ok-next.after.now c.in_ok-next.ensures

pub more-preserved : goal.more-preserved
more-preserved c =
    rw c.in_ok-push.ensures.ok (run_goes joinings (join_at c.args.levels) (join_shrinks c.args.levels) c.more.found c.more.rest.now c.in_ok-next.after.now c.in_ok-next.next (sym c.next_joins.ensures ∙ c.more-test.true) c.in_ok-next.ensures ∙ c.more.invariant)

pub returns : goal.returns
returns c = sym (joins_is c.args.levels c.args.tokens.now) ∙ sym c.more.invariant ∙ run_ends joinings (join_at c.args.levels) (join_shrinks c.args.levels) c.more.found c.more.rest.now (sym c.next_joins.ensures ∙ c.more-test.false)
