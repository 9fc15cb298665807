use Rattle.std.proofs.Common.{sym, ◌∙◌}
use Rattle.std.proofs.lemmas.Result.{err_from_is_err_and}
use Rattle.sql_lex.specs.declared.token.Kind.TheVariants as Kind
use Rattle.sql_grammar.specs.Parser.{key_at}
use Rattle.sql_grammar.proofs.Sql.{key_laws}
use Rattle.sql_grammar.proofs.Loops.{shrinks, turn_goes, turn_ends, turn_shrinks, turn_stops}
use Rattle.sql_grammar.proofs.ending.more_keys.Goals as goal

pub returns-in_err-next : goal.returns-in_err-next
returns-in_err-next c =
    let p = err_from_is_err_and c.from_residual-in_err-next.result c.from_residual-in_err-next.ensures.1 in
    rw (p.1, p.2) (turn_stops Kind.Comma key_at (shrinks key_laws) c.more.found c.more.rest.now c.in_ok-after.after.now tt c.in_err-next.field-0.0 _ (sym c.next_is.ensures ∙ c.more-test.true) c.in_ok-after.ensures c.in_err-next.ensures c.more.invariant)

pub more-smaller : goal.more-smaller
more-smaller c = turn_shrinks Kind.Comma key_at (shrinks key_laws) c.more.rest.now c.in_ok-after.after.now c.in_ok-next.after.now tt c.in_ok-next.next c.in_ok-after.ensures c.in_ok-next.ensures

pub more-preserved : goal.more-preserved
more-preserved c =
    rw c.in_ok-push-2.ensures.ok (turn_goes Kind.Comma key_at (shrinks key_laws) c.more.found c.more.rest.now c.in_ok-after.after.now c.in_ok-next.after.now tt c.in_ok-next.next (sym c.next_is.ensures ∙ c.more-test.true) c.in_ok-after.ensures c.in_ok-next.ensures ∙ c.more.invariant)

pub returns : goal.returns
returns c = sym c.more.invariant ∙ turn_ends Kind.Comma key_at (shrinks key_laws) c.more.found c.more.rest.now (sym c.next_is.ensures ∙ c.more-test.false)
