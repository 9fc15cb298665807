use Rattle.std.proofs.Common.{◌≡◌, ◌+◌, ◌++◌, ◌∷◌, [], length, take, drop, sym, ap, ◌∙◌, subst, arith, rules, ◌≤◌, length-take-le}
use Rattle.std.proofs.lemmas.Grind.{take_at_read}
use Rattle.source_scans.proofs.Places.{rest_is}
use Rattle.statement_plan.specs.Plans.{AreSourcesOf, missing_from, IsMissingFrom}
use Rattle.statement_plan.proofs.PlannedSources.{one_more, passed, stopped, from_start}
use Rattle.statement_plan.proofs.planning.sources_from.Goals as goal

pub loop-source-preserved : goal.loop-source-preserved
loop-source-preserved c =
    let b = c.args.said.now.bound.now in
    let ss = c.args.sources.now in
    let n = c.loop-source.source-index in
    let number = c.loop-source.number in
    let s = c.source-item.result in
    let p = c.in_ok-source.source in
    let before = c.loop-source.planned in
    let rest : drop n ss ≡ s ∷ drop (n + 1) ss = rest_is ss n s c.loop-source-test.true c.source-item.is in
    let front : take (n + 1) ss ≡ take n ss ++ s ∷ [] = (take_at_read ss n s c.loop-source-test.true).1 ∙ ap (λ x. take n ss ++ x ∷ []) (sym c.source-item.is) in
    let next : c.in-Some.next ≡ number + 1 = (c.in-Some.ensures {u = tt}).1 in
    let within : n ≤ length ss = omega arith in
    let long = length-take-le n ss within in
    let at : number ≡ 0 + length (take n ss) = omega arith in
    record {
      counted = next ∙ ap (λ m. m + 1) c.loop-source.invariant.counted;
      planned = subst (AreSourcesOf b 0 (take (n + 1) ss)) (sym c.in-Ok.ensures.ok)
          (subst (λ xs. AreSourcesOf b 0 xs (before ++ p ∷ [])) (sym front) (one_more b 0 number (take n ss) before s p at c.loop-source.invariant.planned c.in_ok-source.ensures.ok));
      left = ap (λ m. missing_from b m (drop (n + 1) ss)) next ∙ sym (passed b number s p (drop (n + 1) ss) c.in_ok-source.ensures.ok) ∙ ap (missing_from b number) (sym rest) ∙ c.loop-source.invariant.left;
    }

pub returns-in_err-source-clause-err : goal.returns-in_err-source-clause-err
returns-in_err-source-clause-err c =
    let b = c.args.said.now.bound.now in
    let ss = c.args.sources.now in
    let n = c.loop-source.source-index in
    let number = c.loop-source.number in
    let s = c.source-item.result in
    let rest : drop n ss ≡ s ∷ drop (n + 1) ss = rest_is ss n s c.loop-source-test.true c.source-item.is in
    let missing : IsMissingFrom b 0 ss c.in_err-source.field-0.0 =
    from_start b number (s ∷ drop (n + 1) ss) ss c.in_err-source.field-0.0 (ap (missing_from b number) (sym rest) ∙ c.loop-source.invariant.left) (stopped b number s (drop (n + 1) ss) c.in_err-source.field-0.0 c.in_err-source.ensures.err) in
    search rules
