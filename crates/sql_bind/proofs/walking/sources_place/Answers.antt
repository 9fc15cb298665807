use Rattle.std.proofs.Common.{◌+◌, drop, sym, ap, ◌∙◌}
use Rattle.std.specs.Option.{option_or}
use Rattle.sql_bind.proofs.Firsts.{first_in_sources, sources_turn}
use Rattle.sql_bind.proofs.walking.sources_place.Goals as goal

pub returns-in-Some : goal.returns-in-Some
returns-in-Some c =
    let all = c.args.all.now in
    let n = c.loop-n.n in
    ap (λ here. option_or here (first_in_sources c.args.rule all (n + 1) (drop (n + 1) all))) (rw (c.first-before.ensures, c.first-looked.ensures) at c.in-Some.ensures)
    ∙ sym (sources_turn c.args.rule all n c.index-sources-n.result (rw c.sources-sources.ensures at c.loop-n-test.true) (rw c.sources-sources.ensures at c.index-sources-n.is))
    ∙ c.loop-n.invariant

pub loop-n-preserved : goal.loop-n-preserved
loop-n-preserved c =
    let all = c.args.all.now in
    let n = c.loop-n.n in
    ap (λ here. option_or here (first_in_sources c.args.rule all (n + 1) (drop (n + 1) all))) (rw (c.first-before.ensures, c.first-looked.ensures) at c.in_default.ensures)
    ∙ sym (sources_turn c.args.rule all n c.index-sources-n.result (rw c.sources-sources.ensures at c.loop-n-test.true) (rw c.sources-sources.ensures at c.index-sources-n.is))
    ∙ c.loop-n.invariant
