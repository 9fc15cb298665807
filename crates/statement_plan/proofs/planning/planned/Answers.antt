use Rattle.std.proofs.Common.{◌≡◌, Some, map, option_copied, option_map, sym, ap, ◌∙◌}
use Rattle.sp_model.specs.Requests.{fan_for}
use Rattle.statement_plan.specs.Columns.{columns_for, layout_of}
use Rattle.statement_plan.specs.Conjuncts.{conjuncts_of}
use Rattle.statement_plan.specs.Sources.{asked_for, listed_for, sent_from, fan_by, tests_from, pushed_limit}
use Rattle.statement_plan.proofs.Meeting.{chosen_has_keys}
use Rattle.statement_plan.proofs.planning.planned.Goals as goal

pub unreachable-requires : goal.unreachable-requires
unreachable-requires c =
    let b = c.args.said.now.bound.now in
    let k = c.args.of.now.source in
    chosen_has_keys c.args.source.now.table (listed_for b k) (asked_for b k) c.args.access c.requires.access (sym c.keys_for.ensures ∙ ap (option_map (λ keys. keys.now)) c.in_default.is)

pub returns : goal.returns
returns c =
    let b = c.args.said.now.bound.now in
    let k = c.args.of.now.source in
    let table = c.args.source.now.table in
    let of = c.args.of.now in
    let es = map (λ e. e.now) c.args.said.now.conjuncts.now in
    let said = c.requires.said in
    let keys : c.in-Some.keys.now ≡ c.in_ok-keys.keys = sym c.in_ok-keys.ensures in
    let column : option_copied c.fan_for-fan.result ≡ fan_for table c.args.access (listed_for b k) = c.fan_for-fan.ensures ∙ ap (fan_for table c.args.access) c.requires.listed in
    record {
      connections = c.in_ok-connections.ensures;
      table = c.in_ok-table.ensures;
      access = c.requires.access;
      columns = c.in_ok-columns.ensures ∙ ap (λ ss. columns_for ss c.args.said.now.named.now k table) said.sources ∙ ap (λ ns. columns_for b.sources ns k table) said.named;
      subset = c.in_ok-subset.ensures;
      keys = sym c.in-Some.ensures ∙ ap Some keys;
      conditions = c.in_ok-conditions.ensures ∙ ap (λ ks. sent_from ks of.sources.now of.layout.now k es) keys
          ∙ ap (λ ss. sent_from c.in_ok-keys.keys ss of.layout.now k es) said.sources
          ∙ ap (λ l. sent_from c.in_ok-keys.keys b.sources l k es) said.layout
          ∙ ap (sent_from c.in_ok-keys.keys b.sources (layout_of b) k) said.conjuncts;
      fan = c.in_ok-fan.ensures ∙ ap (λ ss. fan_by ss k es (option_copied c.fan_for-fan.result)) said.sources
          ∙ ap (λ xs. fan_by b.sources k xs (option_copied c.fan_for-fan.result)) said.conjuncts
          ∙ ap (fan_by b.sources k (conjuncts_of b)) column;
      limit = c.in_ok-limit.ensures ∙ ap (λ ks. pushed_limit ks b k (option_copied c.fan_for-fan.result)) keys ∙ ap (pushed_limit c.in_ok-keys.keys b k) column;
      tests = c.in_ok-tests.ensures
          ∙ ap (λ ss. tests_from ss of.layout.now k es) said.sources
          ∙ ap (λ l. tests_from b.sources l k es) said.layout
          ∙ ap (tests_from b.sources (layout_of b) k) said.conjuncts;
    }
