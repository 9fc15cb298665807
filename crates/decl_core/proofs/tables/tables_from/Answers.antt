-- One table more.
use Rattle.std.proofs.Common.{◌≡◌, ℕ, suc, List, Result, ◌∷◌, ◌+◌, drop, arith, sym, ap, ◌∙◌}
use Rattle.std.proofs.lemmas.List.{at_drop_more}
use Rattle.serde_json.specs.View.{view, items_view}
use Rattle.serde_json.specs.declared.value.Value.{Value}
use Rattle.sp_model.specs.declared.declaration.TableDecl.{TableDecl}
use Rattle.decl_core.proofs.TablesSoFar.{after_tables, after_one}
use Rattle.decl_words.specs.Tables.{table_of, tables_from}
use Rattle.decl_words.specs.declared.fault.DeclFault.{DeclFault}
use Rattle.decl_core.proofs.tables.tables_from.Goals as goal

pub loop-value-preserved : goal.loop-value-preserved
loop-value-preserved c =
    let i = c.loop-value.value-index in
    let values = c.deref-value-items.result.now in
    let left : ℕ → List Value → Result (List TableDecl) DeclFault = λ n vs. tables_from n (items_view vs) in
    let rest = drop (i + 1) values in
    let table = c.in-Some.table in
    let next : suc (i + 1) ≡ i + 1 + 1 = omega arith in (
      omega (arith, c.loop-value.invariant.0),
      c.loop-value.invariant.1
          ∙ ap (after_tables c.loop-value.tables) (at_drop_more (left (i + 1)) values i c.value-item.result c.loop-value-test.true ∙ ap (λ v. left (i + 1) (v ∷ rest)) (sym c.value-item.is))
          ∙ after_one c.loop-value.tables (i + 1) table (table_of (view c.value-item.result)) (left (suc (i + 1)) rest) (sym c.in_ok-table.ensures ∙ c.in-Some.is)
          ∙ ap (λ ts. after_tables ts (left (suc (i + 1)) rest)) (sym c.in_ok-push.ensures.ok)
          ∙ ap (λ n. after_tables c.push.new.self (left n rest)) next,
    )
