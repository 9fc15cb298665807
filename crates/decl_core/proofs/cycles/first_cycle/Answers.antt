-- The names of functions are distinct, and what they depend on is declared.
use Rattle.std.proofs.Common.{[], sym, ap, subst, ◌∙◌}
use Rattle.std.specs.List.{list_any}
use Rattle.sp_model.specs.declared.declaration.TableDecl.{TableDecl}
use Rattle.sp_model.specs.Hydration.{names_of_functions}
use Rattle.decl_words.specs.Refusals.{repeats, depends_on_unknown, has_unknown}
use Rattle.decl_words.proofs.Lists.{In}
use Rattle.decl_words.proofs.TablesPass.{get_or-In, functions-distinct, none-refused, dependencies-declared}
use Rattle.decl_core.proofs.cycles.first_cycle.Goals as goal

pub leftover-requires-clause-distinct : goal.leftover-requires-clause-distinct
leftover-requires-clause-distinct c =
    let tables = c.args.tables.now in
    let t = c.table-item.result in
    let here : In t tables = subst (λ (x : TableDecl). In x tables) (sym c.table-item.is) (get_or-In tables c.loop-table.table-index t c.loop-table-test.true) in
    ap (λ fs. repeats [] (names_of_functions fs)) c.as_slice.ensures ∙ functions-distinct tables c.requires.distinct t here

pub leftover-requires-clause-known : goal.leftover-requires-clause-known
leftover-requires-clause-known c =
    let tables = c.args.tables.now in
    let t = c.table-item.result in
    let here : In t tables = subst (λ (x : TableDecl). In x tables) (sym c.table-item.is) (get_or-In tables c.loop-table.table-index t c.loop-table-test.true) in
    ap (λ fs. list_any (depends_on_unknown (names_of_functions fs)) fs) c.as_slice.ensures
    ∙ dependencies-declared t (none-refused has_unknown 1 tables c.requires.known t here)
