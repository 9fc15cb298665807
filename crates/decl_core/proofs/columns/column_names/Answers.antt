-- One name more.
use Rattle.std.proofs.Common.{◌≡◌, List, Bool, ◌∷◌, ◌||◌, ◌+◌, drop, bytes_eq, sym, ap, ◌∙◌}
use Rattle.std.proofs.lemmas.List.{at_drop_more}
use Rattle.sp_model.specs.declared.declaration.ColumnDecl.{ColumnDecl}
use Rattle.sp_model.specs.RowOf.{names_of_columns}
use Rattle.sp_model.specs.Names.{has_name}
use Rattle.name_set.proofs.Insertions.{has_name-insert}
use Rattle.decl_core.proofs.columns.column_names.Goals as goal

pub loop-column-preserved : goal.loop-column-preserved
loop-column-preserved c = λ name.
    let left : List ColumnDecl → Bool = λ cs. has_name (names_of_columns cs) name in
    let columns = c.args.columns.now in
    let i = c.loop-column.column-index in
    let before = has_name c.loop-column.names name in
    let rest = drop (i + 1) columns in
    let here : left (drop i columns) ≡ (bytes_eq name c.column-item.result.name || left rest) =
    at_drop_more left columns i c.column-item.result c.loop-column-test.true ∙ ap (λ x. left (x ∷ rest)) (sym c.column-item.is) in
    has_name-insert c.loop-column.names c.as_str.result.now c.insert.new.self c.in_ok-insert.field-0 c.in_ok-insert.ensures.added c.in_ok-insert.ensures.names name (left rest)
    ∙ ap (λ n. before || (bytes_eq name n || left rest)) c.as_str.ensures
    ∙ sym (ap (λ b. before || b) here)
    ∙ c.loop-column.invariant name
