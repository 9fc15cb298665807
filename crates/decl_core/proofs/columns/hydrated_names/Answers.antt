-- One name more, where the column has a function.
use Rattle.std.proofs.Common.{◌≡◌, List, Bool, true, false, ◌∷◌, ◌||◌, ◌+◌, drop, filter, cond, is_some, bytes_eq, refl, sym, ap, ◌∙◌}
use Rattle.std.proofs.lemmas.List.{at_drop_more}
use Rattle.sp_model.specs.declared.declaration.ColumnDecl.{ColumnDecl}
use Rattle.sp_model.specs.RowOf.{names_of_columns}
use Rattle.decl_words.specs.Columns.{hydrated}
use Rattle.sp_model.specs.Names.{has_name}
use Rattle.name_set.proofs.Insertions.{has_name-insert}
use Rattle.decl_core.proofs.columns.hydrated_names.Goals.{then-is_some+in_ok-insert, else-is_some}
use Rattle.decl_core.proofs.columns.hydrated_names.Goals as goal

-- the names, where the first column has a function, and where it has none
with_first : (first : ColumnDecl) (rest : List ColumnDecl) (b : Bool) → is_some first.function ≡ b → hydrated (first ∷ rest) ≡ cond b (first.name ∷ hydrated rest) (hydrated rest)
with_first first rest b e = ap (λ x. names_of_columns (cond x (first ∷ filter (λ c. is_some c.function) rest) (filter (λ c. is_some c.function) rest))) e ∙ by b
  where
    by : (x : Bool) → names_of_columns (cond x (first ∷ filter (λ c. is_some c.function) rest) (filter (λ c. is_some c.function) rest)) ≡ cond x (first.name ∷ hydrated rest) (hydrated rest)
    by true = refl
    by false = refl

pub loop-column-preserved : goal.loop-column-preserved
loop-column-preserved c = λ name.
    let left : List ColumnDecl → Bool = λ cs. has_name (hydrated cs) name in
    let columns = c.args.columns.now in
    let i = c.loop-column.column-index in
    let item = c.column-item.result in
    let before = has_name c.loop-column.names name in
    let rest = drop (i + 1) columns in
    let here : left (drop i columns) ≡ left (item ∷ rest) =
    at_drop_more left columns i item c.loop-column-test.true ∙ ap (λ x. left (x ∷ rest)) (sym c.column-item.is) in
    elim c.if-is_some.branch [
      | then-is_some+in_ok-insert w ↦
          let added = w.in_ok-insert.ensures.added in
          let names = w.in_ok-insert.ensures.names in
          let more : left (item ∷ rest) ≡ (bytes_eq name item.name || left rest) =
          ap (λ ns. has_name ns name) (with_first item rest true (sym c.is_some.ensures ∙ w.if-is_some.true)) in
          ap (λ s. has_name s name || left rest) w.names-is
          ∙ has_name-insert c.loop-column.names w.as_str.result.now w.insert.new.self w.in_ok-insert.field-0 added names name (left rest)
          ∙ ap (λ n. before || (bytes_eq name n || left rest)) w.as_str.ensures
          ∙ sym (ap (λ b. before || b) (here ∙ more))
          ∙ c.loop-column.invariant name
      | else-is_some w ↦
          let same : left (item ∷ rest) ≡ left rest =
          ap (λ ns. has_name ns name) (with_first item rest false (sym c.is_some.ensures ∙ w.if-is_some.false)) in
          ap (λ s. has_name s name || left rest) w.names-is
          ∙ sym (ap (λ b. before || b) (here ∙ same))
          ∙ c.loop-column.invariant name
    ]
