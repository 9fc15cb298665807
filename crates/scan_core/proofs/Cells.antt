-- A cell by the name of its column.
use Rattle.std.proofs.Common.{◌≡◌, ◌+◌, ◌<◌, ℕ, suc, List, ◌∷◌, map, drop, get_or, length, bytes_eq, if◌then◌else◌, Bool, false, Option, Some, add-one, sym, ap, ◌∙◌}
use Rattle.std.proofs.Math.Seq.{drop-cons}
use Rattle.std.specs.List.{zip}
use Rattle.sp_value.specs.Names.{value_under}
use Rattle.sp_value.specs.declared.cell.Cell.{Cell}
use Rattle.sp_value.specs.declared.cell.Cell as c
use Rattle.sp_model.specs.Fields.{or_null}
use Rattle.sp_model.specs.Walk.{cell_of}
use Rattle.sp_model.specs.declared.declaration.ColumnDecl.{ColumnDecl}

-- a column of another name is passed
pub cell_step : (columns : List ColumnDecl) (cells : List Cell) (i : ℕ) (name : List ℕ) (k : ColumnDecl) (same : Bool) → i < length columns → i < length cells → k ≡ get_or columns i k
    → same ≡ bytes_eq k.name name → same ≡ false → cell_of (drop (i + 1) columns) (drop (i + 1) cells) name ≡ cell_of (drop i columns) (drop i cells) name
cell_step columns cells i name k same h g is test differs =
    let next : drop i columns ≡ k ∷ drop (suc i) columns = drop-cons columns i k h ∙ ap (λ l. l ∷ drop (suc i) columns) (sym is) in
    let next_cell : drop i cells ≡ get_or cells i c.Null ∷ drop (suc i) cells = drop-cons cells i c.Null g in
    let rest : Option Cell = value_under name (zip (map {A = ColumnDecl} (λ l. l.name) (drop (suc i) columns)) (drop (suc i) cells)) in
    ap (λ n. cell_of (drop n columns) (drop n cells) name) (add-one i)
    ∙ ap (λ b. or_null (if b then Some (get_or cells i c.Null) else rest)) (sym differs ∙ test)
    ∙ ap (λ l. cell_of (k ∷ drop (suc i) columns) l name) (sym next_cell)
    ∙ ap (λ l. cell_of l (drop i cells) name) (sym next)
