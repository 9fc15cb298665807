use Rattle.std.proofs.Common.{◌≡◌, ◌+◌, ◌-◌, ◌<◌, length, drop, subst, arith}
use Rattle.sql_bind.proofs.Keeping.{ColumnsFrom, column_more, later_fits, later_starts}
use Rattle.sql_bind.proofs.index.note_columns.Goals as goal

pub loop-column-preserved : goal.loop-column-preserved
loop-column-preserved c =
    let all = c.args.all.now in
    let n = c.args.n in
    let alias = c.as_str-alias.result.now in
    let columns = c.as_slice-columns.result.now in
    let old = c.loop-column.notes in
    let column = c.loop-column.column - 1 in
    let some = c.loop-column-test.true in
    let most = c.loop-column.auto.column in
    let within : column < length columns = omega arith in
    let before : c.loop-column.column ≡ column + 1 = omega arith in
    column_more old c.put_column.new.notes alias n (later_fits all n) (later_starts all n) column c.index-columns-column.result columns within c.index-columns-column.is
    (rw c.as_str.ensures at c.in_ok-put_column.ensures)
    (subst (λ k. ColumnsFrom old alias n (later_fits all n) k (drop k columns)) before c.loop-column.invariant)
