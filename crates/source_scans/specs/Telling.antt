-- Values and conditions told apart, and what a hasher is fed of them.
use Rattle.std.specs.Prelude.{ℕ, ℤ, pos, Bool, true, ◌&&◌, List, [], ◌++◌, nat_eq, bytes_eq}
use Rattle.std.specs.Ordering.{int_eq}
use Rattle.std.specs.Hash as fed
use Rattle.sp_value.specs.declared.cell.Cell.{Cell}
use Rattle.sp_value.specs.declared.cell.Cell.TheOpen.{Cell-F}
use Rattle.sp_value.specs.declared.cell.Cell.TheViews.{out-Cell}
use Rattle.sp_model.specs.Conditions.{value_rank, operator_rank}
use Rattle.sp_model.specs.declared.call.Condition.{Condition}

abbrev pub number_at : Cell-F Cell → ℤ
number_at (Cell-F.Bool true) = pos 1
number_at (Cell-F.Int n) = n
number_at _ = pos 0

-- an integer, and 1 for true
abbrev pub number_of : Cell → ℤ
number_of x = number_at (out-Cell x)

abbrev pub text_at : Cell-F Cell → List ℕ
text_at (Cell-F.Text t) = t
text_at _ = []

abbrev pub text_of : Cell → List ℕ
text_of x = text_at (out-Cell x)

-- the same boolean, integer or text, or both none of these
abbrev pub same_value : Cell → Cell → Bool
same_value x y = nat_eq (value_rank (out-Cell x)) (value_rank (out-Cell y)) && (int_eq (number_of x) (number_of y) && bytes_eq (text_of x) (text_of y))

abbrev pub value_writes : Cell → fed.HashWrites
value_writes x = fed.u8 (value_rank (out-Cell x)) ++ fed.i64 (number_of x) ++ fed.str (text_of x)

-- the same column, operator and value
abbrev pub same_sent : Condition → Condition → Bool
same_sent a b = bytes_eq a.column b.column && (nat_eq (operator_rank a.operator) (operator_rank b.operator) && same_value a.value b.value)

abbrev pub sent_writes : Condition → fed.HashWrites
sent_writes c = fed.str c.column ++ fed.u8 (operator_rank c.operator) ++ value_writes c.value
