-- What tells scans apart is an equality, and equal scans are hashed alike.
use Rattle.std.specs.Prelude.{◌≡◌, ◌++◌, true}
use Rattle.std.specs.Cmp.{IsEquivalence, and_equiv, on_equiv, nat_eq_equiv, int_eq_equiv, unsigned_Decides, signed_Decides}
use Rattle.std.specs.Cmp.Lexicographic.{lists_equiv, nat_list_eq_equiv, bytes_decides}
use Rattle.std.specs.Hash as fed
use Rattle.std.specs.Hash.{Alike, and-Alike, on_Alike, same_Alike, items_Alike}
use Rattle.sp_value.specs.declared.cell.Cell.TheViews.{out-Cell}
use Rattle.sp_model.specs.Conditions.{value_rank, operator_rank}
use Rattle.source_scans.specs.Asking.{same_unit}
use Rattle.source_scans.specs.Distinct.{same_scalar_value}
use Rattle.source_scans.specs.declared.distinct.Scalar.{Scalar}
use Rattle.source_scans.specs.declared.unit_scan.UnitScan.{UnitScan}
use Rattle.source_scans.specs.Telling.{number_of, text_of, same_value, value_writes, same_sent, sent_writes}

same_value_equivalence : IsEquivalence same_value
same_value_equivalence = and_equiv (on_equiv (λ x. value_rank (out-Cell x)) nat_eq_equiv) (and_equiv (on_equiv number_of int_eq_equiv) (on_equiv text_of nat_list_eq_equiv))

same_sent_equivalence : IsEquivalence same_sent
same_sent_equivalence = and_equiv (on_equiv (λ c. c.column) nat_list_eq_equiv) (and_equiv (on_equiv (λ c. operator_rank c.operator) nat_eq_equiv) (on_equiv (λ c. c.value) same_value_equivalence))

pub same_unit_equivalence : IsEquivalence same_unit
same_unit_equivalence = and_equiv (on_equiv (λ u. u.connection) nat_list_eq_equiv) (on_equiv (λ u. u.conditions) (lists_equiv same_sent_equivalence))

-- ---- hashes

value_alike : Alike same_value value_writes
value_alike = and-Alike (on_Alike (λ x. value_rank (out-Cell x)) (same_Alike fed.u8 unsigned_Decides)) (and-Alike (on_Alike number_of (same_Alike fed.i64 signed_Decides)) (on_Alike text_of (same_Alike fed.str bytes_decides)))

sent_alike : Alike same_sent sent_writes
sent_alike = and-Alike (on_Alike (λ c. c.column) (same_Alike fed.str bytes_decides)) (and-Alike (on_Alike (λ c. operator_rank c.operator) (same_Alike fed.u8 unsigned_Decides)) (on_Alike (λ c. c.value) value_alike))

unit_alike : Alike same_unit (λ u. fed.str u.connection ++ fed.slice sent_writes u.conditions)
unit_alike = and-Alike (on_Alike (λ u. u.connection) (same_Alike fed.str bytes_decides)) (on_Alike (λ u. u.conditions) (items_Alike sent_alike))

pub same_units_are_fed_alike : (u v : UnitScan) → same_unit u v ≡ true → fed.str u.connection ++ fed.slice sent_writes u.conditions ≡ fed.str v.connection ++ fed.slice sent_writes v.conditions
same_units_are_fed_alike u v h = unit_alike.fed u v h

-- ---- values alone

pub same_scalar_equivalence : IsEquivalence same_scalar_value
same_scalar_equivalence = on_equiv (λ s. s.value) same_value_equivalence

scalar_alike : Alike same_scalar_value (λ s. value_writes s.value)
scalar_alike = on_Alike (λ s. s.value) value_alike

pub same_scalars_are_fed_alike : (a b : Scalar) → same_scalar_value a b ≡ true → value_writes a.value ≡ value_writes b.value
same_scalars_are_fed_alike a b h = scalar_alike.fed a b h
