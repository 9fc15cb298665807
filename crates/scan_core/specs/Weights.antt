-- How much is left of a scan to do with what came so far: it gets less with each step.
use Rattle.std.specs.Prelude.{ℕ, ◌+◌, ◌*◌, length, Option, Some, None}
use Rattle.sp_model.specs.declared.outcome.Walk.{Walk}
use Rattle.scan_laws.specs.States.{Outer, Inner, Scan}

abbrev pub one_if_some : {X : Type 0} → Option X → ℕ
one_if_some None = 0
one_if_some (Some x) = 1

abbrev pub inner_weight : Option Inner → ℕ
inner_weight None = 0
inner_weight (Some i) = 1 + one_if_some i.ending

abbrev pub outer_weight : Option Outer → ℕ
outer_weight None = 0
outer_weight (Some o) = 1 + (one_if_some o.ending + 2 * length o.waiting)

abbrev pub end_weight : Option Walk → ℕ
end_weight None = 1
end_weight (Some w) = 0

abbrev pub weight : Scan → ℕ
weight st = 2 * length st.waiting + (length st.flight + (inner_weight st.inner + (outer_weight st.outer + end_weight st.end)))
