-- Ticks for which the calls of a scan wait.
use Rattle.std.specs.Prelude.{ℕ, ◌==◌, ◌&&◌, nat_lt, Option, Some, None, is_none, if◌then◌else◌}
use Rattle.row_flight.specs.Dues.{sooner, due_of}
use Rattle.scan_core.specs.declared.calls.ItemsCall.{ItemsCall}
use Rattle.scan_core.specs.declared.calls.OpenCall.{OpenCall}
use Rattle.scan_core.specs.declared.calls.ParentsCall.{ParentsCall}
use Rattle.scan_core.specs.declared.course.Course.{Course}
use Rattle.scan_core.specs.declared.course.CourseEnd.{CourseEnd}

-- the tick for which a call waits: it was asked again, and no piece of the present attempt came
abbrev pub call_due : {X : Type 0} → OpenCall X → Option ℕ
call_due c = if nat_lt 1 c.stream.call.attempt && c.stream.have == 0 && is_none c.stream.ending then Some c.due else None

-- the call whose items are asked for: the get, list or child list, and where none is open the parents call
abbrev pub asked_due : {X : Type 0} → Option (ItemsCall X) → Option (ParentsCall X) → Option ℕ
asked_due (Some i) parents = call_due i.call
asked_due None (Some o) = call_due o.call
asked_due None None = None

abbrev pub due_by : {X : Type 0} → Option CourseEnd → Course X → Option ℕ
due_by None c = sooner (asked_due c.items c.parents) (due_of c.flight)
due_by (Some end) c = None

-- the least tick for which a call of the scan waits, none once it is decided
abbrev pub course_due : {X : Type 0} → Course X → Option ℕ
course_due c = due_by c.end c
