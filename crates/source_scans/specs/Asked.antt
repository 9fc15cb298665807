-- Requests that are made keep what the law of kept scans asks of them.
use Rattle.std.specs.Prelude.{◌≡◌, true}
use Rattle.std.specs.Arc.{arc_value}
use Rattle.sp_model.specs.Calls.{fit_keys}
use Rattle.sp_model.specs.Requests.{is_positive}
use Rattle.sp_model.specs.declared.scan.ScanRequest.{ScanRequest}
use Rattle.model_laws.specs.Covered.{is_asked_of}
use Rattle.source_scans.specs.Planned.{IsPlanned, IsMadeBy}
use Rattle.source_scans.specs.declared.source.PlanSource.{PlanSource}

-- a request of a planned source is one of its table, and its conditions are canonical, sent on the keys of its access, and meet them; with whatever limit of at least 1
abbrev pub MadeRequestsAreAsked : Type 0
MadeRequestsAreAsked = (s : PlanSource) (r : ScanRequest) → IsPlanned s → IsMadeBy s r → is_positive r.limit ≡ true
    → (is_asked_of (arc_value s.table) r ≡ true) × (fit_keys s.keys r.conditions ≡ true)
