-- What the steps of rows in flight mean for a scan.
use Rattle.std.specs.Prelude.{◌≡◌, List, None}
use Rattle.sp_model.specs.Settling.{Answers}
use Rattle.sp_model.specs.declared.declaration.TableDecl.{TableDecl}
use Rattle.sp_model.specs.declared.scan.ScanRequest.{ScanRequest}
use Rattle.scan_laws.specs.Reaching.{Made}
use Rattle.scan_laws.specs.Scans as scans
use Rattle.scan_laws.specs.States.{Scan}
use Rattle.scan_laws.specs.Steps.{flown}
use Rattle.row_flight.specs.Flying.{Seated, rows_in}
use Rattle.row_flight.specs.Hearing.{Keeps}

-- where the rows of a scan in progress go on, the scan goes on
abbrev pub FlightGoesOn : Type 0
FlightGoesOn = (table : TableDecl) (request : ScanRequest) (answers : Answers) (st : Scan) (old new : List Seated) (added : List Made) → scans.Agrees table request answers st → st.end ≡ None
    → st.flight ≡ rows_in old → Keeps table request answers old new added → scans.Keeps table request answers st (flown st (rows_in new)) added
