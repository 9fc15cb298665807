-- Scans that may be made keep what the law of kept scans asks of a list.
use Rattle.std.specs.Prelude.{◌≡◌, true, false, Some}
use Rattle.sp_model.specs.Covers.{is_get}
use Rattle.sp_model.specs.declared.declaration.ListDecl.{ListDecl}
use Rattle.sp_model.specs.declared.declaration.TableDecl.{TableDecl}
use Rattle.sp_model.specs.declared.scan.ScanRequest.{ScanRequest}
use Rattle.model_laws.specs.Covered.{is_asked_of_list}
use Rattle.scan_run.specs.Asked.{IsScanOf}

-- a scan that may be made of a list's table, and not by its get, is asked of that list
abbrev pub ScansOfListsAreAsked : Type 0
ScansOfListsAreAsked = (table : TableDecl) (d : ListDecl) (request : ScanRequest) → table.list ≡ Some d → is_get request.access ≡ false → IsScanOf table request
    → is_asked_of_list table d request ≡ true
