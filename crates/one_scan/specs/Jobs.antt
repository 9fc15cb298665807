-- Calls of a scan, as they are listed.
use Rattle.std.specs.Prelude.{◌≡◌, ℕ, true, List, ◌++◌, Some, slice_get}
use Rattle.sp_model.specs.Calls.{function_of, is_lawful_by}
use Rattle.sp_model.specs.declared.call.Asked.TheVariants as asked
use Rattle.sp_model.specs.declared.call.Call.{Call}
use Rattle.sp_model.specs.declared.call.Call.TheVariants as call
use Rattle.sp_model.specs.declared.call.Version.TheVariants.{Is}
use Rattle.sp_world.specs.RequestLines.{IsAskedForm}
use Rattle.row_flight.specs.declared.frame.Wanted.{Wanted}
use Rattle.one_scan.specs.Views.{ScanView}

-- the name of the table that is called
abbrev pub called_table : Call → List ℕ
called_table (call.List table conditions parent) = table
called_table (call.Parents table) = table
called_table (call.Get table conditions) = table
called_table (call.Hydrate table function item results) = table

-- a lawful call of the scan's table at its version, for a seat of the scan of this number, which has a line that is read as itself
pub record IsScanJob (s : ScanView) (scan : ℕ) (w : Wanted) : Type 0 where
  pub lawful : is_lawful_by s.table w.call.call w.call.attempt ≡ true
  pub connection : w.call.connection ≡ s.request.connection
  pub table : called_table w.call.call ≡ s.table.name
  pub version : s.version ≡ Is w.call.version
  pub form : IsAskedForm (function_of s.table w.call.call) (asked.Call w.call)
  pub seat : w.seat.scan ≡ scan

-- such calls come to the end of a list
pub record Adds (s : ScanView) (scan : ℕ) (before after : List Wanted) : Type 0 where
  pub more : List Wanted
  pub grows : after ≡ before ++ more
  pub jobs : (place : ℕ) (w : Wanted) → slice_get more place ≡ Some w → IsScanJob s scan w
