-- A scan, some pieces later.
use Rattle.std.proofs.Common.{◌∙◌}
use Rattle.one_scan.specs.Views.{ScanView, SameScan}

pub same_then : (a b c : ScanView) → SameScan a b → SameScan b c → SameScan a c
same_then a b c h k = record {
  request = k.request ∙ h.request;
  table = k.table ∙ h.table;
  version = k.version ∙ h.version;
  asked = k.asked ∙ h.asked;
  window = k.window ∙ h.window;
  end = λ v e. k.end v (h.end v e);
}
