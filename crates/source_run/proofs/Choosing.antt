-- Chosen sources may be scanned.
use Rattle.std.proofs.Common.{◌≡◌, ℕ, true, List, refl, sym, ap, subst, ◌∙◌}
use Rattle.std.specs.Arc.{arc_value}
use Rattle.sp_model.specs.Calls.{fit_keys}
use Rattle.sp_model.specs.Covers.{is_get}
use Rattle.sp_model.specs.Requests.{keys_for}
use Rattle.sp_model.specs.declared.scan.ScanRequest.{ScanRequest}
use Rattle.scan_run.specs.Asked.{AllOnlyFilter}
use Rattle.source_run.specs.Laws.{ChosenSourcesAreReady}
use Rattle.source_run.proofs.OnlySubset.{subset_only}
use Rattle.source_run.proofs.Readiness.{chosen_list, scan_lawful}
use Rattle.source_scans.proofs.MadeAsked.{made_are_asked}
use Rattle.source_scans.specs.Planned.{IsPlanned, IsMadeBy, unlimited}
use Rattle.source_scans.specs.declared.source.PlanSource.{PlanSource}

-- the keys of a request that is made of a source fit
made_fit : (s : PlanSource) (r : ScanRequest) → IsPlanned s → IsMadeBy s r → fit_keys s.keys r.conditions ≡ true
made_fit s r planned made = (made_are_asked s (unlimited r) planned (record { request = made.request; connection = made.connection; access = made.access; met = made.met }) refl).1

pub ready_of : ChosenSourcesAreReady
ready_of tells book connections s h = record {
  planned = h.planned;
  sound = h.sound;
  lawful = λ r made.
      scan_lawful (arc_value s.table) h.sound h.gets s.keys r (ap (keys_for (arc_value s.table)) made.access ∙ h.planned.keys) (made_fit s r h.planned made)
      (λ listed d at. made.access ∙ chosen_list (arc_value s.table) h.given h.lists s.access h.access (sym (ap is_get made.access) ∙ listed) d at);
  subset = subst (λ (names : List (List ℕ)). AllOnlyFilter (arc_value s.table) names (arc_value s.table).list) (sym h.planned.subset) (subset_only (arc_value s.table) h.sound s.access);
  plain = h.plain;
  of_book = h.of_book;
}
