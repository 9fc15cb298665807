-- Requests that are made keep what the law of kept scans asks of them.
use Rattle.std.proofs.Common.{◌≡◌, Bool, true, ◌&&◌, List, Option, Some, sym, ap, ◌∙◌}
use Rattle.std.proofs.lemmas.Bool.{and_from}
use Rattle.std.specs.Arc.{arc_value}
use Rattle.std.specs.List.{list_all}
use Rattle.sp_model.specs.Conditions.{is_canonical}
use Rattle.sp_model.specs.Keys.{is_sent}
use Rattle.sp_model.specs.Names.{has_name}
use Rattle.sp_model.specs.Requests.{keys_for, are_sent}
use Rattle.sp_model.specs.declared.declaration.KeyDecl.{KeyDecl}
use Rattle.sp_model.specs.declared.declaration.TableDecl.{TableDecl}
use Rattle.sp_model.specs.declared.scan.ScanRequest.{ScanRequest}
use Rattle.model_laws.proofs.Merging.{left, right}
use Rattle.source_scans.specs.Asked.{MadeRequestsAreAsked}
use Rattle.source_scans.specs.Planned.{unlimited}

opened : (keys : Option (List KeyDecl)) (ks : List KeyDecl) (r : ScanRequest) → keys ≡ Some ks → are_sent keys r ≡ true
    → (is_canonical r.conditions && list_all (is_sent ks) r.conditions && list_all (λ c. has_name r.columns c.column) r.conditions) ≡ true
unfolding are_sent
opened keys ks r e h = sym (ap (λ k. are_sent k r) e) ∙ h

pub made_are_asked : MadeRequestsAreAsked
made_are_asked s r p m limit =
    let table : TableDecl = arc_value s.table in
    let a : Bool = is_canonical r.conditions in
    let b : Bool = list_all (is_sent s.keys) r.conditions in
    let d : Bool = list_all (λ c. has_name r.columns c.column) r.conditions in
    let all : (a && b && d) ≡ true = opened (keys_for table r.access) s.keys (unlimited r) (ap (keys_for table) m.access ∙ p.keys) m.request.sent in
    let first : (a && b) ≡ true = left (a && b) d all in
    let on : list_all (λ c. has_name _ c.column) r.conditions ≡ true = ap (λ ns. list_all (λ c. has_name ns c.column) r.conditions) (sym m.request.columns) ∙ right (a && b) d all in
    (and_from _ _ (and_from _ _ (left a b first) on) limit, and_from _ _ first m.met)
