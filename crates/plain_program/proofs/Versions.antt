-- A scan's value, by the walk over all that a book answers at a version.
use Rattle.std.proofs.Common.{◌≡◌, ℕ, List, Option, Some, None, sym, ap, subst, ◌∙◌}
use Rattle.sp_model.specs.Book.{Book}
use Rattle.sp_model.specs.Settling.{Answers, answers_of}
use Rattle.sp_model.specs.Walk.{scan_walk, walk_value, walk_at, scan_value}
use Rattle.sp_model.specs.declared.call.Version.{Version}
use Rattle.sp_model.specs.declared.call.Version.TheVariants.{Is, Bad}
use Rattle.sp_model.specs.declared.declaration.TableDecl.{TableDecl}
use Rattle.sp_model.specs.declared.outcome.ScanValue.{ScanValue}
use Rattle.sp_model.specs.declared.outcome.ScanValue.TheVariants.{Failed}
use Rattle.sp_model.specs.declared.outcome.Walk.{Walk}
use Rattle.sp_model.specs.declared.scan.Cause.TheVariants.{BadVersion}
use Rattle.sp_model.specs.declared.scan.ScanRequest.{ScanRequest}
use Rattle.plain_program.specs.Known.{AreAnswersAt}

module _ (book : Book) (table : TableDecl) (request : ScanRequest) (version : Version) where
  pub at_version : (answers : Answers) (v : ℕ) (w : Walk) (value : Option ScanValue) → version ≡ Is v → AreAnswersAt book request.connection version answers → w ≡ scan_walk table request answers
      → value ≡ walk_value w → value ≡ scan_value book table request version
  unfolding walk_at scan_value
  at_version answers v w value is are walked valued =
      let same : answers ≡ answers_of book request.connection v = subst (λ (x : Version). AreAnswersAt book request.connection x answers) is are in
      let here : value ≡ scan_value book table request (Is v) = valued ∙ ap walk_value (walked ∙ ap (scan_walk table request) same) in
      here ∙ sym (ap (λ (x : Version). scan_value book table request x) is)

  pub at_bad_version : (text copy : List ℕ) → version ≡ Bad text → copy ≡ text → Some (Failed 0 None (BadVersion copy)) ≡ scan_value book table request version
  unfolding walk_at scan_value
  at_bad_version text copy is copied =
      let here : Some (Failed 0 None (BadVersion copy)) ≡ scan_value book table request (Bad text) = ap (λ t. Some (Failed 0 None (BadVersion t))) copied in
      here ∙ sym (ap (λ (x : Version). scan_value book table request x) is)
