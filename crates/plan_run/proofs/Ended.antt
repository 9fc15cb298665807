-- Stops that are known stay so.
use Rattle.std.proofs.Common.{Result, Ok, Err}
use Rattle.std.specs.Prelude.{IfErr}
use Rattle.desk.specs.States.{DeskState}
use Rattle.statement_words.proofs.Stops.{gone_later}
use Rattle.statement_words.specs.Advances.{IsKnownStop}
use Rattle.statement_words.specs.Runs.{IsLater}
use Rattle.statement_words.specs.declared.stop.Stop.{Stop}
use Rattle.statement_words.specs.declared.stop.Stop.TheVariants as stop

pub still_known : {T : Type 0} (before after : DeskState) (r : Result T Stop) → IsLater before after → IfErr r (IsKnownStop before) → IfErr r (IsKnownStop after)
still_known before after (Ok x) later known = tt
still_known before after (Err stop.Memory) later known = tt
still_known before after (Err (stop.RestartsSpent name losses)) later known = gone_later before after name losses later known
still_known before after (Err (stop.ScanFailed scan row column cause)) later known = tt
