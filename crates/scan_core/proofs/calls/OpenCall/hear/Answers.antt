use Rattle.std.proofs.Common.{inr, ap}
use Rattle.scan_core.proofs.calls.OpenCall.hear.Goals as goal

pub returns-in-Err-Memory-clause-memory : goal.returns-in-Err-Memory-clause-memory
returns-in-Err-Memory-clause-memory g c = λ e. (inr (ap (λ s. record c.args.self.now { stream = s }) c.in-Err-Memory.ensures.err), c.reserve.ensures.items)
