use Rattle.std.proofs.Common.{◌≡◌, drop}
use Rattle.plain_program.specs.Script.{find_reply}
use Rattle.plain_program.proofs.script.find_reply.Given as goal

abbrev pub invariant-loop-known : goal.invariant-loop-known
invariant-loop-known l = find_reply l.function l.subject l.attempt (drop l.known-index l.written) ≡ find_reply l.function l.subject l.attempt l.written
