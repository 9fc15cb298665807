use Rattle.std.proofs.Common.{arith}
use Rattle.rate_gate.proofs.Grants.{kept_after}
use Rattle.rate_gate.proofs.limited.Limited.prepare.Goals as goal

pub returns-in_err-make-clause-kept : goal.returns-in_err-make-clause-kept
returns-in_err-make-clause-kept c =
    kept_after c.args.self.now c.turn.new.self c.make.new.self c.turn.ensures.limiter c.turn.ensures.instances (let a = c.make_room.ensures.room in let b = c.turn.ensures.room in omega arith) c.make.ensures.kept

pub returns-clause-kept : goal.returns-clause-kept
returns-clause-kept c =
    kept_after c.args.self.now c.turn.new.self c.make.new.self c.turn.ensures.limiter c.turn.ensures.instances (let a = c.make_room.ensures.room in let b = c.turn.ensures.room in omega arith) c.make.ensures.kept
