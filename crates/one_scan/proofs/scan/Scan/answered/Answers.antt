use Rattle.std.proofs.Common.{false, true, refl}
use Rattle.one_scan.proofs.Goes.{taken_scan, still_scan, memory_scan}
use Rattle.one_scan.proofs.Telling.{none_goes, taken_goes, memory_goes, waits_kept, waits_wanting, waits_taken}
use Rattle.one_scan.proofs.Waiting.{waits, awaited, unchanged_view}
use Rattle.one_scan.proofs.scan.Scan.answered.Goals as goal

pub invariant_of-self : goal.invariant_of-self
invariant_of-self g c =
    let s = c.self.inside in (
      taken_scan g.W.World.tells g.W.World.book s.scope s.course c.answered.new.self s.version s.asked c.args.seat c.args.piece.0 c.args.piece.1 c.args.tick c.self.invariant.0 c.answered.ensures.form c.get-told.ensures.sound c.get-told.ensures.told
          (c.answered.ensures.used c.in-Used.is),
      waits_taken s.scope s.course c.answered.new.self s.wanting c.self.invariant.1 (c.answered.ensures.still c.in-Used.is),
    )

pub invariant_of-self-in-Late : goal.invariant_of-self-in-Late
invariant_of-self-in-Late g c =
    let s = c.self.inside in
    let kept = c.answered.ensures.kept c.in-Late.is in (
      still_scan g.W.World.tells g.W.World.book s.scope s.course c.answered.new.self s.version s.asked c.self.invariant.0 c.answered.ensures.form kept,
      waits_kept s.scope s.course c.answered.new.self s.wanting kept.state kept.end c.self.invariant.1,
    )

pub invariant_of-self-in-Memory : goal.invariant_of-self-in-Memory
invariant_of-self-in-Memory g c =
    let s = c.self.inside in (
      memory_scan g.W.World.tells g.W.World.book s.scope s.course c.answered.new.self s.version s.asked c.args.seat c.args.piece.0 c.args.piece.1 c.args.tick c.self.invariant.0 c.answered.ensures.form c.get-told.ensures.sound c.get-told.ensures.told
          (c.answered.ensures.memory c.in-Memory.is),
      waits_wanting s.scope s.course c.answered.new.self s.wanting c.self.invariant.1,
    )

pub returns-in-Used-clause-goes : goal.returns-in-Used-clause-goes
returns-in-Used-clause-goes g c = λ t.
    let s = c.self.inside in
    rw (← c.self.view_is)
    (taken_goes g.W.World.book s.scope s.asked s.wanting s.wanting g.W.World.tells s.course c.answered.new.self s.version c.args.seat c.args.piece.0 c.args.piece.1 c.args.tick c.self.invariant.0 (c.answered.ensures.used c.in-Used.is)
    c.get-told.ensures.told t)

pub returns-in-Late-clause-late : goal.returns-in-Late-clause-late
returns-in-Late-clause-late g c = λ is.
    let s = c.self.inside in
    let late = c.answered.ensures.late c.in-Late.is in
    rw (← c.self.view_is)
    (λ w. late.0 (awaited s.scope s.version s.asked s.wanting s.course c.args.seat c.args.piece.0 c.args.piece.1 w), unchanged_view s.scope s.version s.asked s.wanting s.course c.answered.new.self (c.answered.ensures.kept c.in-Late.is) late.1)

pub returns-in-Memory-clause-goes : goal.returns-in-Memory-clause-goes
returns-in-Memory-clause-goes g c = λ t.
    let s = c.self.inside in
    rw (← c.self.view_is)
    (memory_goes g.W.World.book s.scope s.asked s.wanting true g.W.World.tells s.course c.answered.new.self s.version c.args.seat c.args.piece.0 c.args.piece.1 c.args.tick c.self.invariant.0 (c.answered.ensures.memory c.in-Memory.is)
    c.get-told.ensures.told t)
