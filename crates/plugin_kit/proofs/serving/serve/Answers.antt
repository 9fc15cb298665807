use Rattle.std.proofs.Common.{◌≡◌, ◌+◌, ◌≤◌, ◌<◌, ◌^◌, ◌-◌, length, subst, sym, ap, ◌∙◌, arith, Err}
use Rattle.std.specs.Prelude.{List, ℕ}
use Rattle.std.specs.Io.KnownBytes.{IsAtEnd}
use Rattle.std.specs.List.{position_or_len}
use Rattle.byte_lines.specs.Lines.{is_feed}
use Rattle.plugin_kit.specs.Serving.{IsAnswered}
use Rattle.plugin_kit.proofs.Steps.{serving_passed, serving_read, searched_later, served_at_end, served_at_stop, served_at_fault, served_at_memory, served_at_limit}
use Rattle.plugin_kit.proofs.serving.serve.Goals as goal

pub returns-in-Err-clause-served : goal.returns-in-Err-clause-served
returns-in-Err-clause-served g c =
    let l = c.loop-taken in
    served_at_stop _ _ _ _ (g.O.Sink.held l.sink) _ l.waiting l.taken c.in-Err.stop c.served.result l.invariant.serving c.loop-taken-test.true c.in-Err.ensures.stops c.served.ensures

pub loop-taken-preserved : goal.loop-taken-preserved
loop-taken-preserved g c =
    let l = c.loop-taken in
    let n = c.in-Ok-read_more.count in
    let more = c.in-Ok-read_more.ensures.more in
    record {
      serving =
          serving_read _ _ (g.I.ByteSource.left l.source) _ _ _ c.answer_waiting.new.waiting c.read_more.new.waiting l.taken _ n
          (serving_passed _ _ _ _ (g.O.Sink.held l.sink) _ l.waiting c.answer_waiting.new.waiting l.taken l.invariant.serving c.in-Ok.ensures.passed) more;
      none = subst (λ (k : ℕ). k ≤ position_or_len is_feed c.read_more.new.waiting) (sym (ap length c.bytes-searched.ensures))
          (searched_later (g.I.ByteSource.left l.source) (g.I.ByteSource.left c.read_more.new.source) c.answer_waiting.new.waiting c.read_more.new.waiting _ n more c.in-Ok.ensures.no_feed);
      within = omega (arith, more.within, l.invariant.within);
      reads = omega (arith, l.invariant.reads, c.read_more.ensures.later);
      writes = omega (arith, l.invariant.writes, c.answer_waiting.ensures.later);
    }

pub returns-in-Ok-eq0-clause-served : goal.returns-in-Ok-eq0-clause-served
returns-in-Ok-eq0-clause-served g c =
    let l = c.loop-taken in
    let book = g.R.Routes.book c.args.routes.now in
    let n = c.in-Ok-eq0.field-0 in
    let more = c.in-Ok-eq0.ensures.more in
    let none : n ≡ 0 = c.in-Ok-eq0.field-0-test in
    let end : IsAtEnd (g.I.ByteSource.left c.read_more.new.source) = more.end none in
    let below : l.taken + n < 2 ^ 62 = omega (arith, none, c.loop-taken-test.true) in
    served_at_end book _ _ _ (g.O.Sink.held c.answer_waiting.new.sink) _ c.read_more.new.waiting (l.taken + n) c.answer_last.result
    (serving_read _ _ (g.I.ByteSource.left l.source) _ _ _ c.answer_waiting.new.waiting c.read_more.new.waiting l.taken _ n
    (serving_passed _ _ _ _ (g.O.Sink.held l.sink) _ l.waiting c.answer_waiting.new.waiting l.taken l.invariant.serving c.in-Ok.ensures.passed) more)
    below end
    (subst (λ (w : List ℕ). IsAnswered book (g.O.Sink.held c.answer_waiting.new.sink) (g.O.Sink.held c.answer_last.new.sink) w c.answer_last.result) c.bytes.ensures c.answer_last.ensures.answered)
    c.answer_last.ensures.no_limit

pub returns-in-Err-Fault-clause-served : goal.returns-in-Err-Fault-clause-served
returns-in-Err-Fault-clause-served g c =
    let l = c.loop-taken in
    served_at_fault _ _ (g.I.ByteSource.left l.source) _ _ _ c.answer_waiting.new.waiting l.taken
    (serving_passed _ _ _ _ (g.O.Sink.held l.sink) _ l.waiting c.answer_waiting.new.waiting l.taken l.invariant.serving c.in-Ok.ensures.passed)
    c.loop-taken-test.true (c.read_more.ensures.fault (c.in-Err-Fault.is ∙ ap Err c.in-Err-Fault.field-0-is))

pub returns-in-Err-Memory-clause-served : goal.returns-in-Err-Memory-clause-served
returns-in-Err-Memory-clause-served g c =
    let l = c.loop-taken in
    let lost = c.read_more.ensures.lost (c.in-Err-Memory.is ∙ ap Err c.in-Err-Memory.field-0-is) in
    let within : l.taken + (2 ^ 62 - l.taken) ≤ 2 ^ 62 = omega (arith, l.invariant.within) in
    served_at_memory _ _ (g.I.ByteSource.left l.source) _ _ _ c.answer_waiting.new.waiting l.taken _
    (serving_passed _ _ _ _ (g.O.Sink.held l.sink) _ l.waiting c.answer_waiting.new.waiting l.taken l.invariant.serving c.in-Ok.ensures.passed)
    within lost

pub returns-clause-served : goal.returns-clause-served
returns-clause-served g c =
    let l = c.loop-taken in
    served_at_limit _ _ _ _ _ l.waiting l.taken l.invariant.serving (omega (arith, l.invariant.within, c.loop-taken-test.false))
