use Rattle.std.proofs.Common.{◌≡◌, ◌<◌, take, length, subst}
use Rattle.std.specs.Prelude.{List, ℕ, IfSome}
use Rattle.plugin_kit.specs.Lines.{kept}
use Rattle.plugin_kit.specs.Steps.{StopsAtLine, bad_line}
use Rattle.byte_lines.proofs.Feeds.{no_feed}
use Rattle.plugin_kit.proofs.Steps.{stop_at_line, stop_at_long}
use Rattle.plugin_kit.proofs.serving.answer_waiting.Goals as goal

pub returns-in-Err-clause-stops : goal.returns-in-Err-clause-stops
returns-in-Err-clause-stops g c =
    let book = g.R.Routes.book c.args.routes.now in
    let held = g.O.Sink.held in
    let end = c.in-Some.end in
    stop_at_line book (held c.args.sink.now) (held c.loop-end.sink) (held c.answer_line.new.sink) c.args.waiting.now c.loop-end.waiting end c.in-Err.stop
    c.loop-end.invariant.passed c.in-Some.ensures
    (subst (λ (l : List ℕ). StopsAtLine book (held c.loop-end.sink) (held c.answer_line.new.sink) (take end l) c.in-Err.stop) c.bytes.ensures c.in-Err.ensures.stops)

pub returns-then-bytes-gt-LONGEST-clause-stops : goal.returns-then-bytes-gt-LONGEST-clause-stops
returns-then-bytes-gt-LONGEST-clause-stops g c =
    let book = g.R.Routes.book c.args.routes.now in
    let held = g.O.Sink.held in
    let s = c.bad_line.result in
    stop_at_long book (held c.args.sink.now) (held c.loop-end.sink) c.args.waiting.now c.loop-end.waiting s
    c.loop-end.invariant.passed (no_feed c.loop-end.waiting c.in_default.ensures)
    (subst (λ (l : List ℕ). 68157440 < length l) c.bytes-2.ensures c.if-bytes-gt-LONGEST.true)
    (subst (λ (l : List ℕ). IfSome (bad_line s) (λ keeps. keeps ≡ kept l)) c.bytes-then-bytes-gt-LONGEST.ensures c.bad_line.ensures.kept)
