use Rattle.std.proofs.Common.{◌≡◌, true, Some, refl, sym, ap, inl, ◌∙◌}
use Rattle.scan_core.proofs.Heard.{heard_state, heard_takes, used_form, kept_so}
use Rattle.scan_core.specs.Calls.{inner_of, inner_view}
use Rattle.row_stream.specs.Streams.{is_out}
use Rattle.scan_core.proofs.Seats.{some_same, same_parents}
use Rattle.scan_core.specs.Hearing.{anew}
use Rattle.scan_core.proofs.course.Course.hear_items.Goals as goal

pub hear-requires-clause-drained : goal.hear-requires-clause-drained
hear-requires-clause-drained g c = (c.requires.form.items c.in-Some.call c.in-Some.is).call.drained

pub returns-in-Used-clause-used : goal.returns-in-Used-clause-used
returns-in-Used-clause-used g c = λ e.
    let u = c.hear.ensures.used c.in-Used.is in
    let t = record c.args.self.now { items = Some c.hear.new.self; waiting = c.hear.new.waiting } in (
      inner_of c.args.scope.now.items c.args.self.now.walk c.in-Some.call,
      ap (inner_view c.args.scope.now.items c.args.self.now.walk) c.in-Some.is,
      heard_state c.args.scope.now c.args.self.now t c.in-Some.call c.args.piece.1 c.args.tick c.requires.form c.in-Some.is (ap (λ d. Some d) u.0) refl refl refl refl refl u.1,
      heard_takes c.args.scope.now c.args.self.now c.in-Some.call c.args.piece.1 c.requires.form c.in-Some.is u.2 u.3 u.4,
    )

pub returns-in-Used-clause-form : goal.returns-in-Used-clause-form
returns-in-Used-clause-form g c =
    let u = c.hear.ensures.used c.in-Used.is in
    used_form c.args.scope.now c.args.self.now (record c.args.self.now { items = Some c.hear.new.self; waiting = c.hear.new.waiting }) c.in-Some.call c.args.piece.1 c.args.tick c.requires.form c.in-Some.is (ap (λ d. Some d) u.0) refl refl refl refl refl u.1
    u.3 c.get-sound.ensures.sound u.4

pub returns-in-Late-clause-kept : goal.returns-in-Late-clause-kept
returns-in-Late-clause-kept g c = λ e.
    let u = c.hear.ensures.late c.in-Late.is in
    (kept_so c.args.scope.now c.args.self.now (record c.args.self.now { items = Some c.hear.new.self; waiting = c.hear.new.waiting }) c.in-Some.call c.hear.new.self c.args.piece.1 c.requires.form c.in-Some.is refl refl refl refl refl refl
    u.1 (ap (λ d. d.entered) u.0) (inl (ap (λ d. d.call) u.0))).0

pub returns-in-Late-clause-form : goal.returns-in-Late-clause-form
returns-in-Late-clause-form g c =
    let u = c.hear.ensures.late c.in-Late.is in
    (kept_so c.args.scope.now c.args.self.now (record c.args.self.now { items = Some c.hear.new.self; waiting = c.hear.new.waiting }) c.in-Some.call c.hear.new.self c.args.piece.1 c.requires.form c.in-Some.is refl refl refl refl refl refl
    u.1 (ap (λ d. d.entered) u.0) (inl (ap (λ d. d.call) u.0))).1

pub returns-in-Memory-clause-kept : goal.returns-in-Memory-clause-kept
returns-in-Memory-clause-kept g c = λ e.
    let u = c.hear.ensures.memory c.in-Memory.is in
    (kept_so c.args.scope.now c.args.self.now (record c.args.self.now { items = Some c.hear.new.self; waiting = c.hear.new.waiting }) c.in-Some.call c.hear.new.self c.args.piece.1 c.requires.form c.in-Some.is refl refl refl refl refl refl u.2 u.0 u.1).0

pub returns-in-Memory-clause-form : goal.returns-in-Memory-clause-form
returns-in-Memory-clause-form g c =
    let u = c.hear.ensures.memory c.in-Memory.is in
    (kept_so c.args.scope.now c.args.self.now (record c.args.self.now { items = Some c.hear.new.self; waiting = c.hear.new.waiting }) c.in-Some.call c.hear.new.self c.args.piece.1 c.requires.form c.in-Some.is refl refl refl refl refl refl u.2 u.0 u.1).1

pub returns-in-Used-clause-next : goal.returns-in-Used-clause-next
returns-in-Used-clause-next g c = λ e i is.
    let u = c.hear.ensures.used c.in-Used.is in
    some_same c.args.self.now.items c.in-Some.call i (λ z. (z.call.listed ≡ true) × (is_out (anew z.call.stream c.args.piece.1) c.args.piece.1 ≡ true → ⊥)) c.in-Some.is is (u.2, u.4)

pub returns-in-Late-clause-exact : goal.returns-in-Late-clause-exact
returns-in-Late-clause-exact g c = λ e i is.
    some_same c.args.self.now.items c.in-Some.call i (λ z. z.call.listed ≡ true → is_out (anew z.call.stream c.args.piece.1) c.args.piece.1 ≡ true) c.in-Some.is is (c.hear.ensures.exact c.in-Late.is)

pub returns-in-Late-clause-late : goal.returns-in-Late-clause-late
returns-in-Late-clause-late g c = λ e.
    let u = c.hear.ensures.late c.in-Late.is in
    record { parents = same_parents c.args.self.now.parents; items = ap (λ z. Some z) u.0 ∙ sym c.in-Some.is; before = refl; flight = refl; waiting = u.1; walk = refl; end = refl }
