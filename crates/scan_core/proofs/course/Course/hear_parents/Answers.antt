use Rattle.std.proofs.Common.{◌≡◌, true, refl, ap, inl}
use Rattle.scan_core.proofs.Heard.{outer_state, outer_takes, outer_form, outer_kept, with_parents}
use Rattle.scan_core.specs.Calls.{outer_of, outer_view}
use Rattle.row_stream.specs.Streams.{is_out}
use Rattle.scan_core.proofs.Seats.{some_same, parents_unchanged}
use Rattle.scan_core.specs.Hearing.{anew}
use Rattle.scan_core.proofs.course.Course.hear_parents.Goals as goal

pub hear-requires-clause-drained : goal.hear-requires-clause-drained
hear-requires-clause-drained g c = (c.requires.form.parents c.in-Some.call c.in-Some.is).call.drained

pub returns-in-Used-clause-used : goal.returns-in-Used-clause-used
returns-in-Used-clause-used g c = λ e.
    let u = c.hear.ensures.used c.in-Used.is in
    let form = c.requires.form.parents c.in-Some.call c.in-Some.is in (
      outer_of c.in-Some.call,
      ap outer_view c.in-Some.is,
      outer_state c.args.scope.now c.args.self.now c.in-Some.call c.hear.new.self c.args.piece.1 c.args.tick form c.in-Some.is u.0 u.1,
      outer_takes c.args.scope.now c.in-Some.call c.args.piece.1 form u.2 u.3 u.4,
    )

pub returns-in-Used-clause-form : goal.returns-in-Used-clause-form
returns-in-Used-clause-form g c =
    let u = c.hear.ensures.used c.in-Used.is in
    let form = c.requires.form.parents c.in-Some.call c.in-Some.is in
    with_parents c.args.scope.now c.args.self.now c.hear.new.self c.requires.form (outer_form c.args.scope.now c.in-Some.call c.hear.new.self c.args.piece.1 c.args.tick form u.0 u.1 u.3 c.get-sound.ensures.sound u.4)

pub returns-in-Late-clause-kept : goal.returns-in-Late-clause-kept
returns-in-Late-clause-kept g c = λ e.
    let u = c.hear.ensures.late c.in-Late.is in
    (outer_kept c.args.scope.now c.args.self.now c.in-Some.call c.hear.new.self c.args.piece.1 (c.requires.form.parents c.in-Some.call c.in-Some.is) c.in-Some.is u.1 (inl u.0)).0

pub returns-in-Late-clause-form : goal.returns-in-Late-clause-form
returns-in-Late-clause-form g c =
    let u = c.hear.ensures.late c.in-Late.is in
    with_parents c.args.scope.now c.args.self.now c.hear.new.self c.requires.form
    (outer_kept c.args.scope.now c.args.self.now c.in-Some.call c.hear.new.self c.args.piece.1 (c.requires.form.parents c.in-Some.call c.in-Some.is) c.in-Some.is u.1 (inl u.0)).1

pub returns-in-Memory-clause-kept : goal.returns-in-Memory-clause-kept
returns-in-Memory-clause-kept g c = λ e.
    let u = c.hear.ensures.memory c.in-Memory.is in
    (outer_kept c.args.scope.now c.args.self.now c.in-Some.call c.hear.new.self c.args.piece.1 (c.requires.form.parents c.in-Some.call c.in-Some.is) c.in-Some.is u.1 u.0).0

pub returns-in-Memory-clause-form : goal.returns-in-Memory-clause-form
returns-in-Memory-clause-form g c =
    let u = c.hear.ensures.memory c.in-Memory.is in
    with_parents c.args.scope.now c.args.self.now c.hear.new.self c.requires.form
    (outer_kept c.args.scope.now c.args.self.now c.in-Some.call c.hear.new.self c.args.piece.1 (c.requires.form.parents c.in-Some.call c.in-Some.is) c.in-Some.is u.1 u.0).1

pub returns-in-Used-clause-next : goal.returns-in-Used-clause-next
returns-in-Used-clause-next g c = λ e o is.
    let u = c.hear.ensures.used c.in-Used.is in
    some_same c.args.self.now.parents c.in-Some.call o (λ z. (z.call.listed ≡ true) × (is_out (anew z.call.stream c.args.piece.1) c.args.piece.1 ≡ true → ⊥)) c.in-Some.is is (u.2, u.4)

pub returns-in-Late-clause-exact : goal.returns-in-Late-clause-exact
returns-in-Late-clause-exact g c = λ e o is.
    some_same c.args.self.now.parents c.in-Some.call o (λ z. z.call.listed ≡ true → is_out (anew z.call.stream c.args.piece.1) c.args.piece.1 ≡ true) c.in-Some.is is (c.hear.ensures.exact c.in-Late.is)

pub returns-in-Late-clause-late : goal.returns-in-Late-clause-late
returns-in-Late-clause-late g c = λ e.
    record { parents = parents_unchanged c.args.self.now.parents c.in-Some.call c.hear.new.self c.in-Some.is (c.hear.ensures.late c.in-Late.is); items = refl; before = refl; flight = refl; waiting = refl; walk = refl; end = refl }
