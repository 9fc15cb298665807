use Rattle.std.proofs.Common.{rules, refl, inl, inr, sym, ◌∙◌}
use Rattle.scan_core.proofs.Seats.{unchanged, none_if, some_if}
use Rattle.scan_core.proofs.course.Course.answered.Goals as goal

pub returns-then-is_some-clause-late : goal.returns-then-is_some-clause-late
returns-then-is_some-clause-late g c = λ e. (λ w. some_if c.args.self.now.end c.is_some.result c.is_some.ensures (search rules) w.0, unchanged c.args.self.now)

pub returns-then-is_some-clause-kept : goal.returns-then-is_some-clause-kept
returns-then-is_some-clause-kept g c = λ e. record { state = refl; flight = refl; end = refl }

pub returns-in-Ok-clause-used : goal.returns-in-Ok-clause-used
returns-in-Ok-clause-used g c = λ e. record {
  mid = c.hear.new.self;
  going = none_if c.args.self.now.end c.is_some.result c.is_some.ensures (search rules);
  form = c.hear.ensures.form;
  hears = c.hear.ensures.used c.in-Used.is;
  advances = c.advance.ensures.advances;
  goes = c.advance.ensures.goes;
}

pub returns-in-Err-clause-memory : goal.returns-in-Err-clause-memory
returns-in-Err-clause-memory g c = λ e. inr (record {
  mid = c.hear.new.self;
  going = none_if c.args.self.now.end c.is_some.result c.is_some.ensures (search rules);
  form = c.hear.ensures.form;
  hears = c.hear.ensures.used c.in-Used.is;
  advances = c.advance.ensures.advances;
  goes = c.advance.ensures.goes;
})

pub returns-in-Late-clause-late : goal.returns-in-Late-clause-late
returns-in-Late-clause-late g c = λ e. let l = c.hear.ensures.late c.in-Late.is in (λ w. l.0 w.1, l.1)

pub returns-in-Late-clause-kept : goal.returns-in-Late-clause-kept
returns-in-Late-clause-kept g c = λ e. c.hear.ensures.kept (λ u. let bad = sym c.in-Late.is ∙ u in cc)

pub returns-in-Memory-clause-memory : goal.returns-in-Memory-clause-memory
returns-in-Memory-clause-memory g c = λ e. inl (c.hear.ensures.kept (λ u. let bad = sym c.in-Memory.is ∙ u in cc))
