use Rattle.std.proofs.Common.{◌≡◌, ◌==◌, length, drop, true, false, sym, ap, ◌∙◌, add-one}
use Rattle.std.specs.List.{starts_with}
use Rattle.sp_value.specs.Patterns.{fits, some_end}
use Rattle.sp_value.proofs.Greedy.{taken, empty_taken, missed_at, none_at, is_none, is_some, cut, drop_twice}
use Rattle.sp_value.proofs.pattern.after_first.Goals as goal

pub returns-then-is_empty-clause-some : goal.returns-then-is_empty-clause-some
returns-then-is_empty-clause-some c = λ rest.
    empty_taken c.args.piece.now rest c.args.text.now (is_none _ (sym c.is_empty.ensures ∙ c.if-is_empty.true))

pub returns-then-starts_with-clause-some : goal.returns-then-starts_with-clause-some
returns-then-starts_with-clause-some c = λ rest.
    let start = c.loop-start.start in
    let here : starts_with ◌==◌ (drop start c.args.text.now) c.args.piece.now ≡ true = ap (λ s. starts_with ◌==◌ s c.args.piece.now) (sym (cut c.args.text.now start)) ∙ sym c.starts_with.ensures.value ∙ c.if-starts_with.true in
    c.loop-start.invariant rest ∙ taken c.args.piece.now rest (drop start c.args.text.now) c.requires here ∙ ap (some_end (fits rest)) (drop_twice c.args.text.now start (length c.args.piece.now))

pub loop-start-preserved : goal.loop-start-preserved
loop-start-preserved c = λ rest.
    let start = c.loop-start.start in
    let other : starts_with ◌==◌ (drop start c.args.text.now) c.args.piece.now ≡ false = ap (λ s. starts_with ◌==◌ s c.args.piece.now) (sym (cut c.args.text.now start)) ∙ sym c.starts_with.ensures.value ∙ c.if-starts_with.false in
    rw add-one (c.loop-start.invariant rest ∙ missed_at c.args.piece.now rest c.args.text.now start c.loop-start-test.true c.requires other)

pub returns-clause-none : goal.returns-clause-none
returns-clause-none c = λ rest.
    c.loop-start.invariant rest ∙ none_at c.args.piece.now rest c.args.text.now c.loop-start.start c.loop-start-test.false (is_some _ (sym c.is_empty.ensures ∙ c.if-is_empty.false)) c.requires
