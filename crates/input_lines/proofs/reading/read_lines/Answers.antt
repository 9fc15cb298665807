-- The first line of what is left goes over to what was read.
use Rattle.std.proofs.Common.{◌≡◌, ℕ, ◌+◌, ◌<◌, true, false, List, ◌++◌, ◌∷◌, [], length, refl, sym, ap, subst, ◌∙◌, append-nil, append_assoc, arith}
use Rattle.std.specs.List.{All, after_first}
use Rattle.input_lines.specs.declared.line.Line.{Line}
use Rattle.input_lines.specs.Lines.{is_feed, is_blank, without_return, lines_of, line_of, lines_to_answer, HasSession}
use Rattle.input_lines.proofs.Cuts.{first, lines_of-first, lines_to_answer-blank, lines_to_answer-line}
use Rattle.input_lines.proofs.Sessions.{lines_to_answer-sessions, length-lines_to_answer}
use Rattle.input_lines.proofs.reading.read_lines.Goals as goal

-- the count with one line more
counted : (input rest after : List ℕ) (count : ℕ) → 0 < length rest → after ≡ after_first is_feed rest → length (lines_of input) ≡ count + length (lines_of rest) → length (lines_of input) ≡ count + 1 + length (lines_of after)
counted input rest after count some e known = omega (arith, ap length (lines_of-first rest some), ap (λ l. length (lines_of l)) e)

passed : (input rest line after : List ℕ) (lines : List Line) → 0 < length rest → line ≡ first rest → after ≡ after_first is_feed rest → true ≡ is_blank line → lines_to_answer input ≡ lines ++ lines_to_answer rest → lines_to_answer input ≡ lines ++ lines_to_answer after
passed input rest line after lines some f e blank known =
    known ∙ ap (λ l. lines ++ l) (lines_to_answer-blank rest some (ap is_blank (sym f) ∙ sym blank) ∙ ap lines_to_answer (sym e))

added : (input rest line after : List ℕ) (lines more : List Line) (last : Line) → 0 < length rest → line ≡ first rest → after ≡ after_first is_feed rest → false ≡ is_blank line
    → last ≡ line_of line → more ≡ lines ++ last ∷ [] → lines_to_answer input ≡ lines ++ lines_to_answer rest → lines_to_answer input ≡ more ++ lines_to_answer after
added input rest line after lines more last some f e text is pushed known =
    known ∙ ap (λ l. lines ++ l) (lines_to_answer-line rest some (ap is_blank (sym f) ∙ sym text) ∙ ap (λ l. line_of l ∷ lines_to_answer (after_first is_feed rest)) (sym f) ∙ ap (λ l. l ∷ lines_to_answer (after_first is_feed rest)) (sym is) ∙ ap (λ l. last ∷ lines_to_answer l) (sym e))
    ∙ sym (append_assoc lines (last ∷ []) (lines_to_answer after)) ∙ ap (λ l. l ++ lines_to_answer after) (sym pushed)

-- where nothing is left, what was read is the input's
finished : (input rest : List ℕ) (lines : List Line) → length rest ≡ 0 → lines_to_answer input ≡ lines ++ lines_to_answer rest → lines_to_answer input ≡ lines
finished input [] lines none known = known ∙ append-nil lines
finished input (b ∷ rest) lines none known = absurd (omega (arith, none))

no_lines : (rest : List ℕ) → length rest ≡ 0 → length (lines_of rest) ≡ 0
no_lines [] none = refl
no_lines (b ∷ rest) none = absurd (omega (arith, none))

pub returns-clause-sessions : goal.returns-clause-sessions
returns-clause-sessions c =
    let none : length c.loop-rest.rest.now ≡ 0 = grind (arith, c.is_empty.ensures, c.loop-rest-test.false) in
    subst (All HasSession) (finished c.args.input.now c.loop-rest.rest.now c.loop-rest.lines none c.loop-rest.invariant.0) (lines_to_answer-sessions c.args.input.now)

pub returns-clause-few : goal.returns-clause-few
returns-clause-few c =
    let none : length c.loop-rest.rest.now ≡ 0 = grind (arith, c.is_empty.ensures, c.loop-rest-test.false) in
    let all = finished c.args.input.now c.loop-rest.rest.now c.loop-rest.lines none c.loop-rest.invariant.0 in
    omega (arith, ap length all, length-lines_to_answer c.args.input.now, c.loop-rest.invariant.1, no_lines c.loop-rest.rest.now none)

pub returns-then-count-eq-LINE_LIMIT-clause-refused : goal.returns-then-count-eq-LINE_LIMIT-clause-refused
returns-then-count-eq-LINE_LIMIT-clause-refused c =
    let rest = c.loop-rest.rest.now in
    let some : 0 < length rest = grind (arith, c.is_empty.ensures, c.loop-rest-test.true) in
    omega (arith, ap length (lines_of-first rest some), c.loop-rest.invariant.1)

pub loop-rest-preserved-in-Ok : goal.loop-rest-preserved-in-Ok
loop-rest-preserved-in-Ok c =
    let rest = c.loop-rest.rest.now in
    let cut = c.cut_at_feed.ensures in
    let line = c.without_return-line.ensures ∙ ap without_return cut.before in
    let some : 0 < length rest = grind (arith, c.is_empty.ensures, c.loop-rest-test.true) in (
      added c.args.input.now rest c.without_return-line.result.now c.cut_at_feed.result.1.now c.loop-rest.lines c.push.new.self c.in_ok-line_of.field-0 some line cut.after c.if-not-is_blank.ensures c.in_ok-line_of.ensures c.in-Ok.ensures.ok c.loop-rest.invariant.0,
      counted c.args.input.now rest c.cut_at_feed.result.1.now c.loop-rest.count some cut.after c.loop-rest.invariant.1,
      omega arith,
    )

pub loop-rest-preserved : goal.loop-rest-preserved
loop-rest-preserved c =
    let rest = c.loop-rest.rest.now in
    let cut = c.cut_at_feed.ensures in
    let line = c.without_return-line.ensures ∙ ap without_return cut.before in
    let some : 0 < length rest = grind (arith, c.is_empty.ensures, c.loop-rest-test.true) in (
      passed c.args.input.now rest c.without_return-line.result.now c.cut_at_feed.result.1.now c.loop-rest.lines some line cut.after c.if-not-is_blank.ensures c.loop-rest.invariant.0,
      counted c.args.input.now rest c.cut_at_feed.result.1.now c.loop-rest.count some cut.after c.loop-rest.invariant.1,
      omega arith,
    )
