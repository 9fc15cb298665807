-- A line is what its first byte makes of it.
use Rattle.std.proofs.Common.{◌≡◌, IfOk, arith, sym, ◌∙◌, subst, ◌≢◌, ◌∷◌, List, ℕ, Some, None}
use Rattle.std.proofs.lemmas.Str.Pattern.{strip_prefix_char}
use Rattle.input_lines.specs.declared.line.Line.{Line}
use Rattle.input_lines.specs.Lines.{session_line}
use Rattle.input_lines.proofs.Marks.{not_text, line_marked, line_plain}
use Rattle.input_lines.proofs.form.line_of.Goals as goal

pub returns-in_default : goal.returns-in_default
returns-in_default c = not_text c.args.line.now c.in_default.ensures.cases.0

pub returns-in-Some : goal.returns-in-Some
returns-in-Some c =
    let begins = strip_prefix_char 64 c.in-Ok.text.now (Some c.in-Some.rest) c.in-Some.ensures.cases (omega arith) in
    subst (λ (x : Line). IfOk c.marked_line.result (λ l. l ≡ x)) (line_marked c.args.line.now c.in-Some.rest.now c.in-Ok.ensures.cases.1 (sym c.in-Ok.ensures.cases.0 ∙ begins)) c.marked_line.ensures

pub returns-in-None : goal.returns-in-None
returns-in-None c =
    let other : (rest : List ℕ) → c.args.line.now ≢ 64 ∷ rest = λ rest e. strip_prefix_char 64 c.in-Ok.text.now None c.in-None.ensures.cases (omega arith) rest (c.in-Ok.ensures.cases.0 ∙ e) in
    let first : IfOk c.session_line.result (λ l. l ≡ session_line 1 c.args.line.now) = subst (λ (t : List ℕ). IfOk c.session_line.result (λ l. l ≡ session_line 1 t)) c.in-Ok.ensures.cases.0 c.session_line.ensures in
    subst (λ (x : Line). IfOk c.session_line.result (λ l. l ≡ x)) (line_plain c.args.line.now c.in-Ok.ensures.cases.1 other) first
