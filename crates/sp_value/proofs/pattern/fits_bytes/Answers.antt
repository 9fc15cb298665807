use Rattle.std.proofs.Common.{◌≡◌, ◌+◌, ◌-◌, ◌<◌, ◌&&◌, length, take, drop, true, sym, ap, ◌∙◌, arith}
use Rattle.std.proofs.lemmas.List.{take_all}
use Rattle.sp_value.specs.Patterns.{fits, some_end, is_literal}
use Rattle.sp_value.proofs.Greedy.{literal_fits, first_piece, cut}
use Rattle.sp_value.proofs.pattern.fits_bytes.Goals as goal

pub returns-then-first-pattern : goal.returns-then-first-pattern
returns-then-first-pattern c =
    let pattern = c.args.pattern.now in
    let n = c.piece_len-first.result in
    let literal : is_literal pattern ≡ true = ap is_literal (sym (take_all n pattern (omega arith))) ∙ c.piece_len-first.ensures.literal in
    c.eq.ensures ∙ sym (literal_fits pattern c.args.text.now literal)

pub returns-then-starts_with : goal.returns-then-starts_with
returns-then-starts_with c =
    let pattern = c.args.pattern.now in
    let n = c.piece_len-first.result in
    let before : n < length pattern = omega (arith, c.piece_len-first.ensures.within) in
    let whole = first_piece pattern c.args.text.now n c.piece_len-first.ensures.within c.piece_len-first.ensures.literal (c.piece_len-first.ensures.star before) in
    c.some_end_fits.ensures ∙ ap (λ ps. some_end (fits ps) (take (length c.args.text.now - n) (drop n c.args.text.now))) (cut pattern (n + 1)) ∙ ap (some_end (fits (drop (n + 1) pattern))) (cut c.args.text.now n) ∙ sym (whole ∙ ap (λ b. b && some_end (fits (drop (n + 1) pattern)) (drop n c.args.text.now)) (sym c.starts_with.ensures.value ∙ c.if-starts_with.true))

pub returns-else-starts_with : goal.returns-else-starts_with
returns-else-starts_with c =
    let pattern = c.args.pattern.now in
    let n = c.piece_len-first.result in
    let before : n < length pattern = omega (arith, c.piece_len-first.ensures.within) in
    let whole = first_piece pattern c.args.text.now n c.piece_len-first.ensures.within c.piece_len-first.ensures.literal (c.piece_len-first.ensures.star before) in
    c.if-starts_with.false ∙ sym (whole ∙ ap (λ b. b && some_end (fits (drop (n + 1) pattern)) (drop n c.args.text.now)) (sym c.starts_with.ensures.value ∙ c.if-starts_with.false))
