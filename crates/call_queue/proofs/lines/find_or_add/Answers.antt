use Rattle.std.proofs.Common.{◌≡◌, List, length, bytes_eq, sym, ap, subst, ◌∙◌, arith}
use Rattle.std.specs.List.{position_or_len}
use Rattle.call_queue.specs.Lines.{LineView}
use Rattle.call_queue.specs.Queues.{KeepsAll, IsPlaceOf, line_of}
use Rattle.call_queue.specs.declared.lines.NamedLine.{NamedLine}
use Rattle.call_queue.proofs.Naming.{no_line, added_keeps, added_place}
use Rattle.call_queue.proofs.lines.find_or_add.Goals as goal

pub returns-in_err-name-clause-room : goal.returns-in_err-name-clause-room
returns-in_err-name-clause-room c = λ h.
    let first : c.place_of-place.result ≡ position_or_len (λ (n : NamedLine). bytes_eq n.name c.args.name.now) c.args.lines.now.items =
    c.place_of-place.ensures.place ∙ ap (position_or_len (λ (n : NamedLine). bytes_eq n.name c.args.name.now)) c.as_slice.ensures.value in
    let whole : c.place_of-place.result ≡ length c.args.lines.now.items = c.if-place-len.true ∙ c.len.ensures ∙ sym c.as_slice.ensures.len ∙ ap length c.as_slice.ensures.value in
    let room : (line_of c.args.lines.now.items c.args.name.now).room ≡ 0 = ap (λ (l : LineView). l.room) (no_line c.args.lines.now.items c.args.name.now (sym whole ∙ first)) in
    absurd (omega arith)

pub returns-in_err-push-clause-room : goal.returns-in_err-push-clause-room
returns-in_err-push-clause-room c = λ h.
    let first : c.place_of-place.result ≡ position_or_len (λ (n : NamedLine). bytes_eq n.name c.args.name.now) c.args.lines.now.items =
    c.place_of-place.ensures.place ∙ ap (position_or_len (λ (n : NamedLine). bytes_eq n.name c.args.name.now)) c.as_slice.ensures.value in
    let whole : c.place_of-place.result ≡ length c.args.lines.now.items = c.if-place-len.true ∙ c.len.ensures ∙ sym c.as_slice.ensures.len ∙ ap length c.as_slice.ensures.value in
    let room : (line_of c.args.lines.now.items c.args.name.now).room ≡ 0 = ap (λ (l : LineView). l.room) (no_line c.args.lines.now.items c.args.name.now (sym whole ∙ first)) in
    absurd (omega arith)

pub returns-in_ok-push-clause-place : goal.returns-in_ok-push-clause-place
returns-in_ok-push-clause-place c =
    let first : c.place_of-place.result ≡ position_or_len (λ (n : NamedLine). bytes_eq n.name c.args.name.now) c.args.lines.now.items =
    c.place_of-place.ensures.place ∙ ap (position_or_len (λ (n : NamedLine). bytes_eq n.name c.args.name.now)) c.as_slice.ensures.value in
    let whole : c.place_of-place.result ≡ length c.args.lines.now.items = c.if-place-len.true ∙ c.len.ensures ∙ sym c.as_slice.ensures.len ∙ ap length c.as_slice.ensures.value in
    subst (λ (lines : List NamedLine). IsPlaceOf lines c.args.name.now c.place_of-place.result) (sym c.in_ok-push.ensures.items)
    (added_place c.args.lines.now.items c.args.name.now (record { name = c.in_ok-name.name; line = c.empty-line.result }) c.place_of-place.result whole first c.in_ok-name.ensures)

pub returns-in_ok-push-clause-lines : goal.returns-in_ok-push-clause-lines
returns-in_ok-push-clause-lines c =
    subst (KeepsAll c.args.lines.now.items) (sym c.in_ok-push.ensures.items)
    (added_keeps c.args.lines.now.items (record { name = c.in_ok-name.name; line = c.empty-line.result }) c.empty-line.ensures)
