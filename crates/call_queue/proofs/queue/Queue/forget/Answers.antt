use Rattle.std.proofs.Common.{◌≡◌, List, length, map, refl, sym, ap, ◌∙◌}
use Rattle.std.proofs.lemmas.List.{length-map}
use Rattle.call_queue.specs.Lines.{without_session}
use Rattle.call_queue.specs.Queues.{line_of, forgotten}
use Rattle.call_queue.specs.declared.lines.NamedLine.{NamedLine}
use Rattle.call_queue.proofs.Naming.{written_back, each_line}
use Rattle.call_queue.proofs.queue.Queue.forget.Goals as goal

pub returns : goal.returns
returns c = λ connection.
    let over : c.forget_all.new.lines ≡ map (forgotten c.args.session) c.self.inside.lines.items = c.forget_all.ensures ∙ ap (map (forgotten c.args.session)) c.as_mut_slice.ensures.value in
    let len : c.self.inside.lines.len ≡ length c.forget_all.new.lines = c.self.inside.lines.ok.0 ∙ sym (length-map c.self.inside.lines.items (forgotten c.args.session)) ∙ sym (ap length over) in
    ap (λ (lines : List NamedLine). line_of lines connection)
    (written_back c.self.inside.lines.len c.forget_all.new.lines _ len ∙ over ∙ ap (map (forgotten c.args.session)) c.self.view_is)
    ∙ each_line (without_session c.args.session) refl c.args.self.now connection
