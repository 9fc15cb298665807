use Rattle.std.proofs.Common.{suc, take, drop, subst, sym, ap, ◌∙◌, add-one, arith}
use Rattle.std.specs.Prelude.{Result, Ok, Err, OnErr}
use Rattle.std.specs.Io.KnownBytes.{Appends}
use Rattle.std.proofs.KnownBytes.{Appends-trans}
use Rattle.sp_outside.specs.Writing.{GrewByPrefix}
use Rattle.sp_world.specs.ReplyLines.{Item}
use Rattle.plugin_kit.specs.Replies.{line_text}
use Rattle.plugin_kit.specs.Said.{items_text}
use Rattle.plugin_kit.proofs.Items.{items_to, items_at}
use Rattle.plugin_kit.proofs.Writing.{begun_after, begun_more}
use Rattle.plugin_kit.proofs.answering.say_items.Goals as goal

at_err : {T E : Type 0} (r : Result T E) (P : Type 0) → P → OnErr r P
at_err (Ok x) P p = tt
at_err (Err e) P p = p

pub returns-in_err-say_item-clause-part : goal.returns-in_err-say_item-clause-part
returns-in_err-say_item-clause-part g c =
    let id = c.args.id in
    let items = c.args.items.now in
    let k = c.loop-item.item-index in
    let x = c.item-item.result in
    let held = g.O.Sink.held in
    at_err c.from_residual.result _ (subst (GrewByPrefix (held c.args.sink.now) (held c.say_item.new.sink)) (sym (items_at id k items x c.loop-item-test.true c.item-item.is))
    (begun_after (held c.args.sink.now) (held c.loop-item.sink) (held c.say_item.new.sink) (items_text id (take k items)) _ c.loop-item.invariant.written
    (begun_more (held c.loop-item.sink) (held c.say_item.new.sink) (line_text (Item id x)) (items_text id (drop (suc k) items)) c.in_err-say_item.ensures.part)))

pub loop-item-preserved : goal.loop-item-preserved
loop-item-preserved g c =
    let id = c.args.id in
    let items = c.args.items.now in
    let k = c.loop-item.item-index in
    let x = c.item-item.result in
    let held = g.O.Sink.held in
    record {
      written = subst (Appends (held c.args.sink.now) (held c.say_item.new.sink))
          (sym (ap (λ n. items_text id (take n items)) (add-one k) ∙ items_to id k items x c.loop-item-test.true c.item-item.is))
          (Appends-trans (held c.args.sink.now) (held c.loop-item.sink) (held c.say_item.new.sink) (items_text id (take k items)) (line_text (Item id x))
          c.loop-item.invariant.written c.in_ok-say_item.ensures.whole);
      later = omega (arith, c.loop-item.invariant.later, c.say_item.ensures.later);
    }
