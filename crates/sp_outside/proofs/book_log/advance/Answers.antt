use Rattle.std.proofs.Common.{◌≡◌, ◌^◌, ◌<◌, ◌+◌, true, length, vec_len, nat_lt, sym, ap, ◌∙◌, arith}
use Rattle.std.proofs.lemmas.Option.{slice_get_read}
use Rattle.sp_outside.proofs.OpenCalls.{same_call, set_advanced, remove_advanced}
use Rattle.sp_outside.proofs.book_log.advance.Goals as goal

pub overflow_add-index_mut : goal.overflow_add-index_mut
overflow_add-index_mut c =
    let calls = c.args.calls.now.items in
    let place = c.args.place in
    let a = c.index.result.now in
    let b = c.index_mut.result.now in
    let at_a = slice_get_read calls (vec_len c.args.calls.now) place a c.args.calls.now.ok.0 c.requires c.index.ensures in
    let at_b = slice_get_read calls (vec_len c.args.calls.now) place b c.args.calls.now.ok.0 c.requires c.index_mut.ensures.value in
    let same : a.call.taken ≡ b.call.taken = ap (λ x. x.call.taken) (same_call calls place a b at_a at_b) in
    let room : a.call.taken + 1 < 2 ^ 64 = c.has_more.ensures.room c.if-has_more.true in
    omega arith

pub returns-then-has_more : goal.returns-then-has_more
returns-then-has_more c =
    let calls = c.args.calls.now.items in
    let place = c.args.place in
    let a = c.index.result.now in
    let b = c.index_mut.result.now in
    let at_a = slice_get_read calls (vec_len c.args.calls.now) place a c.args.calls.now.ok.0 c.requires c.index.ensures in
    let at_b = slice_get_read calls (vec_len c.args.calls.now) place b c.args.calls.now.ok.0 c.requires c.index_mut.ensures.value in
    let more : nat_lt b.call.taken (length b.reply.items) ≡ true =
    ap (λ x. nat_lt x.call.taken (length x.reply.items)) (sym (same_call calls place a b at_a at_b)) ∙ sym c.has_more.ensures.value ∙ c.if-has_more.true in
    set_advanced calls place b at_b more

pub returns-else-has_more : goal.returns-else-has_more
returns-else-has_more c =
    let calls = c.args.calls.now.items in
    let place = c.args.place in
    let a = c.index.result.now in
    let at = slice_get_read calls (vec_len c.args.calls.now) place a c.args.calls.now.ok.0 c.requires c.index.ensures in
    c.remove.ensures.items ∙ remove_advanced calls place a at (sym c.has_more.ensures.value ∙ c.if-has_more.false)
