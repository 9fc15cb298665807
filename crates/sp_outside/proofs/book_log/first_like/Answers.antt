use Rattle.std.proofs.Common.{◌≡◌, ℕ, suc, ◌+◌, ◌<◌, ◌∙◌, sym, subst, length, get_or, drop, refl, arith, add-zero}
use Rattle.std.proofs.lemmas.Option.{slice_get-get_or}
use Rattle.sp_outside.specs.BookLog.{IsFirst}
use Rattle.sp_outside.proofs.OpenCalls.{first_here, first_later}
use Rattle.sp_outside.proofs.book_log.first_like.Goals as goal

pub returns-then-calls-place-clause-first : goal.returns-then-calls-place-clause-first
returns-then-calls-place-clause-first c =
    let calls = c.args.calls.now in
    let place = c.loop-place.place in
    let like = get_or calls c.args.at c.index-calls-at.result in
    let within : place < length calls = omega arith in
    let first = first_here calls place c.index-calls-place.result like.call.id within c.if-calls-place.true in
    record {
      like = like;
      is_there = slice_get-get_or calls c.args.at c.index-calls-at.result c.requires;
      is_first = subst (IsFirst like.call.id calls) (add-zero place) (c.loop-place.invariant 0 first);
    }

pub loop-place-preserved : goal.loop-place-preserved
loop-place-preserved c =
    let calls = c.args.calls.now in
    let place = c.loop-place.place in
    let id = (get_or calls c.args.at c.index-calls-at.result).call.id in
    let within : place < length calls = omega arith in
    λ n later.
    let count : place + suc n ≡ place + 1 + n = omega arith in
    subst (IsFirst id calls) count (c.loop-place.invariant (suc n) (first_later calls place c.index-calls-place.result id n within c.if-calls-place.false later))

pub returns-clause-first : goal.returns-clause-first
returns-clause-first c =
    let calls = c.args.calls.now in
    let at = c.args.at in
    let place = c.loop-place.place in
    let like = get_or calls at c.index-calls-at.result in
    let same : place ≡ at = omega arith in
    let first = first_here calls at c.index-calls-at.result like.call.id c.requires refl in
    let here = subst (λ (k : ℕ). IsFirst like.call.id (drop k calls) 0) (sym same) first in
    record {
      like = like;
      is_there = slice_get-get_or calls at c.index-calls-at.result c.requires;
      is_first = subst (IsFirst like.call.id calls) (add-zero place ∙ same) (c.loop-place.invariant 0 here);
    }
