-- What is taken out doesn't remain, and the rest remains once no turn takes one out.
use Rattle.std.proofs.Common.{◌≡◌, ◌+◌, ◌≤◌, Bool, cond, filter, subst, sym, ap, ◌∙◌, arith}
use Rattle.decl_core.specs.Taking.{is_left, after_turns, at_places}
use Rattle.decl_core.proofs.Leftovers.{AreOut, none_out, turns-out, at_places-Within, none-taken, fewer-turns, staying, leftover-is}
use Rattle.decl_core.proofs.taking.taken_out.Goals as goal

pub loop-taken-init : goal.loop-taken-init
loop-taken-init c =
    let functions = c.args.functions.now in
    let order = c.as_slice.result.now in
    subst (AreOut functions) (sym c.in_ok-take_at.ensures)
    (turns-out functions c.requires.distinct (at_places functions order) c.new-taken.result (at_places-Within functions order)
    (subst (AreOut functions) (sym c.new-taken.ensures) (none_out functions)))

pub loop-taken-preserved : goal.loop-taken-preserved
loop-taken-preserved c =
    let functions = c.args.functions.now in
    subst (AreOut functions) (sym c.in_ok-take_turns.ensures.names) (turns-out functions c.requires.distinct functions c.loop-taken.taken (λ g h. h) c.loop-taken.invariant)

pub loop-taken-smaller : goal.loop-taken-smaller
loop-taken-smaller c =
    let functions = c.args.functions.now in
    let before = c.loop-taken.taken in
    let some = sym c.in_ok-take_turns.ensures.one ∙ c.if-not-branch.false in
    let fewer : staying functions (after_turns before functions) + 1 ≤ staying functions before =
    subst (λ (b : Bool). staying functions (after_turns before functions) + cond b 1 0 ≤ staying functions before) some (fewer-turns functions functions before (λ g h. h)) in
    let same : staying functions c.take_turns.new.taken ≡ staying functions (after_turns before functions) = ap (staying functions) c.in_ok-take_turns.ensures.names in
    omega (arith, fewer, same)

pub returns-then-not-branch : goal.returns-then-not-branch
returns-then-not-branch c =
    let functions = c.args.functions.now in
    let before = c.loop-taken.taken in
    let none = none-taken functions before (sym c.in_ok-take_turns.ensures.one ∙ c.if-not-branch.true) in
    leftover-is functions before c.loop-taken.invariant none.1 c.requires.known
    ∙ ap (λ taken. filter (is_left taken) functions) (sym (c.in_ok-take_turns.ensures.names ∙ none.0))
