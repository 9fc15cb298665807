-- A walk, by the reply of one attempt.
use Rattle.std.proofs.Common.{◌≡◌, ◌+◌, ◌-◌, ◌<◌, ℕ, suc, List, length, Option, Some, None, add-one, sym, ap, ◌∙◌, arith}
use Rattle.sp_value.specs.declared.cell.Cell.{Cell}
use Rattle.sp_model.specs.Settling.{Seen, attempts_of, judged}
use Rattle.sp_model.specs.Walk.{Source, and_then, visit_all, ended, unsteady, walk_in, walk_from}
use Rattle.sp_model.specs.declared.call.Reply.{Reply}
use Rattle.sp_model.specs.declared.outcome.Walk.{Walk}
use Rattle.sp_model.specs.declared.outcome.Walk.TheVariants.{Waiting}
use Rattle.sp_model.specs.declared.outcome.WalkState.{WalkState}
use Rattle.plain_program.specs.Known.{seen_of}
use Rattle.plain_program.specs.Sources.{next_of, IsBelow}
use Rattle.plain_program.specs.declared.walking.Next.{Next}
use Rattle.plain_program.specs.declared.walking.Next.TheVariants.{Done, Again}

module _ (visit : Cell → WalkState → Walk) (source : Source) (replies : ℕ → Seen) (a : ℕ) (s : WalkState) where
  abbrev later : Walk
  later = walk_in (attempts_of source.rule.retry - a) visit source replies (suc a) (unsteady s)

  abbrev by : Seen → Walk
  by seen = and_then (visit_all visit seen.items s) (λ t. ended source a (judged source.rule a seen.ending) (length seen.items) t later)

  pub walk_none : seen_of None ≡ replies a → Waiting ≡ walk_from visit source replies a s
  walk_none e = ap by e

  module _ (known : Option Reply) (reply : Reply) (items : List Cell) (count : ℕ) (walked : Walk) (next : Next) (e : seen_of known ≡ replies a) (is : known ≡ Some reply) (same : items ≡ reply.items)
      (counted : count ≡ length reply.items) (walks : walked ≡ visit_all visit items s)
      (ends : (again : Walk) → next_of next again ≡ and_then walked (λ t. ended source a (judged source.rule a (Some reply.ending)) count t again)) where
    goes_on : next_of next later ≡ walk_from visit source replies a s
    goes_on = ends later ∙ ap (λ n. and_then walked (λ t. ended source a (judged source.rule a (Some reply.ending)) n t later)) counted
        ∙ ap (λ w. and_then w (λ t. ended source a (judged source.rule a (Some reply.ending)) (length reply.items) t later)) (walks ∙ ap (λ xs. visit_all visit xs s) same)
        ∙ ap (λ o. by (seen_of o)) (sym is) ∙ ap by e

    pub walk_done : (w : Walk) → next ≡ Done w → w ≡ walk_from visit source replies a s
    walk_done w done = ap (λ n. next_of n later) (sym done) ∙ goes_on

    pub walk_again : (w : Walk) (entry began : WalkState) → next ≡ Again → a < attempts_of source.rule.retry → entry ≡ unsteady began → began ≡ s → w ≡ walk_from visit source replies (a + 1) entry
        → w ≡ walk_from visit source replies a s
    walk_again w entry began again below unsteady_is copied h =
        let fuel : suc (attempts_of source.rule.retry - suc a) ≡ attempts_of source.rule.retry - a = omega arith in
        h ∙ ap (λ t. walk_from visit source replies (a + 1) t) (unsteady_is ∙ ap unsteady copied) ∙ ap (λ b. walk_from visit source replies b (unsteady s)) (add-one a)
        ∙ ap (λ n. walk_in n visit source replies (suc a) (unsteady s)) fuel ∙ ap (λ n. next_of n later) (sym again) ∙ goes_on

-- a call is asked again only below the rule's number of attempts
pub again_below : (next : Next) (attempt attempts : ℕ) → next ≡ Again → IsBelow next attempt attempts → attempt < attempts
again_below (Done w) attempt attempts e h = cc
again_below Again attempt attempts e h = h.0
