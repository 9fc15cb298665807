-- What a call comes to, by the reply of one attempt.
use Rattle.std.proofs.Common.{◌≡◌, ◌+◌, ◌-◌, ◌<◌, ◌&&◌, nat_lt, ℕ, suc, List, Bool, true, false, Option, Some, None, add-one, refl, sym, ap, ◌∙◌, arith}
use Rattle.sp_value.specs.Patterns.{fits_some}
use Rattle.sp_value.specs.declared.cell.Cell.{Cell}
use Rattle.plain_program.specs.Known.{seen_of}
use Rattle.sp_model.specs.Settling.{Seen, whole, Again, Refuse, is_ignored, is_retried, attempts_of, judged, settled_by, settled_in, settled_from}
use Rattle.sp_model.specs.declared.call.Ending.{Ending}
use Rattle.sp_model.specs.declared.call.Ending.TheVariants.{End, Error}
use Rattle.sp_model.specs.declared.call.Reply.{Reply}
use Rattle.sp_model.specs.declared.declaration.Retry.{Retry}
use Rattle.sp_model.specs.declared.declaration.Rule.{Rule}
use Rattle.sp_model.specs.declared.outcome.Settled.{Settled}
use Rattle.sp_model.specs.declared.outcome.Settled.TheVariants.{Items, Refused}

module _ (rule : Rule) (replies : ℕ → Seen) (a : ℕ) where
  abbrev by : Seen → Option Settled
  by s = settled_by (judged rule a s.ending) s.items a (settled_in (attempts_of rule.retry - a) rule replies (suc a))

  pub none_settles : seen_of None ≡ replies a → None ≡ settled_from rule replies a
  none_settles e = ap by e

  pub end_settles : (items : List Cell) → seen_of (Some (record { items = items; ending = End })) ≡ replies a → Some (Items items) ≡ settled_from rule replies a
  end_settles items e = ap by e

  ignored_by : (ignored : Bool) (text : List ℕ) (items : List Cell) → is_ignored rule.ignore text ≡ ignored → ignored ≡ true
      → Some (Items items) ≡ by (seen_of (Some (record { items = items; ending = Error text })))
  ignored_by ignored text items e h = rw (e ∙ h) refl

  pub ignored_settles : (items : List Cell) (text : List ℕ) → seen_of (Some (record { items = items; ending = Error text })) ≡ replies a → is_ignored rule.ignore text ≡ true
      → Some (Items items) ≡ settled_from rule replies a
  ignored_settles items text e h = ignored_by true text items h refl ∙ ap by e

  pub refused_settles : (items : List Cell) (text : List ℕ) → seen_of (Some (record { items = items; ending = Error text })) ≡ replies a → is_ignored rule.ignore text ≡ false → is_retried rule.retry a text ≡ false
      → Some (Refused a text) ≡ settled_from rule replies a
  refused_settles items text e h k =
      let here : Some (Refused a text) ≡ by (seen_of (Some (record { items = items; ending = Error text }))) = rw (h, k) refl in
      here ∙ ap by e

right : (a b : Bool) → (a && b) ≡ true → b ≡ true
right a b h = grind arith

pub retried_below : (retry : Option Retry) (a : ℕ) (text : List ℕ) → is_retried retry a text ≡ true → a < attempts_of retry
retried_below None a text h = grind arith
retried_below (Some r) a text h = let e : nat_lt a r.attempts ≡ true = right (fits_some r.patterns text) (nat_lt a r.attempts) h in grind (arith, e)

module _ (rule : Rule) (replies : ℕ → Seen) (a : ℕ) where
  pub again_settles : (items : List Cell) (text : List ℕ) → seen_of (Some (record { items = items; ending = Error text })) ≡ replies a → is_ignored rule.ignore text ≡ false → is_retried rule.retry a text ≡ true
      → settled_from rule replies (suc a) ≡ settled_from rule replies a
  again_settles items text e h k =
      let below : a < attempts_of rule.retry = retried_below rule.retry a text k in
      let fuel : suc (attempts_of rule.retry - suc a) ≡ attempts_of rule.retry - a = omega arith in
      let here : settled_in (attempts_of rule.retry - a) rule replies (suc a) ≡ by rule replies a (seen_of (Some (record { items = items; ending = Error text }))) = rw (h, k) refl in
      ap (λ n. settled_in n rule replies (suc a)) fuel ∙ here ∙ ap (by rule replies a) e

  pub again_later : (later : Option Settled) (known : Option Reply) (reply : Reply) (text : List ℕ) → later ≡ settled_from rule replies (a + 1)
      → seen_of known ≡ replies a → known ≡ Some reply → reply.ending ≡ Error text → is_ignored rule.ignore text ≡ false → is_retried rule.retry a text ≡ true
      → later ≡ settled_from rule replies a
  again_later later known reply text l e is at h k =
      let below : a < attempts_of rule.retry = retried_below rule.retry a text k in
      let fuel : suc (attempts_of rule.retry - suc a) ≡ attempts_of rule.retry - a = omega arith in
      let judgement : judged rule a (Some reply.ending) ≡ Again = ap (λ ending. judged rule a (Some ending)) at ∙ (rw (h, k) refl) in
      let here : settled_in (attempts_of rule.retry - a) rule replies (suc a) ≡ by rule replies a (whole reply) =
      sym (ap (λ v. settled_by v reply.items a (settled_in (attempts_of rule.retry - a) rule replies (suc a))) judgement) in
      l ∙ ap (λ b. settled_from rule replies b) (add-one a) ∙ ap (λ n. settled_in n rule replies (suc a)) fuel ∙ here ∙ ap (λ o. by rule replies a (seen_of o)) (sym is) ∙ ap (by rule replies a) e

pub judged_refused : (rule : Rule) (a : ℕ) (ending : Ending) (text : List ℕ) → ending ≡ Error text → is_ignored rule.ignore text ≡ false → is_retried rule.retry a text ≡ false
    → judged rule a (Some ending) ≡ Refuse text
judged_refused rule a ending text at h k = ap (λ e. judged rule a (Some e)) at ∙ (rw (h, k) refl)
