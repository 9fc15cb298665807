-- Calls that are asked until they are settled.
use Rattle.std.specs.Prelude.{ℕ, zero, suc, ◌-◌, Bool, false, ◌&&◌, nat_lt, List, Option, Some, None, if◌then◌else◌}
use Rattle.sp_value.specs.Patterns.{fits_some}
use Rattle.sp_value.specs.declared.cell.Cell.{Cell}
use Rattle.sp_model.specs.Book.{Book}
use Rattle.sp_model.specs.declared.call.Call.{Call}
use Rattle.sp_model.specs.declared.call.Ending.{Ending}
use Rattle.sp_model.specs.declared.call.Ending.TheVariants.{End, Error}
use Rattle.sp_model.specs.declared.call.Reply.{Reply}
use Rattle.sp_model.specs.declared.declaration.Retry.{Retry}
use Rattle.sp_model.specs.declared.declaration.Rule.{Rule}
use Rattle.sp_model.specs.declared.declaration.TableDecl.{TableDecl}
use Rattle.sp_model.specs.declared.outcome.Settled.{Settled}
use Rattle.sp_model.specs.declared.outcome.Settled.TheVariants.{Items, Refused}

-- a reply as far as it is known: it is whole once its ending is
pub record Seen : Type 0 where
  pub items : List Cell
  pub ending : Option Ending

abbrev pub whole : Reply → Seen
whole r = record { items = r.items; ending = Some r.ending }

-- what is known of the reply to each call and attempt, at one connection and version
abbrev pub Answers : Type 0
Answers = Call → ℕ → Seen

-- all of it
abbrev pub answers_of : Book → List ℕ → ℕ → Answers
answers_of book connection version = λ call. λ attempt. whole (book.reply (record { connection = connection; version = version; call = call; attempt = attempt }))

abbrev pub or_else : {X : Type 0} → Option X → Option X → Option X
or_else (Some x) other = Some x
or_else None other = other

-- each rule by itself is the call's own, else the table's, else the plugin's
abbrev pub rule_of : TableDecl → Option (List (List ℕ)) → Option Retry → Rule
rule_of table ignore retry = record {
  ignore = or_else ignore (or_else table.ignore table.plugin.ignore);
  retry = or_else retry (or_else table.retry table.plugin.retry);
}

abbrev pub is_ignored : Option (List (List ℕ)) → List ℕ → Bool
is_ignored None text = false
is_ignored (Some patterns) text = fits_some patterns text

abbrev pub is_retried : Option Retry → ℕ → List ℕ → Bool
is_retried None attempt text = false
is_retried (Some r) attempt text = fits_some r.patterns text && nat_lt attempt r.attempts

-- how many attempts there are at most
abbrev pub attempts_of : Option Retry → ℕ
attempts_of None = 1
attempts_of (Some r) = r.attempts

-- what an ending means: the items are taken, the call is asked again, or it fails; without an ending that is open
pub data Verdict : Type 0 where
  Accept : Verdict
  Again : Verdict
  Refuse : (text : List ℕ) → Verdict
  Open : Verdict

abbrev pub judged : Rule → ℕ → Option Ending → Verdict
judged rule attempt None = Open
judged rule attempt (Some End) = Accept
judged rule attempt (Some (Error text)) = if is_ignored rule.ignore text then Accept else (if is_retried rule.retry attempt text then Again else Refuse text)

abbrev pub settled_by : Verdict → List Cell → ℕ → Option Settled → Option Settled
settled_by Accept items attempt again = Some (Items items)
settled_by Again items attempt again = again
settled_by (Refuse text) items attempt again = Some (Refused attempt text)
settled_by Open items attempt again = None

-- at most n attempts, from this one on
abbrev pub settled_in : ℕ → Rule → (ℕ → Seen) → ℕ → Option Settled
settled_in zero rule replies attempt = None
settled_in (suc n) rule replies attempt =
    settled_by (judged rule attempt (replies attempt).ending) (replies attempt).items attempt (settled_in n rule replies (suc attempt))

-- what a call comes to from this attempt on, with no delays
abbrev pub settled_from : Rule → (ℕ → Seen) → ℕ → Option Settled
settled_from rule replies attempt = settled_in (suc (attempts_of rule.retry - attempt)) rule replies attempt

-- what a call comes to
abbrev pub settled : Rule → (ℕ → Seen) → Option Settled
settled rule replies = settled_from rule replies 1
