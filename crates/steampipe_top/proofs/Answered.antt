-- A line that was noted, and want of memory.
use Rattle.std.proofs.Common.{◌≡◌, ◌≢◌, ℕ, Bool, true, false, List, Option, Some, None, MatchOption, Result, Ok, Err, ◌⊎◌, inl, inr, refl}
use Rattle.std.specs.Prelude.{OnOk, OnErr, if◌then◌else◌}
use Rattle.std.specs.List.{list_any}
use Rattle.std.specs.Io.KnownBytes.{Appends}
use Rattle.sp_outside.specs.Causes.{HasCause}
use Rattle.sp_outside.specs.Writing.{GrewByPrefix}
use Rattle.answer_text.specs.declared.answer.Form.{Form}
use Rattle.explain_text.specs.Blocks.{blocks_text as explained_text}
use Rattle.explain_text.specs.declared.blocks.Block.{Block as Explained}
use Rattle.run_lines.specs.declared.block.Block.{Block}
use Rattle.steampipe_top.specs.Explaining.{explained_status, IsExplanationWritten, is_refused, is_memory}
use Rattle.steampipe_top.specs.Running.{IsNoted, IfAnswered, IsWritten, blocks_status, any_memory, all_rows}
use Rattle.steampipe_top.specs.Shown.{blocks_text, notes_text}
use Rattle.steampipe_top.specs.declared.status.Status.{Status}
use Rattle.steampipe_top.specs.declared.status.Status.TheVariants.{Done, Failed, Usage, Settings, FileFault, ReadFault, InputLimit, WriteFault, Memory}

pub noted : {E : Type 0} (r : Result (Unit {0}) E) (faults faults_after : ℕ) (held held_after : Option (List ℕ)) (line : List ℕ)
    → OnOk r (Appends held held_after line) → OnErr r (GrewByPrefix held held_after line) → HasCause faults faults_after r
    → IsNoted faults faults_after held held_after line
noted (Ok u) faults faults_after held held_after line whole part cause = inl whole
noted (Err e) faults faults_after held held_after line whole part cause = inr (part, cause.failed)

-- want of memory is free, whatever the words are
pub memory_is_free : {X : Type 0} (o : Option X) → MatchOption o ((Memory ≡ Usage) ⊎ (Memory ≡ Memory)) (λ x. Memory ≢ Usage)
memory_is_free None = inr refl
memory_is_free (Some x) = λ e. absurd (cc)

-- a status of blocks is one of these three
abbrev pub IsEnd : Status → Type 0
IsEnd Done = Unit {0}
IsEnd Failed = Unit {0}
IsEnd Memory = Unit {0}
IsEnd _ = ⊥

pub ended : (memory rows : Bool) → IsEnd (if memory then Memory else (if rows then Done else Failed))
ended true rows = tt
ended false true = tt
ended false false = tt

explained_ended : (memory refused : Bool) → IsEnd (if memory then Memory else (if refused then Failed else Done))
explained_ended true refused = tt
explained_ended false true = tt
explained_ended false false = tt

-- blocks whose texts were written answer so, by their status
pub written_so : (S : Type 0) (form : Form) (blocks : List Block) (held held_after notes notes_after : Option (List ℕ)) → Appends held held_after (blocks_text form blocks)
    → Appends notes notes_after (notes_text blocks) → IfAnswered (blocks_status blocks) S (IsWritten form (blocks_status blocks) blocks held held_after notes notes_after)
written_so S form blocks held held_after notes notes_after answers noted = by (blocks_status blocks) refl (ended (any_memory blocks) (all_rows blocks))
  where
    by : (s : Status) → s ≡ blocks_status blocks → IsEnd s → IfAnswered s S (IsWritten form s blocks held held_after notes notes_after)
    by Done is end = (is, answers, noted)
    by Failed is end = (is, answers, noted)
    by Memory is end = inr (is, answers, noted)
    by Usage is never = absurd never
    by Settings is never = absurd never
    by FileFault is never = absurd never
    by ReadFault is never = absurd never
    by InputLimit is never = absurd never
    by WriteFault is never = absurd never

pub explained_so : (S : Type 0) (blocks : List Explained) (held held_after : Option (List ℕ)) → Appends held held_after (explained_text blocks)
    → IfAnswered (explained_status blocks) S (IsExplanationWritten (explained_status blocks) blocks held held_after)
explained_so S blocks held held_after answers = by (explained_status blocks) refl (explained_ended (list_any is_memory blocks) (list_any is_refused blocks))
  where
    by : (s : Status) → s ≡ explained_status blocks → IsEnd s → IfAnswered s S (IsExplanationWritten s blocks held held_after)
    by Done is end = (is, answers)
    by Failed is end = (is, answers)
    by Memory is end = inr (is, answers)
    by Usage is never = absurd never
    by Settings is never = absurd never
    by FileFault is never = absurd never
    by ReadFault is never = absurd never
    by InputLimit is never = absurd never
    by WriteFault is never = absurd never
