-- What a load wrote, and the children that came back.
use Rattle.std.proofs.Common.{◌≡◌, ◌≤◌, ℕ, Bool, true, false, List, [], ◌++◌, map, take, Option, ◌⊎◌, inl, inr, refl, arith}
use Rattle.std.specs.Prelude.{if◌then◌else◌}
use Rattle.std.specs.Io.KnownBytes.{Appends}
use Rattle.answer_text.specs.declared.answer.Form.{Form}
use Rattle.load_gen.specs.Summary.{load_settings}
use Rattle.run_lines.specs.declared.block.Block.{Block}
use Rattle.sp_outside.specs.Files.{FileTold}
use Rattle.sp_outside.specs.declared.child.Child.{Ghosts as Child}
use Rattle.sp_world.specs.declared.world.World.{Ghosts as World}
use Rattle.run_lines.specs.Blocks.{CameBack, with_child}
use Rattle.steampipe_top.specs.Running.{IfAnswered, AsksToLoad, AreReturned, blocks_status, any_memory, all_rows}
use Rattle.steampipe_top.specs.Loading.{load_text, IsLoadWritten}
use Rattle.steampipe_top.specs.declared.status.Status.{Status}
use Rattle.steampipe_top.specs.declared.status.Status.TheVariants.{Done, Failed, Usage, Settings, FileFault, ReadFault, InputLimit, WriteFault, Memory}
use Rattle.steampipe_top.proofs.Answered.{IsEnd, ended}

-- blocks whose text was written are loaded so, by their status
pub loaded_so : (S : Type 0) (form : Form) (blocks : List Block) (calls : ℕ) (held held_after : Option (List ℕ)) → Appends held held_after (load_text form blocks calls)
    → IfAnswered (blocks_status blocks) S (IsLoadWritten form (blocks_status blocks) blocks calls held held_after)
loaded_so S form blocks calls held held_after answers = by (blocks_status blocks) refl (ended (any_memory blocks) (all_rows blocks))
  where
    by : (s : Status) → s ≡ blocks_status blocks → IsEnd s → IfAnswered s S (IsLoadWritten form s blocks calls held held_after)
    by Done is end = (is, answers)
    by Failed is end = (is, answers)
    by Memory is end = inr (is, answers)
    by Usage is never = absurd never
    by Settings is never = absurd never
    by FileFault is never = absurd never
    by ReadFault is never = absurd never
    by InputLimit is never = absurd never
    by WriteFault is never = absurd never

-- what follows of a run that answered
pub if_answered : (s : Status) (S P Q : Type 0) → (P → Q) → IfAnswered s S P → IfAnswered s S Q
if_answered Done S P Q f h = f h
if_answered Failed S P Q f h = f h
if_answered WriteFault S P Q f h = f h
if_answered Memory S P Q f (inl silent) = inl silent
if_answered Memory S P Q f (inr h) = inr (f h)
if_answered Usage S P Q f h = tt
if_answered Settings S P Q f h = tt
if_answered FileFault S P Q f h = tt
if_answered ReadFault S P Q f h = tt
if_answered InputLimit S P Q f h = tt

-- the children of a load came back by the settings that its words name
pub came_by_load : {K W : Type 0} (kid : Child K W) (world : World W) (words : List (List ℕ)) (files : List ℕ → FileTold) (back back_after : List K) (count : ℕ) (form : Form) → AsksToLoad words count form
    → (back_after ≡ back) ⊎ ((children : List K) × CameBack kid world (with_child load_settings.connections) back back_after children) → AreReturned kid world words files back back_after
came_by_load kid world words files back back_after count form asks (inl same) = inl same
came_by_load kid world words files back back_after count form asks (inr came) = inr (load_settings, inr (count, form, asks, refl), came)
