-- The lost child of a connection that is gone.
use Rattle.std.proofs.Common.{◌≡◌, ◌≤◌, ◌+◌, ℕ, List, map, Option, Some, None, refl, sym, subst}
use Rattle.std.specs.Prelude.{IsSomeAnd, slice_get}
use Rattle.sp_model.specs.declared.settings.Connection.{Connection}
use Rattle.sp_model.specs.declared.settings.Settings.{Settings}
use Rattle.sp_outside.specs.declared.child.Child.{Ghosts as Child}
use Rattle.sp_world.specs.declared.world.World.{Ghosts as World}
use Rattle.desk.specs.States.{DeskState}
use Rattle.plain_desk.specs.Lost.{HasLost, IsGone as IsSlotGone, AreGone}
use Rattle.plain_desk.specs.declared.slot_parts.SlotParts.{SlotParts}
use Rattle.statement_words.specs.Runs.{plain_names, IsGone}
use Rattle.run_lines.specs.Blocks.{AllSpent, HasLostChild, with_child}
use Rattle.run_lines.specs.declared.block.Block.{Block}
use Rattle.run_lines.proofs.BlockLaws.{spent_maps}
use Rattle.run_lines.proofs.ChildLaws.{names, named_at, mapped_at}

module _ {X Kid W : Type 0} (kid : Child Kid W) (world : World W) where
  abbrev Lost : List Connection → List (SlotParts X Kid) → List ℕ → ℕ → Type 0
  Lost connections slots name losses = HasLostChild kid world 0 (with_child connections) (map (λ (s : SlotParts X Kid). s.link.child) slots) name losses

  of_slot : (connections : List Connection) (slots : List (SlotParts X Kid)) (name : List ℕ) (number losses : ℕ) (o : Option (SlotParts X Kid)) → slice_get slots number ≡ o
      → slice_get (names (with_child connections)) number ≡ Some name → losses ≡ 1 → IsSomeAnd o (IsSlotGone (HasLost world.tells world.book kid.faulted kid.gives)) → Lost connections slots name losses
  of_slot connections slots name number losses None at of_name one gone = absurd gone
  of_slot connections slots name number losses (Some slot) at of_name one gone =
      let c = named_at (with_child connections) number name of_name in
      record {
        place = number;
        connection = c.0;
        child = slot.link.child;
        named = (c.1, c.2);
        beside = mapped_at (λ (s : SlotParts X Kid). s.link.child) slots number slot at;
        spent = one;
        counted = subst (λ n. n ≤ kid.faulted slot.link.child + kid.gives slot.link.child) (sym one) gone.1.0;
        by_faults = λ tells keeps. subst (λ n. n ≤ kid.faulted slot.link.child) (sym one) (gone.1.1 tells keeps);
      }

  was_lost : (s : DeskState) (slots : List (SlotParts X Kid)) → AreGone (HasLost world.tells world.book kid.faulted kid.gives) slots s.gone → (name : List ℕ) (losses : ℕ) → IsGone s name losses → Lost s.settings.connections slots name losses
  unfolding plain_names
  was_lost s slots gone name losses is =
      let facts = gone is.number losses is.known in
      of_slot s.settings.connections slots name is.number losses (slice_get slots is.number) refl is.of_name facts.0 facts.1

  pub all_lost : (s : DeskState) (settings : Settings) (slots : List (SlotParts X Kid)) (blocks : List Block) → s.settings ≡ settings → AreGone (HasLost world.tells world.book kid.faulted kid.gives) slots s.gone
      → AllSpent (IsGone s) blocks → AllSpent (Lost settings.connections slots) blocks
  all_lost s settings slots blocks same gone spent =
      subst (λ (x : Settings). AllSpent (Lost x.connections slots) blocks) same (spent_maps (IsGone s) (Lost s.settings.connections slots) blocks (was_lost s slots gone) spent)
