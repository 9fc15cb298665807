-- The answers to the lines of an input.
use Rattle.std.specs.Prelude.{◌≡◌, ℕ, ◌+◌, ◌≤◌, not, List, [], ◌∷◌, ◌++◌, length, map, filter, take, slice_get, Some, IsTrue}
use Rattle.std.specs.List.{AllByRecursion}
use Rattle.sp_model.specs.Book.{Book}
use Rattle.sp_model.specs.Sayable.{KeepsForms}
use Rattle.sp_model.specs.declared.settings.Connection.{Connection}
use Rattle.sp_model.specs.declared.settings.Options.{Options}
use Rattle.sp_model.specs.declared.settings.Settings.{Settings}
use Rattle.sp_outside.specs.declared.child.Child.{Ghosts as Child}
use Rattle.sp_world.specs.declared.world.World.{Ghosts as World}
use Rattle.child_link.specs.Heard.{HeardLawfully}
use Rattle.input_lines.specs.declared.line.Line.{Line}
use Rattle.input_lines.specs.declared.line.Line.TheVariants.{Statement, ClearCache, BadForm}
use Rattle.statement_words.specs.Advances.{AreTrue}
use Rattle.statement_run.specs.Answers.{refused, answer_ticks, IsAnswer, IsByText, IfSpent}
use Rattle.statement_run.specs.declared.answer.Answer.{Answer}
use Rattle.statement_run.specs.declared.answer.BlockFault.TheVariants as fault
use Rattle.run_lines.specs.declared.block.Block.{Block}

-- a block answers a line: a statement's so; the cache is cleared by a later version
abbrev pub IsBlockSo : (List ℕ → Answer → Type 0) → Line → Block → Type 0
IsBlockSo P (Statement session text) b = (b.session ≡ session) × P text b.answer
IsBlockSo P (ClearCache session) b = (b.session ≡ session) × (b.answer ≡ refused b.answer.began fault.NotYet)
IsBlockSo P BadForm b = b ≡ record { session = 1; answer = refused 0 fault.LineForm }

-- one block for each line, in their order
abbrev pub AreBlocksSo : (List ℕ → Answer → Type 0) → List Line → List Block → Type 0
AreBlocksSo P [] [] = Unit {0}
AreBlocksSo P (l ∷ ls) (b ∷ bs) = IsBlockSo P l b × AreBlocksSo P ls bs
AreBlocksSo P _ _ = ⊥

-- the answers to lines by the book
abbrev pub AreAnswers : Book → Settings → List Line → List Block → Type 0
AreAnswers book settings lines blocks = AreBlocksSo (IsAnswer book settings) lines blocks

-- the refusals that lines and settings decide come exactly there
abbrev pub AreByText : Settings → List Line → List Block → Type 0
AreByText settings lines blocks = AreBlocksSo (IsByText settings) lines blocks

-- the notes of each block are true
abbrev pub AreTrulyNoted : Book → Options → List Block → Type 0
AreTrulyNoted book options [] = Unit {0}
AreTrulyNoted book options (b ∷ bs) = AreTrue book options b.answer.began b.answer.notes × AreTrulyNoted book options bs

-- the ticks of an answer to a line; a line of bad form is answered at none
abbrev pub line_ticks : Line → Block → List ℕ
line_ticks (Statement session text) b = answer_ticks b.answer
line_ticks (ClearCache session) b = answer_ticks b.answer
line_ticks BadForm b = []

-- those of the answers to lines, in their order
abbrev pub block_ticks : List Line → List Block → List ℕ
block_ticks [] bs = []
block_ticks (l ∷ ls) [] = []
block_ticks (l ∷ ls) (b ∷ bs) = line_ticks l b ++ block_ticks ls bs

-- each spent restart budget is of a connection and a number of losses with this property
abbrev pub AllSpent : (List ℕ → ℕ → Type 0) → List Block → Type 0
AllSpent P [] = Unit {0}
AllSpent P (b ∷ bs) = IfSpent b.answer.end P × AllSpent P bs

-- ---- children

-- the connections that have a child: those that are no aggregator
abbrev pub with_child : List Connection → List Connection
with_child connections = filter (λ c. not c.aggregator) connections

-- the child of the connection of a name was lost once more than the restart budget; its losses are counted, by its faults and the lines
-- that it gave, and where the children tell and are honest by its faults alone
pub record HasLostChild {Kid W : Type 0} (kid : Child Kid W) (world : World W) (budget : ℕ) (connections : List Connection) (children : List Kid) (name : List ℕ) (losses : ℕ) : Type 0 where
  pub place : ℕ
  pub connection : Connection
  pub child : Kid
  pub named : (slice_get connections place ≡ Some connection) × (connection.name ≡ name)
  pub beside : slice_get children place ≡ Some child
  pub spent : losses ≡ budget + 1
  pub counted : losses ≤ kid.faulted child + kid.gives child
  pub by_faults : IsTrue world.tells → KeepsForms world.book → losses ≤ kid.faulted child

-- where these children tell, each heard only lawful requests of its own connection
abbrev pub AllHeardLawfully : {Kid W : Type 0} → Child Kid W → World W → List Kid → Type 0
AllHeardLawfully kid world children = IsTrue world.tells → AllByRecursion (λ child. HeardLawfully world.tells world.book (kid.connection child) (kid.log child)) children

-- these children came back, those of the first connections, in their order, and heard only lawful requests
pub record CameBack {Kid W : Type 0} (kid : Child Kid W) (world : World W) (connections : List Connection) (back back_after children : List Kid) : Type 0 where
  pub after : back_after ≡ back ++ children
  pub of_first : map kid.connection children ≡ map (λ c. c.name) (take (length children) connections)
  pub heard : AllHeardLawfully kid world children

-- the children of all connections came back, and each spent restart budget has its lost child among them
pub record AreOver {Kid W : Type 0} (kid : Child Kid W) (world : World W) (budget : ℕ) (connections : List Connection) (back back_after : List Kid) (blocks : List Block) : Type 0 where
  pub children : List Kid
  pub after : back_after ≡ back ++ children
  pub of_all : map kid.connection children ≡ map (λ c. c.name) connections
  pub lost : AllSpent (HasLostChild kid world budget connections children) blocks
