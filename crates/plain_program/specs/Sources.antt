-- The plain program's own types, as the definitions have them.
use Rattle.std.specs.Prelude.{ℕ, ◌+◌, ◌<◌, ◌^◌}
use Rattle.sp_model.specs.Walk as walks
use Rattle.sp_model.specs.declared.outcome.Walk.{Walk}
use Rattle.plain_program.specs.declared.walking.Next.{Next}
use Rattle.plain_program.specs.declared.walking.Next.TheVariants.{Done, Again}
use Rattle.plain_program.specs.declared.walking.Source.{Source}

abbrev pub source_of : Source → walks.Source
source_of s = record { function = s.function; rule = s.rule; single = s.single }

-- the walk that an attempt ends in, where `again` is that of the next attempt
abbrev pub next_of : Next → Walk → Walk
next_of (Done w) again = w
next_of Again again = again

-- a next attempt is within the rule's number, and within 32 bits
abbrev pub IsBelow : Next → ℕ → ℕ → Type 0
IsBelow (Done w) attempt attempts = Unit {0}
IsBelow Again attempt attempts = (attempt < attempts) × (attempt + 1 < 2 ^ 32)
