-- What a desk has of its own.
use Rattle.std.specs.Prelude.{◌≡◌, ℕ, ◌+◌, ◌-◌, ◌^◌, List, min, Contains}
use Rattle.sp_model.specs.declared.settings.Settings.{Settings}

-- the settings of the run, the tick of its last reading of the clock, how many scans it has counted, and the connections that it knows
-- to be gone, by their numbers among the plain ones, with their losses
pub record DeskState : Type 0 where
  pub settings : Settings
  pub tick : ℕ
  pub scans : ℕ
  pub gone : List (ℕ × ℕ)

-- the state after a reading of the clock
abbrev pub at_tick : ℕ → DeskState → DeskState
at_tick tick s = record { settings = s.settings; tick = tick; scans = s.scans; gone = s.gone }

-- the state after one scan more; the count stays at its greatest number
abbrev pub scan_counted : DeskState → DeskState
scan_counted s = record { settings = s.settings; tick = s.tick; scans = min (s.scans + 1) (2 ^ 64 - 1); gone = s.gone }

-- a connection that is gone stays gone
abbrev pub StayGone : DeskState → DeskState → Type 0
StayGone before after = (connection losses : ℕ) → Contains before.gone (connection, losses) → Contains after.gone (connection, losses)

-- the settings, the tick and the count of scans stay
pub record IsStill (before after : DeskState) : Type 0 where
  pub settings : after.settings ≡ before.settings
  pub tick : after.tick ≡ before.tick
  pub scans : after.scans ≡ before.scans
  pub gone : StayGone before after
