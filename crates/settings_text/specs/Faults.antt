-- Answers that may fail for want of memory.
use Rattle.std.specs.Prelude.{◌≡◌, Result, Err}
use Rattle.settings_text.specs.declared.fault.SettingsFault.{SettingsFault}
use Rattle.settings_text.specs.declared.fault.SettingsFault.TheVariants.{Memory}

-- the answer is this one, unless memory is wanting
abbrev pub IsUnlessMemory : {T : Type 0} → Result T SettingsFault → Result T SettingsFault → Type 0
IsUnlessMemory (Err Memory) r = Unit {0}
IsUnlessMemory answer r = answer ≡ r
