-- What is known by two files, or why it isn't.
use Rattle.std.proofs.Common.{◌≤◌, ℕ, List, inl, inr, arith}
use Rattle.std.specs.Prelude.{codes}
use Rattle.settings_text.specs.Reading.{read_all_settings}
use Rattle.sp_model.specs.declared.settings.Settings.{Settings}
use Rattle.sp_outside.specs.Causes.{Rose}
use Rattle.sp_outside.specs.Files.{FileTold, Untold, Absent, Bytes, IsAbsent}
use Rattle.steampipe_top.specs.Reading.{AreSettings, AreBadSettings, IsBadDeclaration, IsFileEnd}
use Rattle.steampipe_top.specs.Explaining.{IsBothEnd}
use Rattle.steampipe_top.specs.declared.reading.FileEnd.{FileEnd}
use Rattle.steampipe_top.specs.declared.reading.FileEnd.TheVariants.{Refused, Fault, Memory}

module _ (files : List ℕ → FileTold) (file second : List ℕ) where
  pub by_first : (faults faults_after : ℕ) (e : FileEnd) → IsFileEnd (AreBadSettings read_all_settings) (codes "settings") (files file) faults faults_after e
      → IsBothEnd files file second faults faults_after e
  by_first faults faults_after (Refused line) h = inl h
  by_first faults faults_after Fault h = h
  by_first faults faults_after Memory h = tt

  -- a count that rose later rose
  rose : (before between after : ℕ) → before ≤ between → Rose between after → Rose before after
  rose before between after later h = omega (arith, later, h)

  absent : (f : FileTold) (before between after : ℕ) → before ≤ between → IsAbsent f between after → IsAbsent f before after
  absent Untold before between after later h = rose before between after later h
  absent Absent before between after later h = tt
  absent (Bytes bytes) before between after later h = absurd h

  pub by_second : (settings : Settings) (before between after : ℕ) (e : FileEnd) → AreSettings read_all_settings (files file) settings → before ≤ between
      → IsFileEnd IsBadDeclaration (codes "declaration") (files second) between after e → IsBothEnd files file second before after e
  by_second settings before between after (Refused line) are later (words, inl (inl lost), same) =
      inr (settings, are, (words, inl (inl (lost.0, absent (files second) before between after later lost.1)), same))
  by_second settings before between after (Refused line) are later (words, inl (inr long), same) = inr (settings, are, (words, inl (inr long), same))
  by_second settings before between after (Refused line) are later (words, inr text, same) = inr (settings, are, (words, inr text, same))
  by_second settings before between after Fault are later h = rose before between after later h
  by_second settings before between after Memory are later h = tt
