use Rattle.std.proofs.Common.{◌∙◌, ℕ, List, ap, subst}
use Rattle.sp_model.specs.declared.call.Asked.TheVariants as asks
use Rattle.statement_words.specs.Runs.{IsSpentOf}
use Rattle.scan_run.proofs.Scanning.{place_book}
use Rattle.scan_run.proofs.fresh.started.Goals as goal

pub ask_version-asked-requires-clause-settings : goal.ask_version-asked-requires-clause-settings
ask_version-asked-requires-clause-settings g c = c.requires.settings

pub ask_version-asked-requires-clause-among : goal.ask_version-asked-requires-clause-among
ask_version-asked-requires-clause-among g c = c.requires.place.among

pub ask_version-asked-requires-clause-plain : goal.ask_version-asked-requires-clause-plain
ask_version-asked-requires-clause-plain g c = c.requires.place.plain

pub returns-in-Err-clause-stop : goal.returns-in-Err-clause-stop
returns-in-Err-clause-stop g c = subst (λ (n : List ℕ). IsSpentOf (g.D.Desk.state c.ask_version-asked.new.desk) n c.in-Err.stop) c.requires.named c.in-Err.ensures.err

pub returns-in-Err-clause-state : goal.returns-in-Err-clause-state
returns-in-Err-clause-state g c = c.ask_version-asked.ensures.state

pub begun-requires-clause-version : goal.begun-requires-clause-version
begun-requires-clause-version g c = c.in-Ok.ensures.asked ∙ ap (λ (n : List ℕ). asks.Version n c.args.at) c.requires.named

pub begun-requires-clause-scan_of : goal.begun-requires-clause-scan_of
begun-requires-clause-scan_of g c = c.requires.scan_of

pub begun-requires-clause-of_book : goal.begun-requires-clause-of_book
begun-requires-clause-of_book g c = λ t. place_book _ _ _ _ _ _ c.requires.place c.requires.named c.requires.scan_of t

pub returns-in-Err-begun-clause-state : goal.returns-in-Err-begun-clause-state
returns-in-Err-begun-clause-state g c = c.ask_version-asked.ensures.state

pub returns-in-Ok-add_note-clause-state : goal.returns-in-Ok-add_note-clause-state
returns-in-Ok-add_note-clause-state g c = c.ask_version-asked.ensures.state

pub returns-in-Err-add_note-clause-state : goal.returns-in-Err-add_note-clause-state
returns-in-Err-add_note-clause-state g c = c.ask_version-asked.ensures.state
