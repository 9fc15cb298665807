-- A refusal of the text, by its words; and settings by which statements can be answered.
use Rattle.std.proofs.Common.{sym, subst}
use Rattle.settings_text.specs.Reading.{read_settings}
use Rattle.sp_outside.specs.Files.{IsFile}
use Rattle.steampipe_top.proofs.Endings.{by_settings}
use Rattle.steampipe_top.proofs.Settings.{read_can_run}
use Rattle.steampipe_top.proofs.reading.settings_of.Goals as goal

pub returns-clause-end : goal.returns-clause-end
returns-clause-end g c =
    by_settings read_settings c.deref.result.now c.refused_settings.result (g.F.Shelf.file c.args.files.now c.args.file.now) (g.F.Shelf.faulted c.args.files.now) (g.F.Shelf.faulted c.text_of.new.files)
    (subst (IsFile (g.F.Shelf.file c.args.files.now c.args.file.now)) (sym c.deref.ensures.value) c.in-Ok.ensures.ok)
    c.read_settings.result c.in-Err-read_settings.fault c.in-Err-read_settings.is c.read_settings.ensures c.refused_settings.ensures

pub returns-in-Ok-read_settings-clause-can_run : goal.returns-in-Ok-read_settings-clause-can_run
returns-in-Ok-read_settings-clause-can_run g c = read_can_run c.deref.result.now c.in-Ok-read_settings.settings (sym c.in-Ok-read_settings.ensures)
