-- The declaration is refused, by what is left of the shelf.
use Rattle.std.proofs.Common.{ℕ, List, subst}
use Rattle.std.specs.Prelude.{codes}
use Rattle.sp_outside.specs.Files.{FileTold}
use Rattle.steampipe_top.specs.Reading.{IsBadDeclaration, IsFileEnd}
use Rattle.steampipe_top.proofs.Explanations.{by_second}
use Rattle.steampipe_top.proofs.explaining.catalog_of.Goals as goal

pub returns-in-Err-declaration_of-clause-end : goal.returns-in-Err-declaration_of-clause-end
returns-in-Err-declaration_of-clause-end g c =
    by_second (g.F.Shelf.file c.args.files.now) c.args.file.now c.args.second.now c.in-Ok.settings (g.F.Shelf.faulted c.args.files.now) (g.F.Shelf.faulted c.all_settings_of.new.files)
    (g.F.Shelf.faulted c.declaration_of.new.files) c.in-Err-declaration_of.end c.in-Ok.ensures.ok c.in-Ok.ensures.later
    (subst (λ (files : List ℕ → FileTold). IsFileEnd IsBadDeclaration (codes "declaration") (files c.args.second.now) (g.F.Shelf.faulted c.all_settings_of.new.files) (g.F.Shelf.faulted c.declaration_of.new.files) c.in-Err-declaration_of.end) c.in-Ok.ensures.files c.in-Err-declaration_of.ensures.end)
