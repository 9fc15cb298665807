-- The fits of all sources tell those of the first of them.
use Rattle.std.proofs.Common.{sym, ap, ◌∙◌, arith}
use Rattle.sql_bind.specs.Fits.{fits_of}
use Rattle.sql_bind.specs.Index.{Indexes, noted, fits_below}
use Rattle.sql_bind.specs.Fits.{fits_from}
use Rattle.sql_bind.proofs.Below.{fits_of_first}
use Rattle.sql_bind.proofs.looked.Looked.fits_of.Goals as goal

pub returns-in-Some : goal.returns-in-Some
returns-in-Some c =
    let all = c.self.inside.all.now in
    let count = c.self.inside.count in
    let r = c.args.of.now in
    let kept : Indexes c.in-Some.index.now all = rw c.in-Some.is at c.self.invariant.1 in
    c.fits_of.ensures
    ∙ ap (fits_below count) (kept.0 r)
    ∙ ap (λ m. fits_below m (noted (fits_from r 0 all))) (omega arith)
    ∙ sym (fits_of_first r 0 count all)
    ∙ ap (λ looked. fits_of looked r) c.self.view_is
