-- What was found, and what fits among the sources that are left.
use Rattle.std.proofs.Common.{◌≡◌, ◌++◌, drop}
use Rattle.std.specs.Prelude.{option_to_list}
use Rattle.sql_bind.specs.Fits.{count_fits, fits_from, fits_of}
use Rattle.sql_bind.proofs.fitting.fits_of.Given as goal

abbrev pub invariant-loop-source : goal.invariant-loop-source
invariant-loop-source l = count_fits (option_to_list l.found ++ fits_from l.of l.source (drop l.source l.looked)) ≡ fits_of l.looked l.of
