-- Values, each once.
use Rattle.std.specs.Prelude.{Bool, List, [], ◌∷◌, ◌++◌, if◌then◌else◌}
use Rattle.std.specs.List.{list_any}
use Rattle.sp_value.specs.declared.cell.Cell.{Cell}
use Rattle.sp_model.specs.Conditions.{is_scalar}
use Rattle.source_scans.specs.Telling.{same_value}
use Rattle.source_scans.specs.declared.distinct.Scalar.{Scalar}

abbrev pub same_scalar_value : Scalar → Scalar → Bool
same_scalar_value a b = same_value a.value b.value

abbrev pub with_scalar : List Scalar → Scalar → List Scalar
with_scalar found s = if list_any (same_scalar_value s) found then found else found ++ s ∷ []

-- a boolean, an integer or a text at the end, where it isn't there
abbrev pub with_value : List Scalar → Cell → List Scalar
with_value found x = if is_scalar x then with_scalar found (record { value = x }) else found
