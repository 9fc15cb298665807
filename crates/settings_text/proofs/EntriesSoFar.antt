-- Entries that are read one by one.
use Rattle.std.proofs.Common.{◌≡◌, ◌==◌, not, List, [], ◌∷◌, ◌++◌, length, Result, Ok, Err, refl, sym, ap, ◌∙◌, arith}
use Rattle.std.proofs.lemmas.Bool.Decides.{nat_tests}
use Rattle.toml.specs.View.{items_view}
use Rattle.toml.specs.declared.value.Value.{Value}
use Rattle.std.proofs.lemmas.List.{append_assoc}
use Rattle.settings_text.specs.Entries.{with_entry, has_some}
use Rattle.settings_text.specs.declared.fault.SettingsFault.{SettingsFault}

-- the entries so far, and then what the rest is
abbrev pub after_entries : {T : Type 0} → List T → Result (List T) SettingsFault → Result (List T) SettingsFault
after_entries before (Ok more) = Ok (before ++ more)
after_entries before (Err fault) = Err fault

-- one entry more
pub after_one : {T : Type 0} (before : List T) (entry : T) (r : Result T SettingsFault) (more : Result (List T) SettingsFault) → r ≡ Ok entry
    → after_entries before (with_entry r more) ≡ after_entries (before ++ entry ∷ []) more
after_one before entry r (Ok entries) e = ap (λ x. after_entries before (with_entry x (Ok entries))) e ∙ ap Ok (sym (append_assoc before (entry ∷ []) entries))
after_one before entry r (Err fault) e = ap (λ x. after_entries before (with_entry x (Err fault))) e

-- there is an entry where the list isn't empty
pub has_some_view : (vs : List Value) → has_some (items_view vs) ≡ not (length vs == 0)
has_some_view [] = refl
has_some_view (v ∷ vs) = grind (arith, nat_tests)
