-- What an answer of a choice says of the choice.
use Rattle.std.proofs.Common.{◌≡◌, ℕ, List, Result, Ok, Err, sym, ap}
use Rattle.access_choice.specs.Choices.{IsChoice}
use Rattle.access_choice.specs.declared.fault.ChoiceFault.TheVariants.{MissingKeys}
use Rattle.sp_model.specs.declared.scan.Access.{Access}

pub taken : (choice : Result Access (List (List ℕ))) (access : Access) → IsChoice choice (Ok access) → choice ≡ Ok access
taken (Ok a) access h = sym (cc)
taken (Err columns) access h = absurd h

pub refused : (choice : Result Access (List (List ℕ))) (columns : List (List ℕ)) → IsChoice choice (Err (MissingKeys columns)) → choice ≡ Err columns
refused (Ok a) columns h = absurd (cc)
refused (Err named) columns h = sym (ap Err h)
