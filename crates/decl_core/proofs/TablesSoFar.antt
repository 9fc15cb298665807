-- Tables that are read one by one.
use Rattle.std.proofs.Common.{◌≡◌, ℕ, List, [], ◌∷◌, ◌++◌, Option, Some, Result, Ok, Err, sym, ap, ◌∙◌}
use Rattle.std.proofs.lemmas.List.{append_assoc}
use Rattle.sp_model.specs.declared.declaration.TableDecl.{TableDecl}
use Rattle.decl_words.specs.Tables.{with_table}
use Rattle.decl_words.specs.declared.fault.DeclFault.{DeclFault}

-- the tables so far, and then what the rest is
abbrev pub after_tables : List TableDecl → Result (List TableDecl) DeclFault → Result (List TableDecl) DeclFault
after_tables before (Ok more) = Ok (before ++ more)
after_tables before (Err fault) = Err fault

-- one table more
pub after_one : (before : List TableDecl) (number : ℕ) (table : TableDecl) (o : Option TableDecl) (more : Result (List TableDecl) DeclFault) → o ≡ Some table
    → after_tables before (with_table number o more) ≡ after_tables (before ++ table ∷ []) more
after_one before number table o (Ok tables) e = ap (λ x. after_tables before (with_table number x (Ok tables))) e ∙ ap Ok (sym (append_assoc before (table ∷ []) tables))
after_one before number table o (Err fault) e = ap (λ x. after_tables before (with_table number x (Err fault))) e
