-- The keys of the table of rows.
use Rattle.std.proofs.Common.{◌≡◌, ℕ, Bool, true, false, cond, List, Option, Some, None, refl, sym, subst, ap, ◌∙◌}
use Rattle.std.specs.Prelude.{bytes_eq, ◌&&◌}
use Rattle.serde_json.proofs.OnLiterals.{serde_json_on_literals}
use Rattle.sp_model.specs.Conditions.{is_scalar}
use Rattle.sp_model.specs.SubsetKeys.{is_further}
use Rattle.sp_model.specs.declared.call.Condition.{Condition}
use Rattle.sp_model.specs.declared.declaration.ListDecl.{ListDecl}
use Rattle.sp_model.specs.declared.declaration.TableDecl.{TableDecl}
use Rattle.decl_words.specs.BookTables.{book_declaration, table_in, book_table}
use Rattle.load_gen.specs.Generated.{generated, declaration}
use Rattle.load_gen.specs.Table.{table, rows, DeclaresRows, KeysFilter}

pub declares : DeclaresRows
unfolding book_declaration declaration serde_json_on_literals
declares connection = refl

the_table : (b : Bool) (t : TableDecl) → cond b (Some table) None ≡ Some t → table ≡ t
the_table true t e = cc
the_table false t e = absurd (cc)

the_list : (d : ListDecl) → Some rows ≡ Some d → rows ≡ d
the_list d e = cc

not_both : (b : Bool) → (b && false) ≡ true → ⊥
not_both true e = absurd (cc)
not_both false e = absurd (cc)

none_further : (d : ListDecl) (further : Condition) → rows ≡ d → is_further d further ≡ true → ⊥
none_further d further same is = not_both (is_scalar further.value) (subst (λ (x : ListDecl). is_further x further ≡ true) (sym same) is)

pub keys_filter : KeysFilter
unfolding book_table
keys_filter connection name t d found listed version attempt parent conditions further asked is =
    let of_table : table ≡ t = the_table (bytes_eq table.name name) t (sym (ap (table_in name) (declares connection)) ∙ found) in
    absurd (none_further d further (the_list d (ap (λ (x : TableDecl). x.list) of_table ∙ listed)) is)
