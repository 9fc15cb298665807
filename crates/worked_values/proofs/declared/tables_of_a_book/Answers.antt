use Rattle.std.proofs.Common.{refl}
use Rattle.decl_words.specs.BookTables.{book_declaration, book_table}
use Rattle.worked_values.proofs.declared.tables_of_a_book.Goals as goal

pub returns-clause-book_declares_its_table : goal.returns-clause-book_declares_its_table
unfolding book_declaration book_table
returns-clause-book_declares_its_table c = (refl, refl)

pub returns-clause-refused_declaration_has_no_table : goal.returns-clause-refused_declaration_has_no_table
unfolding book_declaration book_table
returns-clause-refused_declaration_has_no_table c = (refl, refl)
