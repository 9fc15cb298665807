use Rattle.decl_words.proofs.Soundness.{book-tables-are-sound}
use Rattle.decl_words.proofs.laws.book_tables_are_sound.Goals as goal

pub returns : goal.returns
returns c = book-tables-are-sound
