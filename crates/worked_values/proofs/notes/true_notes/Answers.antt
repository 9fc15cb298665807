use Rattle.std.proofs.Common.{refl, arith}
use Rattle.worked_values.proofs.notes.true_notes.Goals as goal

pub returns-clause-fresh_note_is_true : goal.returns-clause-fresh_note_is_true
returns-clause-fresh_note_is_true c = (record { version = refl; after = omega arith; marked = refl }, record { version = refl; after = omega arith; marked = refl })

pub returns-clause-cached_note_is_true : goal.returns-clause-cached_note_is_true
returns-clause-cached_note_is_true c = record { version = refl; after = omega arith; marked = (omega arith, refl) }

pub returns-clause-old_note_is_false : goal.returns-clause-old_note_is_false
returns-clause-old_note_is_false c = λ note. absurd (omega (arith, note.marked.0))

pub returns-clause-cached_note_needs_a_cache : goal.returns-clause-cached_note_needs_a_cache
returns-clause-cached_note_needs_a_cache c = λ note. absurd (cc)

pub returns-clause-note_of_other_version_is_false : goal.returns-clause-note_of_other_version_is_false
returns-clause-note_of_other_version_is_false c = λ note. absurd (cc)

pub returns-clause-note_before_its_statement_is_false : goal.returns-clause-note_before_its_statement_is_false
returns-clause-note_before_its_statement_is_false c = λ note. absurd (omega (arith, note.after))

pub returns-clause-fresh_note_of_old_rows_is_false : goal.returns-clause-fresh_note_of_old_rows_is_false
returns-clause-fresh_note_of_old_rows_is_false c = λ note. absurd (omega (arith, note.marked))
