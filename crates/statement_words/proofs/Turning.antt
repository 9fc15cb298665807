-- Ticks that never fall, one part after another.
use Rattle.std.proofs.Common.{◌≡◌, ℕ, ◌≤◌, List, [], ◌∷◌, ◌++◌, map, ap, sym, ◌∙◌, subst, inl, inr, arith}
use Rattle.std.proofs.lemmas.List.{map-append}
use Rattle.sp_model.specs.declared.scan.ScanNote.{ScanNote}
use Rattle.statement_words.specs.Answered.{Adds}
use Rattle.statement_words.specs.Turns.{AreInTurn, ticks_of}

-- from an earlier tick on
pub turns_before : (first from last : ℕ) (ts : List ℕ) → first ≤ from → AreInTurn from last ts → AreInTurn first last ts
turns_before first from last [] le h = omega arith
turns_before first from last (t ∷ ts) le h = (omega (arith, h.0), h.1)

-- these and then those
pub turns_then : (first between last : ℕ) (ts us : List ℕ) → AreInTurn first between ts → AreInTurn between last us → AreInTurn first last (ts ++ us)
turns_then first between last [] us h k = turns_before first between last us h k
turns_then first between last (t ∷ ts) us h k = (h.0, turns_then t between last ts us h.1 k)

-- up to a later tick
pub turns_until : (first last until : ℕ) (ts : List ℕ) → last ≤ until → AreInTurn first last ts → AreInTurn first until ts
turns_until first last until [] le h = omega arith
turns_until first last until (t ∷ ts) le h = (h.0, turns_until t last until ts le h.1)

-- no note is added, or one at a tick between
pub adds_in_turn : (first before at after : ℕ) (notes more : List ScanNote) → before ≤ at → at ≤ after → Adds (λ n. n.at ≡ at) notes more → AreInTurn first before (ticks_of notes) → AreInTurn first after (ticks_of more)
adds_in_turn first before at after notes more le over (inl same) h =
    subst (λ (ns : List ScanNote). AreInTurn first after (ticks_of ns)) (sym same) (turns_until first before after (ticks_of notes) (omega arith) h)
adds_in_turn first before at after notes more le over (inr a) h =
    let one : AreInTurn before after (a.0.at ∷ []) = (omega (arith, a.2), omega (arith, a.2)) in
    subst (AreInTurn first after) (sym (ap ticks_of a.1 ∙ map-append (λ (n : ScanNote). n.at) notes (a.0 ∷ []))) (turns_then first before after (ticks_of notes) (a.0.at ∷ []) h one)
