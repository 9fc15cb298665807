-- Blocks, one after another.
use Rattle.std.proofs.Common.{◌≡◌, ℕ, ◌+◌, ◌<◌, ◌≤◌, List, [], ◌∷◌, ◌++◌, length, take, get_or, Result, Ok, Err, sym, ap, ◌∙◌, subst, arith}
use Rattle.std.specs.Prelude.{IfOk, OnOk}
use Rattle.std.proofs.lemmas.List.{take_more, append-nil, append_assoc}
use Rattle.sp_model.specs.Book.{Book}
use Rattle.sp_model.specs.declared.settings.Options.{Options}
use Rattle.desk.specs.States.{DeskState}
use Rattle.input_lines.specs.declared.line.Line.{Line}
use Rattle.statement_words.proofs.Stops.{gone_later}
use Rattle.statement_words.specs.Advances.{AreTrue}
use Rattle.statement_words.specs.Runs.{IsGone, IsLater}
use Rattle.statement_words.specs.Turns.{AreInTurn}
use Rattle.statement_words.proofs.Turning.{turns_then}
use Rattle.statement_run.specs.Answers.{IfSpent}
use Rattle.statement_run.specs.declared.answer.Answer.{Answer}
use Rattle.statement_run.specs.declared.answer.AnswerEnd.{AnswerEnd}
use Rattle.statement_run.specs.declared.answer.AnswerEnd.TheVariants as end
use Rattle.run_lines.specs.Blocks.{IsBlockSo, AreBlocksSo, AreTrulyNoted, AllSpent, line_ticks, block_ticks}
use Rattle.run_lines.specs.declared.block.Block.{Block}

pub none_true : (book : Book) (options : Options) (began : ℕ) → AreTrue book options began []
none_true book options began k n at = absurd (cc)

one_more : (P : List ℕ → Answer → Type 0) (ls : List Line) (bs : List Block) (l : Line) (b : Block) → AreBlocksSo P ls bs → IsBlockSo P l b → AreBlocksSo P (ls ++ l ∷ []) (bs ++ b ∷ [])
one_more P [] [] l b h one = (one, tt)
one_more P [] (c ∷ cs) l b h one = absurd h
one_more P (k ∷ ks) [] l b h one = absurd h
one_more P (k ∷ ks) (c ∷ cs) l b h one = (h.0, one_more P ks cs l b h.1 one)

pub blocks_more : (P : List ℕ → Answer → Type 0) (lines : List Line) (i : ℕ) (l : Line) (bs : List Block) (b : Block) → i < length lines → l ≡ get_or lines i l
    → AreBlocksSo P (take i lines) bs → IsBlockSo P l b → AreBlocksSo P (take (i + 1) lines) (bs ++ b ∷ [])
blocks_more P lines i l bs b within is h one =
    subst (λ (ls : List Line). AreBlocksSo P ls (bs ++ b ∷ [])) (sym (take_more lines i l within ∙ ap (λ x. take i lines ++ x ∷ []) (sym is)))
    (one_more P (take i lines) bs l b h one)

pub noted_more : (book : Book) (options : Options) (bs : List Block) (b : Block) → AreTrulyNoted book options bs → AreTrue book options b.answer.began b.answer.notes → AreTrulyNoted book options (bs ++ b ∷ [])
noted_more book options [] b h one = (one, tt)
noted_more book options (c ∷ cs) b h one = (h.0, noted_more book options cs b h.1 one)

-- ---- ticks

-- the ticks of one answer more
ticks_more : (P : List ℕ → Answer → Type 0) (ls : List Line) (bs : List Block) (l : Line) (b : Block) → AreBlocksSo P ls bs → block_ticks (ls ++ l ∷ []) (bs ++ b ∷ []) ≡ block_ticks ls bs ++ line_ticks l b
ticks_more P [] [] l b h = append-nil (line_ticks l b)
ticks_more P [] (c ∷ cs) l b h = absurd h
ticks_more P (k ∷ ks) [] l b h = absurd h
ticks_more P (k ∷ ks) (c ∷ cs) l b h = ap (λ (ts : List ℕ). line_ticks k c ++ ts) (ticks_more P ks cs l b h.1) ∙ sym (append_assoc (line_ticks k c) (block_ticks ks cs) (line_ticks l b))

pub turns_more : (P : List ℕ → Answer → Type 0) (first between last : ℕ) (lines : List Line) (i : ℕ) (l : Line) (bs : List Block) (b : Block) → i < length lines → l ≡ get_or lines i l
    → AreBlocksSo P (take i lines) bs → AreInTurn first between (block_ticks (take i lines) bs) → AreInTurn between last (line_ticks l b) → AreInTurn first last (block_ticks (take (i + 1) lines) (bs ++ b ∷ []))
turns_more P first between last lines i l bs b within is are h one =
    subst (λ (ls : List Line). AreInTurn first last (block_ticks ls (bs ++ b ∷ []))) (sym (take_more lines i l within ∙ ap (λ x. take i lines ++ x ∷ []) (sym is)))
    (subst (AreInTurn first last) (sym (ticks_more P (take i lines) bs l b are)) (turns_then first between last (block_ticks (take i lines) bs) (line_ticks l b) h one))

pub spent_more : (P : List ℕ → ℕ → Type 0) (bs : List Block) (b : Block) → AllSpent P bs → IfSpent b.answer.end P → AllSpent P (bs ++ b ∷ [])
spent_more P [] b h one = (one, tt)
spent_more P (c ∷ cs) b h one = (h.0, spent_more P cs b h.1 one)

end_maps : (P Q : List ℕ → ℕ → Type 0) (e : AnswerEnd) → ((name : List ℕ) (losses : ℕ) → P name losses → Q name losses) → IfSpent e P → IfSpent e Q
end_maps P Q (end.RestartsSpent name losses) f h = f name losses h
end_maps P Q (end.Rows rows) f h = tt
end_maps P Q (end.Refused x) f h = tt
end_maps P Q (end.ScanFailed scan row column cause) f h = tt
end_maps P Q end.Memory f h = tt

pub spent_maps : (P Q : List ℕ → ℕ → Type 0) (bs : List Block) → ((name : List ℕ) (losses : ℕ) → P name losses → Q name losses) → AllSpent P bs → AllSpent Q bs
spent_maps P Q [] f h = tt
spent_maps P Q (b ∷ bs) f h = (end_maps P Q b.answer.end f h.0, spent_maps P Q bs f h.1)

-- what is gone stays gone
pub spent_stays : (before after : DeskState) (bs : List Block) → IsLater before after → AllSpent (IsGone before) bs → AllSpent (IsGone after) bs
spent_stays before after bs later h = spent_maps (IsGone before) (IsGone after) bs (λ name losses g. gone_later before after name losses later g) h

pub ok_maps : {E : Type 0} (r : Result (List Block) E) (P Q : List Block → Type 0) → ((bs : List Block) → P bs → Q bs) → IfOk r P → IfOk r Q
ok_maps (Ok bs) P Q f h = f bs h
ok_maps (Err e) P Q f h = tt

pub on_ok : {T E P : Type 0} (r : Result T E) → P → OnOk r P
on_ok (Ok x) h = h
on_ok (Err e) h = tt
