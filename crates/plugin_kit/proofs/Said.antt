-- The lines that answer a request are all of the book's lines for it.
use Rattle.std.proofs.Common.{◌≡◌, ℕ, zero, suc, ◌+◌, List, [], ◌∷◌, ◌++◌, length, slice_get, Option, refl, sym, ap, ◌∙◌, append_assoc, append-nil, arith}
use Rattle.sp_value.specs.declared.cell.Cell.{Cell}
use Rattle.sp_model.specs.Book.{Book}
use Rattle.sp_model.specs.declared.call.Asked.{Asked}
use Rattle.sp_model.specs.declared.call.Asked.TheVariants as asked
use Rattle.sp_model.specs.declared.call.CallKey.{CallKey}
use Rattle.sp_model.specs.declared.call.Ending.{Ending}
use Rattle.sp_model.specs.declared.call.Ending.TheVariants as ending
use Rattle.sp_model.specs.declared.call.Piece.TheVariants as piece
use Rattle.sp_model.specs.declared.call.Version.{Version}
use Rattle.sp_model.specs.declared.call.Version.TheVariants as version
use Rattle.sp_world.specs.Fits.{piece_or, line_for}
use Rattle.sp_world.specs.ReplyLines.{Item}
use Rattle.sp_world.specs.Told as told
use Rattle.sp_world.specs.declared.line.Request.TheVariants.{Ask}
use Rattle.plugin_kit.specs.Replies.{line_text, lines_for, lines_from, answer_to}
use Rattle.plugin_kit.specs.Said.{items_text, ending_line, version_line, asked_text}

ending_said : (id k : ℕ) (e : Ending) → ending_line id e ≡ line_for id (told.Piece (piece.Ending k e))
ending_said id k ending.End = refl
ending_said id k (ending.Error text) = refl

version_said : (id : ℕ) (v : Version) → version_line id v ≡ line_for id (told.Version v)
version_said id (version.Is number) = refl
version_said id (version.Bad text) = refl

-- from the k-th item on, where these are the rest of the reply's items
call_said : (book : Book) (id : ℕ) (key : CallKey) (rest : List Cell) (k : ℕ) → ((j m : ℕ) → m ≡ k + j → slice_get (book.reply key).items m ≡ slice_get rest j)
    → items_text id rest ++ line_text (ending_line id (book.reply key).ending) ≡ lines_from book id (asked.Call key) k (suc (length rest))
call_said book id key [] k h =
    let reply = book.reply key in
    sym (append-nil (line_text (ending_line id reply.ending)))
    ∙ ap (λ l. line_text l ++ []) (ending_said id k reply.ending ∙ sym (ap (λ o. line_for id (piece_or k reply o)) (h 0 k (omega arith))))
call_said book id key (x ∷ xs) k h =
    let reply = book.reply key in
    let later = lines_from book id (asked.Call key) (suc k) (suc (length xs)) in
    append_assoc (line_text (Item id x)) (items_text id xs) (line_text (ending_line id reply.ending))
    ∙ ap (λ t. line_text (Item id x) ++ t) (call_said book id key xs (suc k) (λ j m e. h (suc j) m (omega (arith, e))))
    ∙ ap (λ l. line_text l ++ later) (sym (ap (λ o. line_for id (piece_or k reply o)) (h 0 k (omega arith))))

asked_said : (book : Book) (id : ℕ) (what : Asked) → asked_text book id what ≡ lines_from book id what 0 (lines_for book what)
asked_said book id (asked.Call key) = call_said book id key (book.reply key).items 0 (λ j m e. ap (slice_get (book.reply key).items) (omega (arith, e)))
asked_said book id (asked.Version connection tick) =
    sym (append-nil (line_text (version_line id (book.version connection tick)))) ∙ ap (λ l. line_text l ++ []) (version_said id (book.version connection tick))
asked_said book id (asked.Declare connection) = sym (append-nil (line_text (line_for id (told.Declaration (book.declaration connection)))))

pub answer_said : (book : Book) (id : ℕ) (what : Asked) (function : Option (List ℕ)) → asked_text book id what ≡ answer_to book (Ask id what function)
unfolding answer_to
answer_said book id what function = asked_said book id what
