-- What writing text after text makes of the bytes that a sink holds.
use Rattle.std.proofs.Common.{◌≡◌, ℕ, List, [], ◌∷◌, ◌++◌, Option, Some, None, refl, sym, ap, subst, ◌∙◌, append_assoc, append-nil}
use Rattle.std.specs.Prelude.{IfSome}
use Rattle.std.specs.Io.KnownBytes.{Appends}
use Rattle.serde_json.specs.Data.{Data}
use Rattle.sp_model.specs.Book.{Book}
use Rattle.sp_model.specs.declared.call.Asked.{Asked}
use Rattle.sp_model.specs.declared.call.CallKey.{CallKey}
use Rattle.sp_model.specs.declared.call.Reply.{Reply}
use Rattle.sp_model.specs.declared.call.Version.{Version}
use Rattle.sp_world.specs.ReplyLines.{ReplyLine}
use Rattle.sp_world.specs.ReplyLines as line
use Rattle.sp_world.specs.declared.line.Request.{Request}
use Rattle.sp_world.specs.declared.line.Request.TheVariants.{Ask}
use Rattle.sp_outside.specs.Writing.{GrewByPrefix}
use Rattle.plugin_kit.specs.Replies.{line_text, answer_to, answers_to, Answered, AnsweredInPart}
use Rattle.plugin_kit.specs.Said.{reply_lines, version_line, asked_text}
use Rattle.plugin_kit.proofs.Said.{answer_said}

-- ---- one text, and a beginning of it

pub begun_nil : (held : Option (List ℕ)) (text : List ℕ) → GrewByPrefix held held text
begun_nil None text = tt
begun_nil (Some held) text = ([], (text, refl), sym (append-nil held))

-- a beginning of a text begins what it goes on with
pub begun_more : (held now : Option (List ℕ)) (text more : List ℕ) → GrewByPrefix held now text → GrewByPrefix held now (text ++ more)
begun_more None now text more begun = tt
begun_more (Some held) None text more begun = absurd begun
begun_more (Some held) (Some now) text more begun =
    (begun.0, (begun.1.0 ++ more, sym (append_assoc begun.0 begun.1.0 more) ∙ ap (λ l. l ++ more) begun.1.1), begun.2)

-- a text was written, and then a beginning of what follows
pub begun_after : (held mid now : Option (List ℕ)) (text more : List ℕ) → Appends held mid text → GrewByPrefix mid now more → GrewByPrefix held now (text ++ more)
begun_after None mid now text more whole begun = tt
begun_after (Some held) None now text more whole begun = absurd whole
begun_after (Some held) (Some mid) None text more whole begun = absurd begun
begun_after (Some held) (Some mid) (Some now) text more whole begun = (
  text ++ begun.0,
  (begun.1.0, append_assoc text begun.0 begun.1.0 ∙ ap (λ l. text ++ l) begun.1.1),
  begun.2 ∙ ap (λ l. l ++ begun.0) whole ∙ append_assoc held text begun.0,
)

-- what was written whole begins what it goes on with
pub begun_whole : (held now : Option (List ℕ)) (text more : List ℕ) → Appends held now text → GrewByPrefix held now (text ++ more)
begun_whole held now text more whole = begun_after held now now text more whole (begun_nil now more)

-- ---- what a told book says

told : (o : Option Book) (f : Book → List ℕ) (text : List ℕ) (P : List ℕ → Type 0) → IfSome o (λ b. text ≡ f b) → P text → IfSome o (λ b. P (f b))
told None f text P is p = tt
told (Some b) f text P is p = subst P is p

told_ap : {X : Type 0} (o : Option Book) (f : Book → X) (x : X) (g : X → List ℕ) → IfSome o (λ b. x ≡ f b) → IfSome o (λ b. g x ≡ g (f b))
told_ap None f x g is = tt
told_ap (Some b) f x g is = ap g is

told_by : {X : Type 0} (o : Option Book) (f : Book → X) (x : X) (g : X → List ℕ) (P : List ℕ → Type 0) → IfSome o (λ b. x ≡ f b) → P (g x) → IfSome o (λ b. P (g (f b)))
told_by o f x g P is p = told o (λ b. g (f b)) (g x) P (told_ap o f x g is) p

pub version_written : (o : Option Book) (held now : Option (List ℕ)) (id : ℕ) (connection : List ℕ) (tick : ℕ) (v : Version) (l : ReplyLine)
    → IfSome o (λ b. v ≡ b.version connection tick) → l ≡ version_line id v → Appends held now (line_text l)
    → IfSome o (λ b. Appends held now (line_text (version_line id (b.version connection tick))))
version_written o held now id connection tick v l is line whole =
    told_by o (λ b. b.version connection tick) v (λ v. line_text (version_line id v)) (Appends held now) is (subst (λ l. Appends held now (line_text l)) line whole)

pub version_begun : (o : Option Book) (held now : Option (List ℕ)) (id : ℕ) (connection : List ℕ) (tick : ℕ) (v : Version) (l : ReplyLine)
    → IfSome o (λ b. v ≡ b.version connection tick) → l ≡ version_line id v → GrewByPrefix held now (line_text l)
    → IfSome o (λ b. GrewByPrefix held now (line_text (version_line id (b.version connection tick))))
version_begun o held now id connection tick v l is line part =
    told_by o (λ b. b.version connection tick) v (λ v. line_text (version_line id v)) (GrewByPrefix held now) is (subst (λ l. GrewByPrefix held now (line_text l)) line part)

pub declaration_written : (o : Option Book) (held now : Option (List ℕ)) (id : ℕ) (connection : List ℕ) (d : Data)
    → IfSome o (λ b. d ≡ b.declaration connection) → Appends held now (line_text (line.Declaration id d))
    → IfSome o (λ b. Appends held now (line_text (line.Declaration id (b.declaration connection))))
declaration_written o held now id connection d is whole = told_by o (λ b. b.declaration connection) d (λ d. line_text (line.Declaration id d)) (Appends held now) is whole

pub declaration_begun : (o : Option Book) (held now : Option (List ℕ)) (id : ℕ) (connection : List ℕ) (d : Data)
    → IfSome o (λ b. d ≡ b.declaration connection) → GrewByPrefix held now (line_text (line.Declaration id d))
    → IfSome o (λ b. GrewByPrefix held now (line_text (line.Declaration id (b.declaration connection))))
declaration_begun o held now id connection d is part = told_by o (λ b. b.declaration connection) d (λ d. line_text (line.Declaration id d)) (GrewByPrefix held now) is part

pub call_written : (o : Option Book) (held now : Option (List ℕ)) (id : ℕ) (key : CallKey) (r : Reply)
    → IfSome o (λ b. r ≡ b.reply key) → Appends held now (reply_lines id r) → IfSome o (λ b. Appends held now (reply_lines id (b.reply key)))
call_written o held now id key r is whole = told_by o (λ b. b.reply key) r (reply_lines id) (Appends held now) is whole

pub call_begun : (o : Option Book) (held now : Option (List ℕ)) (id : ℕ) (key : CallKey) (r : Reply)
    → IfSome o (λ b. r ≡ b.reply key) → GrewByPrefix held now (reply_lines id r) → IfSome o (λ b. GrewByPrefix held now (reply_lines id (b.reply key)))
call_begun o held now id key r is part = told_by o (λ b. b.reply key) r (reply_lines id) (GrewByPrefix held now) is part

-- where nothing was written
pub unwritten : (o : Option Book) (held : Option (List ℕ)) (f : Book → List ℕ) → IfSome o (λ b. GrewByPrefix held held (f b))
unwritten None held f = tt
unwritten (Some b) held f = begun_nil held (f b)

-- ---- requests

pub one_answered : (o : Option Book) (held now : Option (List ℕ)) (id : ℕ) (what : Asked) (function : Option (List ℕ)) → IfSome o (λ b. Appends held now (asked_text b id what))
    → Answered o held now (Ask id what function ∷ [])
one_answered None held now id what function whole = tt
one_answered (Some b) held now id what function whole =
    subst (Appends held now) (answer_said b id what function ∙ sym (append-nil (answer_to b (Ask id what function)))) whole

pub one_begun : (o : Option Book) (held now : Option (List ℕ)) (id : ℕ) (what : Asked) (function : Option (List ℕ)) (later : List Request)
    → IfSome o (λ b. GrewByPrefix held now (asked_text b id what)) → AnsweredInPart o held now (Ask id what function ∷ later)
one_begun None held now id what function later part = tt
one_begun (Some b) held now id what function later part =
    begun_more held now (answer_to b (Ask id what function)) (answers_to b later) (subst (GrewByPrefix held now) (answer_said b id what function) part)
