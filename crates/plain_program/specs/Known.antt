-- Replies that are known whole or not at all.
use Rattle.std.specs.Prelude.{◌≡◌, ℕ, List, [], Option, Some, None}
use Rattle.sp_model.specs.Book.{Book}
use Rattle.sp_model.specs.Settling.{Seen, Answers, whole, answers_of}
use Rattle.sp_model.specs.declared.call.Reply.{Reply}
use Rattle.sp_model.specs.declared.call.Version.{Version}
use Rattle.sp_model.specs.declared.call.Version.TheVariants.{Is, Bad}

abbrev pub seen_of : Option Reply → Seen
seen_of None = record { items = []; ending = None }
seen_of (Some r) = whole r

-- all that a book answers at a connection and a version; at a bad version nothing is asked
abbrev pub AreAnswersAt : Book → List ℕ → Version → Answers → Type 0
AreAnswersAt book connection (Is v) answers = answers ≡ answers_of book connection v
AreAnswersAt book connection (Bad text) answers = Unit {0}
