-- The book of the world that the tests run against.
use Rattle.std.specs.Prelude.{ℕ, ◌==◌, [], ◌∷◌, codes, if◌then◌else◌}
use Rattle.serde_json.specs.Data.{object, no_members}
use Rattle.sp_value.specs.declared.cell.Cell as c
use Rattle.sp_model.specs.Book.{Book}
use Rattle.sp_model.specs.declared.call.Ending.TheVariants.{End, Error}
use Rattle.sp_model.specs.declared.call.Reply.{Reply}
use Rattle.sp_model.specs.declared.call.Version.TheVariants.{Is}

-- two empty objects at the first attempt, and an error at each later one
abbrev pub scripted_reply : ℕ → Reply
scripted_reply attempt = if attempt == 1 then record { items = c.Object [] ∷ c.Object [] ∷ []; ending = End } else record { items = []; ending = Error (codes "no") }

abbrev pub scripted : Book
scripted = record { reply = λ key. scripted_reply key.attempt; version = λ connection tick. Is 7; declaration = λ connection. object no_members }
