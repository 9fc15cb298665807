-- The book of a world that tells nothing.
use Rattle.std.specs.Prelude.{[]}
use Rattle.serde_json.specs.Data.{null}
use Rattle.sp_model.specs.Book.{Book}
use Rattle.sp_model.specs.declared.call.Ending.TheVariants.{End}
use Rattle.sp_model.specs.declared.call.Version.TheVariants.{Is}

-- empty replies at version 0
abbrev pub no_book : Book
no_book = record { reply = λ key. record { items = []; ending = End }; version = λ connection tick. Is 0; declaration = λ connection. null }
