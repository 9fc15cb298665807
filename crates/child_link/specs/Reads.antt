-- Request lines that are read again.
use Rattle.std.specs.Prelude.{◌≡◌, ℕ, ◌<◌, ◌^◌, List, ◌++◌, Option, Ok, decimal}
use Rattle.sp_model.specs.declared.call.Asked.{Asked}
use Rattle.sp_world.specs.RequestLines.{request_of}
use Rattle.sp_world.specs.declared.line.Request.TheVariants.{Ask}

-- with a number that lines can say between them, the head and the tail are read as this request
abbrev pub Reads : Asked → Option (List ℕ) → List ℕ → List ℕ → Type 0
Reads what function head tail = (id : ℕ) → id < 2 ^ 63 → request_of (head ++ (decimal id ++ tail)) ≡ Ok (Ask id what function)
