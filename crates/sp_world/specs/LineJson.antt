-- The JSON of a line.
use Rattle.std.specs.Prelude.{ℕ, Bool, true, List, Option, Some, None, Result, Ok, Err, ◌≡◌, if◌then◌else◌, option_and_then}
use Rattle.std.specs.Str.{is_utf8}
use Rattle.serde_json.specs.Data.{Data}
use Rattle.serde_json.specs.Find.{get, as_number, as_u64, as_str, as_bool}
use Rattle.serde_json.specs.Read.{read}
use Rattle.serde_json.specs.View.{view}
use Rattle.serde_json.specs.declared.value.Value.{Value}
use Rattle.sp_value.specs.Json.{has_odd_number}
use Rattle.sp_world.specs.declared.line.LineFault.{LineFault}
use Rattle.sp_world.specs.declared.line.LineFault.TheVariants.{Json, Number, Shape, Memory}

-- what bytes read as, if they are text and JSON
abbrev pub json_of : List ℕ → Option Data
json_of bytes = if is_utf8 bytes then read bytes else None

-- JSON whose numbers are integers of 64 bits
abbrev pub whole : Option Data → Result Data LineFault
whole None = Err Json
whole (Some d) = if has_odd_number d then Err Number else Ok d

abbrev pub shaped : {T : Type 0} → Option T → Result T LineFault
shaped None = Err Shape
shaped (Some t) = Ok t

-- what the JSON of a line is taken as by `form`
abbrev pub taken : {T : Type 0} → (Data → Option T) → Result Data LineFault → Result T LineFault
taken form (Ok d) = shaped (form d)
taken form (Err fault) = Err fault

-- what bytes are as a line of some form: no JSON, a number that is no integer of 64 bits, another form, or what the form gives
abbrev pub read_as : {T : Type 0} → (Data → Option T) → List ℕ → Result T LineFault
read_as form bytes = taken form (whole (json_of bytes))

-- the answer is this one, unless memory is wanting
abbrev pub IsUnlessMemory : {T : Type 0} → Result T LineFault → Result T LineFault → Type 0
IsUnlessMemory (Err Memory) r = Unit {0}
IsUnlessMemory answer r = r ≡ answer

-- the fault of bytes that are no JSON, or want of memory
abbrev pub IsJsonFault : LineFault → List ℕ → Type 0
IsJsonFault Json bytes = json_of bytes ≡ None
IsJsonFault Memory bytes = Unit {0}
IsJsonFault _ bytes = ⊥

-- the JSON of bytes, unless memory is wanting
abbrev pub IsJsonUnlessMemory : Result Value LineFault → List ℕ → Type 0
IsJsonUnlessMemory (Ok v) bytes = json_of bytes ≡ Some (view v)
IsJsonUnlessMemory (Err Number) bytes = (d : Data) × (json_of bytes ≡ Some d) × (has_odd_number d ≡ true)
IsJsonUnlessMemory (Err fault) bytes = IsJsonFault fault bytes

-- ---- members

abbrev pub text_at : List ℕ → Data → Option (List ℕ)
text_at name d = option_and_then as_str (get name d)

abbrev pub number_at : List ℕ → Data → Option ℕ
number_at name d = option_and_then as_u64 (option_and_then as_number (get name d))

abbrev pub flag_at : List ℕ → Data → Option Bool
flag_at name d = option_and_then as_bool (get name d)
