-- For private clauses: which functions the columns need, by numbers, and the slots of these.
use Rattle.std.specs.Prelude.{ℕ, zero, suc, Bool, true, false, ◌||◌, List, [], ◌∷◌, length, get_or, map, Option, Some, None, bytes_eq}
use Rattle.std.specs.List.{list_any}
use Rattle.sp_model.specs.declared.declaration.FunctionDecl.{FunctionDecl}
use Rattle.hydrate_graph.specs.Numbers.{numbers_of}

abbrev pub some_flag : List Bool → List ℕ → Bool
some_flag flags numbers = list_any (λ number. get_or flags number false) numbers

-- of each function, whether it has this name or needs a function that is flagged
abbrev pub reach_step : List FunctionDecl → List ℕ → List Bool → List Bool
reach_step functions name flags = map (λ f. bytes_eq f.name name || some_flag flags (numbers_of functions f.depends)) functions

-- of each function, whether it is the one of this name or needs it, over less than n others
abbrev pub reach_in : ℕ → List FunctionDecl → List ℕ → List Bool
reach_in zero functions name = []
reach_in (suc n) functions name = reach_step functions name (reach_in n functions name)

abbrev pub source_flag : List Bool → Option ℕ → Bool
source_flag flags None = false
source_flag flags (Some number) = get_or flags number false

-- of each function, whether one of these sources needs it
abbrev pub wanted_flags : List FunctionDecl → List (Option ℕ) → List Bool
wanted_flags functions sources = map (λ f. list_any (source_flag (reach_in (length functions) functions f.name)) sources) functions

-- slots from this one on for what is flagged, and none for the others
abbrev pub slots_from : ℕ → List Bool → List (Option ℕ)
slots_from next [] = []
slots_from next (true ∷ flags) = Some next ∷ slots_from (suc next) flags
slots_from next (false ∷ flags) = None ∷ slots_from next flags

-- the first slot that isn't taken then
abbrev pub room_from : ℕ → List Bool → ℕ
room_from next [] = next
room_from next (true ∷ flags) = room_from (suc next) flags
room_from next (false ∷ flags) = room_from next flags
