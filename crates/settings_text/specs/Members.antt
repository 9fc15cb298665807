-- How the members of a TOML table are read.
use Rattle.std.specs.Prelude.{ℕ, Bool, false, List, [], ◌∷◌, bytes_eq, Option, Some, None, option_and_then, option_map, if◌then◌else◌}
use Rattle.std.specs.List.{list_all}
use Rattle.std.specs.Option.{option_map_or}
use Rattle.toml.specs.Data.{Data, Items, no_items, item, as_str, as_array}
use Rattle.sp_model.specs.Names.{is_name, is_connection_name}
use Rattle.sp_model.specs.declared.settings.Pair.{Pair}

-- a key that may be absent: without it nothing is read, and with it what `form` reads
abbrev pub optional : {T : Type 0} → (Data → Option T) → Option Data → Option (Option T)
optional form None = Some None
optional form (Some d) = option_map Some (form d)

-- a key that may be absent: without it the default is read
abbrev pub optional_or : {T : Type 0} → T → (Data → Option T) → Option Data → Option T
optional_or default form None = Some default
optional_or default form (Some d) = form d

abbrev pub cons_some : {T : Type 0} → Option T → Option (List T) → Option (List T)
cons_some (Some x) (Some xs) = Some (x ∷ xs)
cons_some _ _ = None

-- each item of an array, all of one form
abbrev pub each : {T : Type 0} → (Data → Option T) → Items → Option (List T)
each form no_items = Some []
each form (item d ds) = cons_some (form d) (each form ds)

abbrev pub list_of : {T : Type 0} → (Data → Option T) → Data → Option (List T)
list_of form d = option_and_then (each form) (as_array d)

-- ---- texts

abbrev pub if_passes : (List ℕ → Bool) → List ℕ → Option (List ℕ)
if_passes test text = if test text then Some text else None

-- a text that passes the test
abbrev pub text_by : (List ℕ → Bool) → Data → Option (List ℕ)
text_by test d = option_and_then (if_passes test) (as_str d)

abbrev pub name_of : Data → Option (List ℕ)
name_of d = text_by is_name d

abbrev pub connection_name_of : Data → Option (List ℕ)
connection_name_of d = text_by is_connection_name d

-- the key stands there with this text
abbrev pub says : List ℕ → Option Data → Bool
says word o = option_map_or (bytes_eq word) (option_and_then as_str o) false

abbrev pub if_some : List (List ℕ) → Option (List (List ℕ))
if_some [] = None
if_some (t ∷ ts) = Some (t ∷ ts)

-- an array of texts that isn't empty
abbrev pub some_texts_of : Data → Option (List (List ℕ))
some_texts_of d = option_and_then if_some (list_of as_str d)

abbrev pub if_names : List (List ℕ) → Option (List (List ℕ))
if_names texts = if list_all is_name texts then Some texts else None

-- an array of names
abbrev pub names_of : Data → Option (List (List ℕ))
names_of d = option_and_then if_names (list_of as_str d)

abbrev pub pair_from : Option (List ℕ) → Option (List ℕ) → Option Pair
pair_from (Some name) (Some value) = Some (record { name = name; value = value })
pair_from _ _ = None

-- `["name", "value"]`
abbrev pub pair_in : Items → Option Pair
pair_in no_items = None
pair_in (item name no_items) = None
pair_in (item name (item value no_items)) = pair_from (name_of name) (as_str value)
pair_in (item name (item value (item more ds))) = None

abbrev pub pair_of : Data → Option Pair
pair_of d = option_and_then pair_in (as_array d)
