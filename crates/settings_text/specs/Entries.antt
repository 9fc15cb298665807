-- What a settings document says, entry by entry, before names are compared and numbers and lists are measured.
use Rattle.std.specs.Prelude.{ℕ, suc, ℤ, pos, Bool, true, false, ◌&&◌, ◌||◌, List, [], ◌∷◌, codes, is_some, is_none, unwrap_or, Option, Some, None, Result, Ok, Err, option_and_then, if◌then◌else◌}
use Rattle.std.specs.Option.{ok_or}
use Rattle.toml.specs.Data.{Data, Items, no_items, item, get, as_bool, as_integer, as_array}
use Rattle.read_members.specs.Tables.{table_has_only}
use Rattle.sp_model.specs.declared.settings.Connection as connection
use Rattle.sp_model.specs.declared.settings.Pair.{Pair}
use Rattle.settings_text.specs.Members.{optional, optional_or, name_of, connection_name_of, says, some_texts_of, names_of, list_of, pair_of}
use Rattle.settings_text.specs.declared.fault.Entry.{Entry}
use Rattle.settings_text.specs.declared.fault.Entry.TheVariants.{Top, Options}
use Rattle.settings_text.specs.declared.fault.SettingsFault.{SettingsFault}
use Rattle.settings_text.specs.declared.fault.SettingsFault.TheVariants.{Shape}
use Rattle.settings_text.specs.declared.written.Written.{Written}
use Rattle.settings_text.specs.declared.written.WrittenLimiter.{WrittenLimiter}
use Rattle.settings_text.specs.declared.written.WrittenOptions.{WrittenOptions}
use Rattle.settings_text.specs.declared.written.WrittenRates.{WrittenRates}

-- ---- options

abbrev pub default_options : WrittenOptions
default_options = record { cache = true; cache_ttl = pos 300000; cache_max = pos 64; window = pos 256; restarts = pos 3 }

abbrev pub options_from : Option Bool → Option ℤ → Option ℤ → Option ℤ → Option ℤ → Option WrittenOptions
options_from (Some cache) (Some cache_ttl) (Some cache_max) (Some window) (Some restarts) =
    Some (record { cache = cache; cache_ttl = cache_ttl; cache_max = cache_max; window = window; restarts = restarts })
options_from _ _ _ _ _ = None

abbrev pub options_keys : List (List ℕ)
options_keys = codes "cache" ∷ codes "cache_ttl" ∷ codes "cache_max" ∷ codes "window" ∷ codes "restarts" ∷ []

-- the table `options`, with defaults put in
abbrev pub options_of : Data → Option WrittenOptions
options_of d = if table_has_only options_keys d
    then options_from
    (optional_or default_options.cache as_bool (get (codes "cache") d))
    (optional_or default_options.cache_ttl as_integer (get (codes "cache_ttl") d))
    (optional_or default_options.cache_max as_integer (get (codes "cache_max") d))
    (optional_or default_options.window as_integer (get (codes "window") d))
    (optional_or default_options.restarts as_integer (get (codes "restarts") d))
    else None

-- ---- connections

abbrev pub plain_from : Option (List ℕ) → Option (List ℕ) → Option (List (List ℕ)) → Option connection.Connection
plain_from (Some name) (Some plugin) (Some command) =
    Some (record { name = name; plugin = plugin; command = command; aggregator = false; connections = []; members = [] })
plain_from _ _ _ = None

abbrev pub plain_keys : List (List ℕ)
plain_keys = codes "name" ∷ codes "plugin" ∷ codes "command" ∷ []

-- a connection with the command of its child
abbrev pub plain_of : Data → Option connection.Connection
plain_of d = if table_has_only plain_keys d
    then plain_from
    (option_and_then connection_name_of (get (codes "name") d))
    (option_and_then name_of (get (codes "plugin") d))
    (option_and_then some_texts_of (get (codes "command") d))
    else None

abbrev pub aggregator_from : Option (List ℕ) → Option (List ℕ) → Option (List (List ℕ)) → Option connection.Connection
aggregator_from (Some name) (Some plugin) (Some patterns) =
    Some (record { name = name; plugin = plugin; command = []; aggregator = true; connections = patterns; members = [] })
aggregator_from _ _ _ = None

abbrev pub aggregator_keys : List (List ℕ)
aggregator_keys = codes "name" ∷ codes "plugin" ∷ codes "type" ∷ codes "connections" ∷ []

-- `type = "aggregator"`, with patterns in place of a command
abbrev pub aggregator_of : Data → Option connection.Connection
aggregator_of d = if table_has_only aggregator_keys d && says (codes "aggregator") (get (codes "type") d)
    then aggregator_from
    (option_and_then connection_name_of (get (codes "name") d))
    (option_and_then name_of (get (codes "plugin") d))
    (option_and_then some_texts_of (get (codes "connections") d))
    else None

-- a connection with `type` is an aggregator, every other a plain connection
abbrev pub connection_of : Data → Option connection.Connection
connection_of d = if is_some (get (codes "type") d) then aggregator_of d else plain_of d

-- ---- limiters

abbrev pub rates_from : Option (Option ℤ) → Option (Option ℤ) → Option (Option ℤ) → Option (Option ℤ) → Option WrittenRates
rates_from (Some bucket_size) (Some fill) (Some per) (Some max_concurrency) =
    Some (record { bucket_size = bucket_size; fill = fill; per = per; max_concurrency = max_concurrency })
rates_from _ _ _ _ = None

abbrev pub has_bucket : WrittenRates → Bool
has_bucket r = is_some r.bucket_size && is_some r.fill

abbrev pub has_no_bucket : WrittenRates → Bool
has_no_bucket r = is_none r.bucket_size && is_none r.fill && is_none r.per

-- a bucket, a concurrency or both, and `per` only with a bucket
abbrev pub is_limit : WrittenRates → Bool
is_limit r = has_bucket r || has_no_bucket r && is_some r.max_concurrency

abbrev pub if_limit : WrittenRates → Option WrittenRates
if_limit r = if is_limit r then Some r else None

abbrev pub rates_of : Data → Option WrittenRates
rates_of d = option_and_then if_limit (rates_from
    (optional as_integer (get (codes "bucket_size") d))
    (optional as_integer (get (codes "fill") d))
    (optional as_integer (get (codes "per") d))
    (optional as_integer (get (codes "max_concurrency") d)))

abbrev pub limiter_from : Option (List ℕ) → Option WrittenRates → Option (List (List ℕ)) → Option (List Pair) → Option WrittenLimiter
limiter_from (Some name) (Some rates) (Some scope) (Some conds) = Some (record { name = name; rates = rates; scope = scope; conds = conds })
limiter_from _ _ _ _ = None

abbrev pub limiter_keys : List (List ℕ)
limiter_keys =
    codes "name" ∷ codes "bucket_size" ∷ codes "fill" ∷ codes "per" ∷ codes "max_concurrency" ∷ codes "scope" ∷ codes "conds" ∷ []

abbrev pub limiter_of : Data → Option WrittenLimiter
limiter_of d = if table_has_only limiter_keys d
    then limiter_from
    (option_and_then name_of (get (codes "name") d))
    (rates_of d)
    (optional_or [] names_of (get (codes "scope") d))
    (optional_or [] (list_of pair_of) (get (codes "conds") d))
    else None

-- ---- the document

-- the entry has the form, or the refusal is at this place
abbrev pub shaped : {T : Type 0} → Entry → Option T → Result T SettingsFault
shaped at o = ok_or o (Shape at)

abbrev pub with_entry : {T : Type 0} → Result T SettingsFault → Result (List T) SettingsFault → Result (List T) SettingsFault
with_entry (Err fault) more = Err fault
with_entry (Ok x) (Err fault) = Err fault
with_entry (Ok x) (Ok xs) = Ok (x ∷ xs)

-- entries of a form, where the first has this number; the first that has another form is refused
abbrev pub entries_from : {T : Type 0} → (Data → Option T) → (ℕ → Entry) → ℕ → Items → Result (List T) SettingsFault
entries_from form place number no_items = Ok []
entries_from form place number (item d ds) = with_entry (shaped (place number) (form d)) (entries_from form place (suc number) ds)

-- the entries of an array of tables, or none
abbrev pub entries_at : List ℕ → Data → Items
entries_at key d = unwrap_or (option_and_then as_array (get key d)) no_items

abbrev pub has_some : Items → Bool
has_some no_items = false
has_some (item d ds) = true

abbrev pub is_array_or_absent : Option Data → Bool
is_array_or_absent None = true
is_array_or_absent (Some d) = is_some (as_array d)

abbrev pub top_keys : List (List ℕ)
top_keys = codes "options" ∷ codes "connection" ∷ codes "limiter" ∷ []

-- at least one connection
abbrev pub is_top : Data → Bool
is_top d = table_has_only top_keys d && has_some (entries_at (codes "connection") d) && is_array_or_absent (get (codes "limiter") d)

abbrev pub options_in : Data → Result WrittenOptions SettingsFault
options_in d = shaped Options (optional_or default_options options_of (get (codes "options") d))

abbrev pub connections_in : Data → Result (List connection.Connection) SettingsFault
connections_in d = entries_from connection_of Entry.Connection 1 (entries_at (codes "connection") d)

abbrev pub limiters_in : Data → Result (List WrittenLimiter) SettingsFault
limiters_in d = entries_from limiter_of Entry.Limiter 1 (entries_at (codes "limiter") d)

abbrev pub written_from : Result WrittenOptions SettingsFault → Result (List connection.Connection) SettingsFault → Result (List WrittenLimiter) SettingsFault → Result Written SettingsFault
written_from (Err fault) connections limiters = Err fault
written_from (Ok options) (Err fault) limiters = Err fault
written_from (Ok options) (Ok connections) (Err fault) = Err fault
written_from (Ok options) (Ok connections) (Ok limiters) = Ok (record { options = options; connections = connections; limiters = limiters })

-- what the document says, or the first place that has another form: the top, the options, the connections, the limiters
abbrev pub written_of : Data → Result Written SettingsFault
written_of d = if is_top d then written_from (options_in d) (connections_in d) (limiters_in d) else Err (Shape Top)
