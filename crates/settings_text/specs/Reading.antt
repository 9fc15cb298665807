-- The settings that a text is, or the first refusal.
use Rattle.std.specs.Prelude.{◌≡◌, ℕ, suc, Bool, ◌||◌, List, [], ◌∷◌, ◌++◌, map, length, nat_lt, Option, Some, None, Result, Ok, Err, option_map, if◌then◌else◌}
use Rattle.std.specs.Option.{option_or, ok_or}
use Rattle.std.specs.Str.{is_utf8}
use Rattle.toml.specs.Data.{Data, table}
use Rattle.toml.specs.Parse.{parse_document}
use Rattle.sp_model.specs.Names.{has_name}
use Rattle.sp_model.specs.declared.settings.Connection as connection
use Rattle.sp_model.specs.declared.settings.Limiter as limiter
use Rattle.sp_model.specs.declared.settings.Options as options
use Rattle.sp_model.specs.declared.settings.Settings.{Settings}
use Rattle.settings_text.specs.Entries.{with_entry, written_of}
use Rattle.settings_text.specs.Aggregators.{is_empty_aggregator, members_differ, with_members}
use Rattle.settings_text.specs.Limits.{most_entries, options_within, is_long, limiter_within}
use Rattle.settings_text.specs.declared.fault.Entry.{Entry}
use Rattle.settings_text.specs.declared.fault.Entry.TheVariants.{Top, Options}
use Rattle.settings_text.specs.declared.fault.SettingsFault.{SettingsFault}
use Rattle.settings_text.specs.declared.fault.SettingsFault.TheVariants.{Toml, NotYet, Duplicate, EmptyAggregator, MembersDiffer, Limit, Memory}
use Rattle.settings_text.specs.declared.written.Written.{Written}
use Rattle.settings_text.specs.declared.written.WrittenLimiter.{WrittenLimiter}

-- ---- the first entry of a kind

-- the number of the first that passes the test, where the first of all has this number
abbrev pub first_where : {T : Type 0} → (T → Bool) → ℕ → List T → Option ℕ
first_where test number [] = None
first_where test number (x ∷ xs) = if test x then Some number else first_where test (suc number) xs

-- the number of the first name that is among those before it
abbrev pub first_repeat : List (List ℕ) → ℕ → List (List ℕ) → Option ℕ
first_repeat before number [] = None
first_repeat before number (name ∷ names) = if has_name before name then Some number else first_repeat (before ++ name ∷ []) (suc number) names

abbrev pub first_connection : (connection.Connection → Bool) → Written → Option Entry
first_connection test w = option_map Entry.Connection (first_where test 1 w.connections)

abbrev pub first_limiter : List WrittenLimiter → Option Entry
first_limiter [] = None
first_limiter (l ∷ ls) = Some (Entry.Limiter 1)

-- a second connection, or a second limiter, of one name
abbrev pub duplicate : Written → Option Entry
duplicate w = option_or
    (option_map Entry.Connection (first_repeat [] 1 (map (λ c. c.name) w.connections)))
    (option_map Entry.Limiter (first_repeat [] 1 (map (λ l. l.name) w.limiters)))

-- ---- the settings

abbrev pub unless : {T : Type 0} → (Entry → SettingsFault) → Option Entry → Result T SettingsFault → Result T SettingsFault
unless fault (Some at) more = Err (fault at)
unless fault None more = more

-- too many connections or limiters
abbrev pub are_many : Written → Bool
are_many w = nat_lt most_entries (length w.connections) || nat_lt most_entries (length w.limiters)

abbrev pub limiters_within : ℕ → List WrittenLimiter → Result (List limiter.Limiter) SettingsFault
limiters_within number [] = Ok []
limiters_within number (l ∷ ls) = with_entry (ok_or (limiter_within l) (Limit (Entry.Limiter number))) (limiters_within (suc number) ls)

abbrev pub connections_within : Written → Result (List connection.Connection) SettingsFault
connections_within w = unless Limit (first_connection is_long w) (Ok (with_members w.connections))

abbrev pub settings_from : Result options.Options SettingsFault → Result (List connection.Connection) SettingsFault → Result (List limiter.Limiter) SettingsFault → Result Settings SettingsFault
settings_from (Err fault) connections limiters = Err fault
settings_from (Ok options) (Err fault) limiters = Err fault
settings_from (Ok options) (Ok connections) (Err fault) = Err fault
settings_from (Ok options) (Ok connections) (Ok limiters) = Ok (record { options = options; connections = connections; limiters = limiters })

-- the settings, or the first place where a number or a list is out of its range: the top, the options, the connections, the limiters
abbrev pub within_limits : Written → Result Settings SettingsFault
within_limits w = if are_many w
    then Err (Limit Top)
    else settings_from (ok_or (options_within w.options) (Limit Options)) (connections_within w) (limiters_within 1 w.limiters)

-- the first kind of refusal that there is, at its first place
abbrev pub settings_of : Written → Result Settings SettingsFault
settings_of w =
    unless Duplicate (duplicate w)
    (unless EmptyAggregator (first_connection (is_empty_aggregator w.connections) w)
    (unless MembersDiffer (first_connection (members_differ w.connections) w)
    (within_limits w)))

-- the same without limiters, which are read, and refused until they can be served
abbrev pub served_settings_of : Written → Result Settings SettingsFault
served_settings_of w = unless NotYet (first_limiter w.limiters) (settings_of w)

abbrev pub of_written : (Written → Result Settings SettingsFault) → Result Written SettingsFault → Result Settings SettingsFault
of_written settings (Err fault) = Err fault
of_written settings (Ok w) = settings w

-- the TOML document that bytes are, if they are text and TOML
abbrev pub document_of : List ℕ → Option Data
document_of bytes = if is_utf8 bytes then option_map table (parse_document bytes) else None

abbrev pub of_document : (Written → Result Settings SettingsFault) → Option Data → Result Settings SettingsFault
of_document settings None = Err Toml
of_document settings (Some d) = of_written settings (written_of d)

abbrev pub read_settings : List ℕ → Result Settings SettingsFault
read_settings bytes = of_document served_settings_of (document_of bytes)

-- the same without the refusal "not yet"
abbrev pub read_all_settings : List ℕ → Result Settings SettingsFault
read_all_settings bytes = of_document settings_of (document_of bytes)

-- for private clauses: the fault of bytes that are no document, or want of memory
abbrev pub IsDocumentFault : SettingsFault → List ℕ → Type 0
IsDocumentFault Toml bytes = document_of bytes ≡ None
IsDocumentFault Memory bytes = Unit {0}
IsDocumentFault _ bytes = ⊥
