-- The ranges of numbers and the lengths of lists.
use Rattle.std.specs.Prelude.{ℕ, ℤ, pos, negsuc, Bool, ◌&&◌, ◌||◌, length, nat_le, nat_lt, unwrap_or, Option, Some, None, option_map, if◌then◌else◌}
use Rattle.sp_model.specs.declared.settings.Connection.{Connection}
use Rattle.sp_model.specs.declared.settings.Limiter.{Limiter}
use Rattle.sp_model.specs.declared.settings.Options.{Options}
use Rattle.settings_text.specs.declared.written.WrittenLimiter.{WrittenLimiter}
use Rattle.settings_text.specs.declared.written.WrittenOptions.{WrittenOptions}

-- connections, limiters, texts of a command and patterns of an aggregator: of each at most so many
abbrev pub most_entries : ℕ
most_entries = 64

-- names in a limiter's scope, and its conditions
abbrev pub most_listed : ℕ
most_listed = 16

-- ticks
abbrev pub longest_ttl : ℕ
longest_ttl = 1000000000000

abbrev pub largest_cache : ℕ
largest_cache = 1024

abbrev pub widest_window : ℕ
widest_window = 4096

abbrev pub most_restarts : ℕ
most_restarts = 100

-- tokens of a bucket, tokens that fill it, and open calls
abbrev pub highest_rate : ℕ
highest_rate = 1000000

-- ticks; 1000 where nothing is said
abbrev pub longest_per : ℕ
longest_per = 1000000000

abbrev pub default_per : ℤ
default_per = pos 1000

-- a number of this range
abbrev pub within : ℕ → ℕ → ℤ → Option ℕ
within least most (pos n) = if nat_le least n && nat_le n most then Some n else None
within least most (negsuc n) = None

-- a number of this range, or none
abbrev pub none_or_within : ℕ → ℕ → Option ℤ → Option (Option ℕ)
none_or_within least most None = Some None
none_or_within least most (Some z) = option_map Some (within least most z)

abbrev pub options_from : Bool → Option ℕ → Option ℕ → Option ℕ → Option ℕ → Option Options
options_from cache (Some cache_ttl) (Some cache_max) (Some window) (Some restarts) =
    Some (record { cache = cache; cache_ttl = cache_ttl; cache_max = cache_max; window = window; restarts = restarts })
options_from cache _ _ _ _ = None

abbrev pub options_within : WrittenOptions → Option Options
options_within w = options_from w.cache
    (within 0 longest_ttl w.cache_ttl)
    (within 1 largest_cache w.cache_max)
    (within 1 widest_window w.window)
    (within 0 most_restarts w.restarts)

-- too many texts of a command, or too many patterns
abbrev pub is_long : Connection → Bool
is_long c = nat_lt most_entries (length c.command) || nat_lt most_entries (length c.connections)

abbrev pub limiter_from : WrittenLimiter → Option (Option ℕ) → Option (Option ℕ) → Option ℕ → Option (Option ℕ) → Option Limiter
limiter_from w (Some bucket_size) (Some fill) (Some per) (Some max_concurrency) =
    Some (record { name = w.name; bucket_size = bucket_size; fill = fill; per = per; max_concurrency = max_concurrency; scope = w.scope; conds = w.conds })
limiter_from w _ _ _ _ = None

abbrev pub is_short : WrittenLimiter → Bool
is_short w = nat_le (length w.scope) most_listed && nat_le (length w.conds) most_listed

-- the limiter, where its lists are short and each number is in its range
abbrev pub limiter_within : WrittenLimiter → Option Limiter
limiter_within w = if is_short w
    then limiter_from w
    (none_or_within 1 highest_rate w.rates.bucket_size)
    (none_or_within 1 highest_rate w.rates.fill)
    (within 1 longest_per (unwrap_or w.rates.per default_per))
    (none_or_within 1 highest_rate w.rates.max_concurrency)
    else None
