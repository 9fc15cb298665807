-- Which instances a call has, the laws of limiters over a journal, and what a gate answers.
use Rattle.std.specs.Prelude.{◌≡◌, ℕ, ◌≤◌, ◌<◌, Bool, true, false, ◌&&◌, List, [], ◌∷◌, ◌++◌, map, take, nat_le, Option, Some, None, is_some, IfSome, bytes_eq, if◌then◌else◌}
use Rattle.std.specs.Cmp.Lexicographic.{pointwise}
use Rattle.std.specs.List.{AllByRecursion, list_any, list_all}
use Rattle.std.specs.Option.{unwrap_or}
use Rattle.rate_bucket.specs.Windows.{Rate, KeepsWindows, MayGrant, IsFirstFrom}
use Rattle.sp_model.specs.declared.settings.Limiter.{Limiter}
use Rattle.sp_model.specs.declared.settings.Pair.{Pair}
use Rattle.rate_gate.specs.declared.tag_list.TagList.{TagList}
use Rattle.rate_gate.specs.declared.entry.Entry.{Entry}
use Rattle.rate_gate.specs.Journal.{open_count, grant_ticks, IsOrdered}

-- ---- instances

-- the value of the first pair of a name
abbrev pub value_of : List ℕ → List Pair → Option (List ℕ)
value_of name [] = None
value_of name (p ∷ ps) = if bytes_eq p.name name then Some p.value else value_of name ps

abbrev pub is_value : List ℕ → Option (List ℕ) → Bool
is_value wanted None = false
is_value wanted (Some value) = bytes_eq value wanted

abbrev pub has_pairs : List Pair → Bool
has_pairs [] = false
has_pairs (p ∷ ps) = true

-- the call has a value for each name of the scope, and those of the conditions
abbrev pub applies : Limiter → TagList → Bool
applies l tags = has_pairs tags.pairs && list_all (λ name. is_some (value_of name tags.pairs)) l.scope && list_all (λ c. is_value c.value (value_of c.name tags.pairs)) l.conds

-- the call's values of the scope
abbrev pub scope_values : Limiter → TagList → List (List ℕ)
scope_values l tags = map (λ name. unwrap_or (value_of name tags.pairs) []) l.scope

-- the limiter applies to the call, and this is the call's instance of it: there is one for each list of values of the scope
abbrev pub in_instance : Limiter → List (List ℕ) → TagList → Bool
in_instance l values tags = applies l tags && pointwise bytes_eq (scope_values l tags) values

-- ---- laws

abbrev pub rate_from : Option ℕ → Option ℕ → ℕ → Option Rate
rate_from (Some size) (Some fill) per = Some (record { size = size; fill = fill; per = per })
rate_from _ _ per = None

abbrev pub rate_of : Limiter → Option Rate
rate_of l = rate_from l.bucket_size l.fill l.per

-- the numbers of a bucket are at least 1
abbrev pub IsLimiter : Limiter → Type 0
IsLimiter l = IfSome (rate_of l) (λ r. (1 ≤ r.size) × (1 ≤ r.fill) × (1 ≤ r.per))

-- in each prefix at most so many grants are open
abbrev pub KeepsPlaces : (TagList → Bool) → ℕ → List Entry → Type 0
KeepsPlaces passes most journal = (n : ℕ) → open_count passes (take n journal) ≤ most

-- the laws of one instance: those of its bucket's windows, and of its open grants
pub record KeepsLimit (l : Limiter) (passes : TagList → Bool) (journal : List Entry) : Type 0 where
  pub windows : IfSome (rate_of l) (λ r. KeepsWindows r (grant_ticks passes journal))
  pub places : IfSome l.max_concurrency (λ most. KeepsPlaces passes most journal)

-- the journal is in order and keeps the laws of each instance of each limiter
pub record KeepsLimiters (limiters : List Limiter) (journal : List Entry) : Type 0 where
  pub ordered : IsOrdered journal
  pub limits : AllByRecursion (λ l. (values : List (List ℕ)) → KeepsLimit l (in_instance l values) journal) limiters

-- ---- what a gate answers

abbrev pub reaches : Option ℕ → ℕ → Bool
reaches None count = false
reaches (Some most) count = nat_le most count

-- the call's instance of the limiter has its full number of open grants
abbrev pub is_full : TagList → List Entry → Limiter → Bool
is_full tags journal l = applies l tags && reaches l.max_concurrency (open_count (in_instance l (scope_values l tags)) journal)

-- a grant at the tick u keeps the windows of the call's instance of the limiter
abbrev pub HasToken : TagList → List Entry → ℕ → Limiter → Type 0
HasToken tags journal u l = applies l tags ≡ true → IfSome (rate_of l) (λ r. MayGrant r (grant_ticks (in_instance l (scope_values l tags)) journal) u)

-- a grant at the tick u keeps the windows of each of the call's instances
abbrev pub HasTokens : List Limiter → TagList → List Entry → ℕ → Type 0
HasTokens limiters tags journal u = AllByRecursion (HasToken tags journal u) limiters

-- what contracts see of a gate; what it answers follows from these two
pub record GateView : Type 0 where
  pub limiters : List Limiter
  pub journal : List Entry

-- some instance of the call is full
abbrev pub HasFull : GateView → TagList → Type 0
HasFull g tags = list_any (is_full tags g.journal) g.limiters ≡ true

-- none of the call's instances is full
abbrev pub HasPlaces : GateView → TagList → Type 0
HasPlaces g tags = list_any (is_full tags g.journal) g.limiters ≡ false

-- none is full, and u is the least tick, later than the asked one, at which each has a token
pub record IsUntil (g : GateView) (tags : TagList) (tick u : ℕ) : Type 0 where
  pub places : HasPlaces g tags
  pub later : tick < u
  pub least : IsFirstFrom tick (HasTokens g.limiters tags g.journal) u

-- a gate with one entry more
abbrev pub noted : GateView → Entry → GateView
noted g entry = record { limiters = g.limiters; journal = g.journal ++ entry ∷ [] }
