-- What a contract sees of a pool: what each key shows.
use Rattle.std.specs.Prelude.{◌≡◌, ◌≢◌, ℕ, ◌==◌, List, [], Option, Some, None, is_some, count_by, slice_index_or, slice_set, if◌then◌else◌, refl}
use Rattle.std.specs.Coded.{Coded, code_by, coded×, coded_ℕ, coded_list, coded_option}
use Rattle.row_pool.specs.declared.key.Key.{Key}
use Rattle.row_pool.specs.declared.held.Held.{Held}

-- what stands in each slot, how many slots there are, and how many values were ever taken in
pub record Pool (T : Type 0) : Type 0 where
  pub slots : List (Option (Held T))
  pub count : ℕ
  pub drawn : ℕ

-- how a value with its generation, and a pool, are stored
abbrev pub held_code : {T : Type 0} → Coded T → Coded (Held T)
held_code {T} code = code_by (ℕ × T) (coded× coded_ℕ code) (λ h. (h.generation, h.value)) (λ p. record { generation = p.0; value = p.1 }) (λ _. refl)

abbrev pub pool_code : {T : Type 0} → Coded T → Coded (Pool T)
pool_code {T} code =
    code_by
    (List (Option (Held T)) × (ℕ × ℕ))
    (coded× (coded_list (coded_option (held_code code))) (coded× coded_ℕ coded_ℕ))
    (λ p. (p.slots, (p.count, p.drawn)))
    (λ t. record { slots = t.0; count = t.1.0; drawn = t.1.1 })
    (λ _. refl)

module _ {T : Type 0} where
  -- the value that stands in a slot with this generation
  abbrev pub shown_at : ℕ → Option (Held T) → Option T
  shown_at generation None = None
  shown_at generation (Some held) = if held.generation == generation then Some held.value else None

  -- the value that a key shows
  abbrev pub shown : Pool T → Key → Option T
  shown p key = shown_at key.generation (slice_index_or p.slots key.slot None)

  -- how many slots have a value
  abbrev pub taken : Pool T → ℕ
  taken p = count_by is_some p.slots

  -- this key shows this afterwards, and every other key what it showed before
  pub record Changes (old new : Pool T) (key : Key) (value : Option T) : Type 0 where
    pub shows : shown new key ≡ value
    pub others : (other : Key) → other ≢ key → shown new other ≡ shown old other

  -- the pool once this value was written under a key
  abbrev pub with_value : Pool T → Key → T → Pool T
  with_value p key value = record p { slots = slice_set p.slots key.slot (Some (record { generation = key.generation; value = value })) }

-- a pool of so many slots into which nothing was taken
abbrev pub empty : {T : Type 0} → ℕ → Pool T
empty count = record { slots = []; count = count; drawn = 0 }
