-- The least of some ticks, looked at one after another.
use Rattle.std.proofs.Common.{◌≡◌, ◌≤◌, ℕ, zero, suc, List, [], ◌∷◌, length, map, drop, Option, Some, None, refl, sym, ap, ◌∙◌, arith}
use Rattle.row_pool.specs.Pools.{Pool, shown}
use Rattle.row_pool.specs.declared.key.Key.{Key}
use Rattle.row_flight.specs.Dues.{sooner, soonest, row_due, shown_due, key_due}
use Rattle.row_flight.specs.Pooled.{with_row, seated}
use Rattle.row_flight.specs.declared.row.RowCalls.{RowCalls}

sooner_none : (a : Option ℕ) → sooner a None ≡ a
sooner_none None = refl
sooner_none (Some a) = refl

drop_all : {X : Type 0} (xs : List X) (i : ℕ) → length xs ≤ i → drop i xs ≡ []
drop_all [] zero l = refl
drop_all [] (suc i) l = refl
drop_all (x ∷ xs) zero l = absurd (omega (arith, l))
drop_all (x ∷ xs) (suc i) l = drop_all xs i (omega (arith, l))

module _ {X : Type 0} (tick : X → Option ℕ) (xs : List X) where
  -- all are looked at
  pub soonest_end : (least : Option ℕ) (i : ℕ) → length xs ≤ i → sooner least (soonest (map tick (drop i xs))) ≡ soonest (map tick xs) → least ≡ soonest (map tick xs)
  soonest_end least i l is = sym (sooner_none least) ∙ ap (λ ys. sooner least (soonest (map tick ys))) (sym (drop_all xs i l)) ∙ is

shown_first : (key : Key) (o : Option RowCalls) (p : Pool RowCalls) (keys : List Key) → soonest (map (λ s. row_due s.row) (with_row key o (seated p keys))) ≡ sooner (shown_due o) (soonest (map (λ s. row_due s.row) (seated p keys)))
shown_first key None p keys = refl
shown_first key (Some row) p keys = refl

-- by the rows or by their keys
pub due_by_keys : (p : Pool RowCalls) (keys : List Key) → soonest (map (λ s. row_due s.row) (seated p keys)) ≡ soonest (map (key_due p) keys)
due_by_keys p [] = refl
due_by_keys p (key ∷ keys) = shown_first key (shown p key) p keys ∙ ap (sooner (key_due p key)) (due_by_keys p keys)
