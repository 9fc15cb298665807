-- Kept scans: their rows, and those that serve.
use Rattle.std.proofs.Common.{◌≡◌, ℕ, zero, suc, ◌≤◌, ◌^◌, Bool, true, false, ◌&&◌, cond, length, List, [], ◌∷◌, ◌++◌, Option, Some, None, option_map, refl, sym}
use Rattle.std.specs.Prelude.{slice_get, IfSome}
use Rattle.std.specs.Arc.{arc_value}
use Rattle.std.specs.List.{AllByRecursion, find}
use Rattle.std.specs.declared.sync.Arc.{Arc}
use Rattle.sp_value.specs.declared.cell.Cell.{Cell}
use Rattle.sp_model.specs.Covers.{covers}
use Rattle.sp_model.specs.declared.scan.ScanRequest.{ScanRequest}
use Rattle.sp_world.specs.Kept.{IsKeptForm}
use Rattle.sp_world.specs.declared.kept_scan.KeptScan.{KeptScan}
use Rattle.query_cache.specs.Entries.{serves}

abbrev AreWide : ℕ → List (List Cell) → Type 0
AreWide width rows = AllByRecursion (λ (row : List Cell). length row ≡ width) rows

pub one_wide_more : (width : ℕ) (rows : List (List Cell)) (row : List Cell) → AreWide width rows → length row ≡ width → AreWide width (rows ++ row ∷ [])
one_wide_more width [] row h wide = (wide, tt)
one_wide_more width (r ∷ rows) row h wide = (h.0, one_wide_more width rows row h.1 wide)

wide_at : (width : ℕ) (rows : List (List Cell)) → AreWide width rows → (k : ℕ) (row : List Cell) → slice_get rows k ≡ Some row → length row ≡ width
wide_at width [] h k row is = absurd (cc)
wide_at width (r ∷ rows) h zero row is = let same : r ≡ row = cc in cc (h.0, same)
wide_at width (r ∷ rows) h (suc k) row is = wide_at width rows h.1 k row is

pub has_form : (kept : KeptScan) → AreWide (length kept.note.request.columns) kept.rows → kept.note.asked ≤ 2 ^ 62 → kept.note.at ≤ 2 ^ 62 → IsKeptForm kept
has_form kept wide asked at = (wide_at (length kept.note.request.columns) kept.rows wide, asked, at)

by_test : {X : Type 0} (p : X → Bool) (y x : X) (ys : List X) (b : Bool) → p y ≡ b → (find p ys ≡ Some x → p x ≡ true) → cond b (Some y) (find p ys) ≡ Some x → p x ≡ true
by_test p y x ys true e later is = let same : y ≡ x = cc in cc (e, same)
by_test p y x ys false e later is = later is

-- what is found passes
find_passes : {X : Type 0} (p : X → Bool) (xs : List X) (x : X) → find p xs ≡ Some x → p x ≡ true
find_passes {X} p [] x is = absurd (cc)
find_passes {X} p (y ∷ ys) x is = by_test p y x ys (p y) refl (find_passes p ys x) is

left : (a b : Bool) → (a && b) ≡ true → a ≡ true
left true b h = refl
left false b h = absurd (cc)

pub found_covers : {Z : Type 0} (r : ScanRequest) (tick ttl : ℕ) (entries : List KeptScan) (found : Option (Arc KeptScan Z)) → option_map arc_value found ≡ find (serves r tick ttl) entries
    → IfSome found (λ k. covers (arc_value k).note.request (arc_value k).complete r ≡ true)
found_covers {Z} r tick ttl entries None h = tt
found_covers {Z} r tick ttl entries (Some k) h = left _ _ (find_passes (serves r tick ttl) entries (arc_value k) (sym h))
