-- Where all conditions are sent and the fan has each value once, the scans of a left row are those of its units.
use Rattle.std.proofs.Common.{◌≡◌, ℕ, Bool, true, false, ◌&&◌, List, [], ◌∷◌, ◌++◌, map, filter, cond, Option, Some, None, refl, sym, ap, ◌∙◌}
use Rattle.std.proofs.lemmas.Bool.{and_from}
use Rattle.std.proofs.lemmas.List.{map-append}
use Rattle.std.specs.List.{list_all, filter_map, flat_map, cons_option}
use Rattle.sp_value.specs.declared.cell.Cell.{Cell}
use Rattle.sp_model.specs.Keys.{is_sent, equals}
use Rattle.sp_model.specs.Units.{unit_of, unit_of_sent, with_value, fanned, flat_map as each_of}
use Rattle.sp_model.specs.declared.call.Condition.{Condition}
use Rattle.sp_model.specs.declared.declaration.KeyDecl.{KeyDecl}
use Rattle.model_laws.proofs.Merging.{left, right}
use Rattle.source_scans.specs.Asking.{condition_at, fan_of, unit_scan, units_at}
use Rattle.source_scans.specs.Collecting.{with_fan, scans_at}
use Rattle.source_scans.specs.Planned.{IsFan, IsPlanned, conditions_of}
use Rattle.source_scans.specs.declared.source.Fan.{Fan}
use Rattle.source_scans.specs.declared.source.PlanCondition.{PlanCondition}
use Rattle.source_scans.specs.declared.source.PlanSource.{PlanSource}

-- whether a condition is sent doesn't depend on the left row
pub sent_anywhere : (keys : List KeyDecl) (row : List Cell) (cs : List PlanCondition) → list_all (is_sent keys) (map (condition_at row) cs) ≡ list_all (is_sent keys) (conditions_of cs)
sent_anywhere keys row [] = refl
sent_anywhere keys row (c ∷ cs) = ap (λ b. is_sent keys (condition_at [] c) && b) (sent_anywhere keys row cs)

kept_by : {X : Type 0} (x : X) (xs ys : List X) (b : Bool) → b ≡ true → ys ≡ xs → cond b (x ∷ ys) ys ≡ x ∷ xs
kept_by x xs ys true h e = ap (λ l. x ∷ l) e
kept_by x xs ys false h e = cc

all_kept : {X : Type 0} (p : X → Bool) (xs : List X) → list_all p xs ≡ true → filter p xs ≡ xs
all_kept p [] h = refl
all_kept p (x ∷ xs) h = kept_by x xs (filter p xs) (p x) (left (p x) (list_all p xs) h) (all_kept p xs (right (p x) (list_all p xs) h))

abbrev all_sent : List KeyDecl → List Condition → Bool
all_sent keys cs = list_all (is_sent keys) cs

same_units : (keys : List KeyDecl) (connection : List ℕ) (each : List (List Condition)) → list_all (all_sent keys) each ≡ true
    → filter_map (unit_of keys connection) each ≡ filter_map (unit_of_sent connection) each
same_units keys connection [] h = refl
same_units keys connection (cs ∷ each) h =
    ap (λ o. cons_option o (filter_map (unit_of keys connection) each)) (ap (unit_of_sent connection) (all_kept (is_sent keys) cs (left (all_sent keys cs) (list_all (all_sent keys) each) h)))
    ∙ ap (cons_option (unit_of_sent connection cs)) (same_units keys connection each (right (all_sent keys cs) (list_all (all_sent keys) each) h))

fan_sent : (keys : List KeyDecl) (column : List ℕ) (cs : List Condition) (xs : List Cell) → is_sent keys (equals column) ≡ true → all_sent keys cs ≡ true
    → list_all (all_sent keys) (map (with_value column cs) xs) ≡ true
fan_sent keys column cs [] h k = refl
fan_sent keys column cs (x ∷ xs) h k =
    and_from (all_sent keys (with_value column cs x)) (list_all (all_sent keys) (map (with_value column cs) xs))
    (and_from (is_sent keys (equals column)) (all_sent keys cs) h k) (fan_sent keys column cs xs h k)

each_sent : (keys : List KeyDecl) (columns : List (List ℕ)) (fan : Option Fan) (cs : List Condition) → IsFan keys columns fan → all_sent keys cs ≡ true → list_all (all_sent keys) (with_fan fan cs) ≡ true
each_sent keys columns None cs f h = and_from (all_sent keys cs) true h refl
each_sent keys columns (Some fan) cs f h = fan_sent keys fan.column cs fan.values f.sent h

same_fan : (keys : List KeyDecl) (columns : List (List ℕ)) (fan : Option Fan) (cs : List Condition) → IsFan keys columns fan → fanned (fan_of fan) cs ≡ with_fan fan cs
same_fan keys columns None cs f = refl
same_fan keys columns (Some fan) cs f = ap (map (with_value fan.column cs)) f.distinct

map_each : {X Y Z : Type 0} (f : Y → Z) (g h : X → List Y) (xs : List X) → ((x : X) → g x ≡ h x) → map f (each_of g xs) ≡ flat_map (λ x. map f (h x)) xs
map_each f g h [] e = refl
map_each f g h (x ∷ xs) e = map-append f (g x) (each_of g xs) ∙ ap (λ l. map f l ++ map f (each_of g xs)) (e x) ∙ ap (λ l. map f (h x) ++ l) (map_each f g h xs e)

pub scans_are_units : (s : PlanSource) (row : List Cell) → IsPlanned s → flat_map (scans_at s row) s.connections ≡ units_at s row
unfolding units_at
scans_are_units s row p =
    let cs : List Condition = map (condition_at row) s.conditions in
    let sent : all_sent s.keys cs ≡ true = sent_anywhere s.keys row s.conditions ∙ p.sent in
    sym (map_each unit_scan (λ connection. filter_map (unit_of s.keys connection) (fanned (fan_of s.fan) cs)) (λ connection. filter_map (unit_of_sent connection) (with_fan s.fan cs)) s.connections
    (λ connection. ap (filter_map (unit_of s.keys connection)) (same_fan s.keys s.columns s.fan cs p.fan) ∙ same_units s.keys connection (with_fan s.fan cs) (each_sent s.keys s.columns s.fan cs p.fan sent)))
